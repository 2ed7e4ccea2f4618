-- The plan of a repair and the scratch that it leaves, by the scratch's room, two bytes for each cluster. Assumes nothing.
use Prim.Native.Nat.{ℕ, ◌*◌, ◌/◌, ◌≤◌, ◌<◌}
use native.Mathlib.Omega.{arith}
use mathlib.Core.Path.{◌≡◌, ap, ◌∙◌}
use mathlib.Core.List.{List}
use borrow.Author.Tests.{lt-ltb, le-ltb}
use lib.ListN.{length}
use lib.Seq.{take_at}
use Rattle.tally.specs.Tally.{wide}
use Rattle.packed_twos.proofs.Laws.{length-wide}
use Rattle.units.specs.Plan.{refused}
use Rattle.qcow2_spec.specs.declared.Geometry.{Geometry}
use Rattle.qcow2_spec.specs.declared.Verdict.{Verdict}
use Rattle.qcow2_spec.specs.Header.{clusters}
use Rattle.qcow2_spec.specs.Opened.{Opened}
use Rattle.qcow2_spec.specs.Store.{clearing}
use Rattle.qcow2_spec.specs.References.{figures_of, scratch_after, scratch_counted}
use Rattle.qcow2_spec.specs.Check.{verdict, verdict_plan, repair_list}
use Rattle.qcow2_repair.specs.Leaks.{Figured}
use Rattle.qcow2_repair.proofs.Midway.{length_of}

-- the figures that the check left
pub left_figured : (s scratch t : List ℕ) → t ≡ scratch_after s scratch → Figured s t
unfolding scratch_after
left_figured s scratch t e =
    rw e (take_at (wide (figures_of s)) _ (2 * clusters s) (length-wide (figures_of s) ∙ ap (λ (n : ℕ). 2 * n) (length_of s)))

module _ (g : Geometry) (s : List ℕ) (o : Opened g s) where
  module _ (n : ℕ) where
    pub repair-short : n / 2 < g.clusters → clearing s (repair_list s n) ≡ refused 15
    unfolding repair_list clearing
    repair-short h = rw (lt-ltb n (2 * clusters s) (omega (arith, o.is-clusters)))

    pub repair-room : (v : Verdict) → g.clusters ≤ n / 2 → v ≡ verdict s → clearing s (repair_list s n) ≡ clearing s (verdict_plan s v)
    unfolding repair_list
    repair-room v h e = rw (le-ltb n (2 * clusters s) (omega (arith, o.is-clusters)), ← e)

  module _ (scratch : List ℕ) where
    pub scratch-short : length scratch / 2 < g.clusters → scratch ≡ scratch_counted s scratch
    unfolding scratch_counted
    scratch-short h = rw (lt-ltb (length scratch) (2 * clusters s) (omega (arith, o.is-clusters)))

    pub scratch-room : g.clusters ≤ length scratch / 2 → scratch_after s scratch ≡ scratch_counted s scratch
    unfolding scratch_counted
    scratch-room h = rw (le-ltb (length scratch) (2 * clusters s) (omega (arith, o.is-clusters)))
