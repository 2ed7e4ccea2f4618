-- What a check answers by the scratch's room, two bytes for each cluster. Assumes nothing.
use Prim.Native.Nat.{ℕ, ◌*◌, ◌/◌, ◌≤◌, ◌<◌}
use native.Mathlib.Omega.{arith}
use mathlib.Core.Path.{◌≡◌}
use mathlib.Core.List.{List}
use borrow.Author.Tests.{lt-ltb, le-ltb}
use Rattle.qcow2_spec.specs.declared.Geometry.{Geometry}
use Rattle.qcow2_spec.specs.declared.Verdict.TheVariants.{Refused as NotChecked}
use Rattle.qcow2_spec.specs.Header.{clusters}
use Rattle.qcow2_spec.specs.Opened.{Opened}
use Rattle.qcow2_spec.specs.Check.{verdict, checked}

module _ (g : Geometry) (s : List ℕ) (o : Opened g s) (n : ℕ) where
  pub check-short : n / 2 < g.clusters → NotChecked 15 ≡ checked s n
  unfolding checked
  check-short h = rw (lt-ltb n (2 * clusters s) (omega (arith, o.is-clusters)))

  pub check-room : g.clusters ≤ n / 2 → verdict s ≡ checked s n
  unfolding checked
  check-room h = rw (le-ltb n (2 * clusters s) (omega (arith, o.is-clusters)))
