-- What the walk over all L1 tables leaves for the verdict: its figures, entries that are good, and marks that are right.
-- Assumes nothing.
use Prim.Native.Nat.{ℕ, ◌≤◌}
use mathlib.Core.Path.{◌≡◌, sym, ap, ◌∙◌}
use mathlib.Core.Bool.{Bool, true, not, ◌&&◌}
use mathlib.Core.List.{List}
use native.Mathlib.Omega.{arith}
use borrow.Author.Tests.{eqb-true, ltb-true, eq-eqb}
use lib.Dec.{ltb, eqb}
use Rattle.choice.specs.Pick.{first}
use Rattle.choice.proofs.Tests.{and-true}
use Rattle.tally.specs.Tally.{wide}
use Rattle.tally.proofs.Wide.{figures_fit}
use Rattle.packed_twos.specs.Twos.{figures_in}
use Rattle.packed_twos.proofs.Laws.{figures-wide}
use Rattle.qcow2_spec.specs.Header.{clusters, snapshots, roots}
use Rattle.qcow2_spec.specs.References.{figures_of, references}
use Rattle.qcow2_spec.specs.Check.{shared_at}
use Rattle.qcow2_spec.specs.declared.Verdict.TheVariants.{Sound}
use Rattle.qcow2_spec.proofs.Facts.{Facts}
use Rattle.qcow2_spec.proofs.Marks.{own-marks}
use Rattle.qcow2_trees.specs.Walks.{Front}
use Rattle.qcow2_forest.proofs.Fronts.{front-good, front-own}
use Rattle.qcow2_bad.specs.Known.{Before}
use Rattle.qcow2_verdict.specs.Marks.{OwnMarks}

-- the figures of a scratch once all is counted
pub counted-figures : (s f : List ℕ) → f ≡ wide (figures_of s) → figures_in f ≡ figures_of s
unfolding figures_of
counted-figures s f e = ap figures_in e ∙ figures-wide (figures_of s) (figures_fit (references s) 0 (clusters s))

-- entries that pass are good
pub front-before : {states : Bool} {s : List ℕ} {root row below : ℕ} → Front states s (roots s) root row below → Before s root row below
front-before {states} {s} {root} {row} {below} f =
    let a = front-good states s (roots s) root row below f in
    record {
      few = f.few;
      tables = a.whole;
      spot = λ l. record { few = omega (arith, f.inside l); rows = a.rows; below = a.clear };
    }

-- where all places are known to have bit 63 beside them, no mark is wrong
pub front-marks : {s : List ℕ} {root row below n : ℕ} {own : Bool} → Facts s → n ≡ snapshots s → own ≡ (eqb n 0 && ltb 0 root) → Front (not (eqb (snapshots s) 0)) s (roots s) root row below
    → own ≡ true → clusters s ≤ first (shared_at s) 0 (clusters s) → OwnMarks s (figures_of s)
front-marks {s} {root} {row} {below} {n} {own} facts e o f h none =
    let k = and-true (eqb n 0) (ltb 0 root) (sym o ∙ h) in
    let z : snapshots s ≡ 0 = sym e ∙ eqb-true n 0 k.0 in
    own-marks s facts z none Sound (front-own s (roots s) root row below (rw (eq-eqb (snapshots s) 0 z) at f) (ltb-true 0 root k.1))
