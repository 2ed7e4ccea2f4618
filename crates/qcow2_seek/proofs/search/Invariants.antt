use Prim.Native.Nat.{ℕ}
use mathlib.Core.Path.{◌≡◌}
use mathlib.Core.Bool.{Bool}
use mathlib.Core.List.{List}
use Rattle.tally.specs.States.{twos}
use Rattle.qcow2_spec.specs.Check.{Seek}
use Rattle.qcow2_spec.specs.declared.Verdict.TheVariants.{Sound}
use Rattle.qcow2_fails.specs.Seeks.{seek_of, BelowTo}
use Rattle.qcow2_seek.proofs.Naming.{rows_from, below_from}
use Rattle.qcow2_seek.proofs.search.Given as goal

-- what is looked for
abbrev pub seek : (marks : Bool) → (s scratch : List ℕ) → (m t : ℕ) → Seek
seek marks s scratch m t = seek_of marks s (twos scratch 0 m) t

abbrev pub invariant-loop-j : goal.invariant-loop-j
invariant-loop-j l =
    let w = seek l.marks l.image l.scratch l.g.clusters l.g.root in
    (l.found ≡ Sound) × (below_from l.image w l.g.root l.i l.j ≡ rows_from l.image w l.g.root 0)

abbrev pub invariant-outer : goal.invariant-outer
invariant-outer l =
    let w = seek l.marks l.image l.scratch l.g.clusters l.g.root in
    (l.found ≡ Sound) × (rows_from l.image w l.g.root l.i ≡ rows_from l.image w l.g.root 0) × BelowTo l.image w l.g.root l.i l.known
