use Prim.Native.Nat.{◌-◌, ◌≤◌}
use mathlib.Core.Path.{◌≡◌}
use mathlib.Core.Bool.{true}
use lib.ListN.{length}
use Rattle.qcow2_spec.specs.Header.{roots}
use Rattle.qcow2_spec.specs.Check.{roots_verdict}
use Rattle.qcow2_spec.specs.declared.Verdict.TheVariants.{Sound}
use Rattle.qcow2_lowest.specs.Lowest.{Clear}
use Rattle.qcow2_states.proofs.look.Given as goal

abbrev pub invariant-loop-b : goal.invariant-loop-b
invariant-loop-b l =
    (l.b ≤ l.n) × (length l.window ≡ length l.initial.window) × Clear l.image l.b × (l.good ≡ true → roots_verdict l.image 0 (roots l.image) Sound ≡ Sound)

abbrev pub decreases-loop-b : goal.decreases-loop-b
decreases-loop-b l = l.n - l.b
