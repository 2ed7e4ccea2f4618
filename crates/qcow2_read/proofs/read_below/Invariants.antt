use Prim.Native.Nat.{◌-◌, ◌≤◌}
use mathlib.Core.Path.{◌≡◌}
use mathlib.Core.List.{◌++◌}
use lib.ListN.{length, drop}
use Rattle.qcow2_spec.specs.Guest.{guest_bytes}
use Rattle.qcow2_read.proofs.read_below.Given as goal

abbrev pub invariant-loop-done : goal.invariant-loop-done
invariant-loop-done l = (l.done ≤ length l.initial.out) × (length l.out ≡ length l.initial.out) × (l.out ≡ guest_bytes l.backing l.image l.g.root l.x l.done ++ drop l.done l.initial.out)

abbrev pub decreases-loop-done : goal.decreases-loop-done
decreases-loop-done l = length l.initial.out - l.done
