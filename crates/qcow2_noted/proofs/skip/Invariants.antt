use Prim.Native.Nat.{◌-◌}
use mathlib.Core.Path.{◌≡◌}
use Rattle.choice.specs.Pick.{first}
use Rattle.qcow2_noted.specs.Noting.{unmade}
use Rattle.qcow2_noted.proofs.skip.Given as goal

abbrev pub invariant-loop-i : goal.invariant-loop-i
invariant-loop-i l = first (unmade l.image l.table) l.from (l.end - l.from) ≡ first (unmade l.image l.table) l.i (l.end - l.i)
