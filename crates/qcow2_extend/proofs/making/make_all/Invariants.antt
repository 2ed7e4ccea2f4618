use Prim.Native.Nat.{◌-◌}
use mathlib.Core.Path.{◌≡◌}
use lib.ListN.{length, take}
use Rattle.units.specs.Units.{apply_all}
use Rattle.qcow2_extend.specs.Making.{marked, made_where}
use Rattle.qcow2_extend.proofs.making.make_all.Given as goal

abbrev pub invariant-loop-i : goal.invariant-loop-i
invariant-loop-i l =
    (length l.image ≡ length l.initial.image)
    × (apply_all (take l.rest (made_where l.p (marked l.start l.marks) l.i (l.end - l.i))) l.image ≡ apply_all (take l.left (made_where l.p (marked l.start l.marks) l.start (l.end - l.start))) l.initial.image)
