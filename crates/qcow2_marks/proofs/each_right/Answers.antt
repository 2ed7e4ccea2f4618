use borrow.Author.Rules.{rules}
use native.Mathlib.Omega.{arith}
use Prim.Native.Nat.{◌+◌, ◌^◌}
use mathlib.Core.Path.{◌≡◌, sym, ◌∙◌}
use Rattle.qcow2_marks.proofs.Rights.{rights_none, rights_next}
use Rattle.qcow2_marks.proofs.each_right.Goals as goal

pub loop-j-init : goal.loop-j-init
loop-j-init c = let a = c.args in rights_none (2 ^ a.bits) a.scratch.now a.table.now a.i

pub mark_right-requires : goal.mark_right-requires
mark_right-requires c =
    (c.requires.0.0, rw c.load64.ensures (c.requires.0.1 c.loop-j.j (omega (arith, c.loop-j-test.true, c.requires.1))))

pub loop-j-preserved : goal.loop-j-preserved
loop-j-preserved c =
    let a = c.args in
    rights_next (2 ^ a.bits) a.scratch.now a.table.now a.i c.loop-j.j c.loop-j.invariant (rw (← c.load64.ensures) (sym c.mark_right.ensures ∙ c.if-not-mark_right.false))

pub returns : goal.returns
returns c =
    let e : c.loop-j.j ≡ c.args.i + 64 = omega arith in
    (search rules, rw e at c.loop-j.invariant)
