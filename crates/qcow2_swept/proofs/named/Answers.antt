use mathlib.Core.Path.{sym}
use native.Mathlib.Omega.{arith}
use Rattle.qcow2_spec.proofs.Else.{else_sound}
use Rattle.qcow2_swept.proofs.Verdicts.{else_first, named-sound, named-below, named-row}
use Rattle.qcow2_swept.proofs.named.Goals as goal

pub returns-then-fore-per : goal.returns-then-fore-per
returns-then-fore-per c = let a = c.args in rw (named-sound a.t a.i a.fore a.per c.if-fore-per.true) (sym (else_sound a.found))

pub returns-then-fore-per-2 : goal.returns-then-fore-per-2
returns-then-fore-per-2 c = let a = c.args in rw c.in-Sound.is (sym (named-below a.t a.i a.fore a.per c.if-fore-per-2.true))

pub returns-else-fore-per-2 : goal.returns-else-fore-per-2
returns-else-fore-per-2 c = let a = c.args in rw c.in-Sound.is (sym (named-row a.t a.i a.fore a.per (omega (arith, c.if-fore-per.false, c.if-fore-per-2.false))))

pub returns-in_default : goal.returns-in_default
returns-in_default c = else_first c.args.found _ c.in_default.not-Sound
