use borrow.Author.Tests.{eq-eqb, ne_eqb}
use mathlib.Core.Path.{refl}
use Rattle.qcow2_kept.proofs.is_idle.Goals as goal

pub returns-then-may-eq0 : goal.returns-then-may-eq0
returns-then-may-eq0 c = rw (eq-eqb c.args.may 0 c.if-may-eq0.true) refl

pub returns-in-New : goal.returns-in-New
returns-in-New c = rw (ne_eqb c.args.may 0 c.if-may-eq0.false, c.in-New.is) refl

pub returns-in-Going : goal.returns-in-Going
returns-in-Going c = rw (ne_eqb c.args.may 0 c.if-may-eq0.false, c.in-Going.is) refl

pub returns-in-Finished : goal.returns-in-Finished
returns-in-Finished c = rw (ne_eqb c.args.may 0 c.if-may-eq0.false, c.in-Finished.is) refl
