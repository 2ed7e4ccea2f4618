use borrow.Author.Tests.{eq-eqb, ne_eqb}
use native.Mathlib.Omega.{arith}
use Rattle.qcow2_spec.specs.Header.{snapshots}
use Rattle.qcow2_forest.proofs.count_all.Goals as goal

pub count_single-requires : goal.count_single-requires
count_single-requires c = (c.requires, omega (arith, c.requires.0.0.is-snapshots, c.if-g-eq0.true))

pub returns-then-g-eq0 : goal.returns-then-g-eq0
returns-then-g-eq0 c =
    rw (eq-eqb (snapshots c.args.image.now) 0 (omega (arith, c.requires.0.0.is-snapshots, c.if-g-eq0.true))) c.count_single.ensures

pub count_states-requires : goal.count_states-requires
count_states-requires c = c.requires

pub returns : goal.returns
returns c =
    rw (ne_eqb (snapshots c.args.image.now) 0 (λ e. c.if-g-eq0.false (omega (arith, e, c.requires.0.0.is-snapshots)))) c.count_states.ensures
