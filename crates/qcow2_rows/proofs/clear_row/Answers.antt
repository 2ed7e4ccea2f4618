-- `qcow2_rows::clear_row` meets its contract. Assumes nothing.
use native.Mathlib.Omega.{arith}
use mathlib.Core.Path.{sym, ◌∙◌}
use Rattle.qcow2_spec.specs.Steps.{join, extents, rows_of}
use Rattle.qcow2_clear.proofs.Clears.{clear_old, clear_none, clear-one}
use Rattle.qcow2_rows.proofs.Laws.{puts_none}
use Rattle.qcow2_rows.proofs.clear_row.Goals as goal

pub returns-then-g-ne3 : goal.returns-then-g-ne3
unfolding extents rows_of
returns-then-g-ne3 c =
    rw (clear_old c.args.image.now (λ z. c.if-g-ne3.true (c.requires.is-version ∙ z))) (omega arith, puts_none c.args.rows.now 0)

pub returns-then-load64-eq0 : goal.returns-then-load64-eq0
unfolding extents rows_of
returns-then-load64-eq0 c =
    rw (clear_none c.args.image.now (sym c.requires.is-version ∙ c.if-g-ne3.false) (sym c.load64.ensures ∙ c.if-load64-eq0.true))
    (omega arith, puts_none c.args.rows.now 0)

pub returns : goal.returns
unfolding extents join rows_of
returns c =
    let p = c.put_entry in
    rw (clear-one c.args.image.now (sym c.requires.is-version ∙ c.if-g-ne3.false) (λ z. c.if-load64-eq0.false (c.load64.ensures ∙ z)))
    (omega (arith, p.ensures.0), p.ensures.1)
