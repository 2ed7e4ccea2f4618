use mathlib.Core.Path.{sym, ◌∙◌}
use Rattle.std.proofs.lemmas.Result.{err_from_is_err_and}
use Rattle.qcow2_spec.specs.Store.{own_slot}
use Rattle.qcow2_own.proofs.Rows.{row-root, own-common, own-other}
use Rattle.qcow2_own.proofs.own_way.Goals as goal

pub common_row-requires : goal.common_row-requires
common_row-requires c = c.requires

pub returns-then-common_row : goal.returns-then-common_row
returns-then-common_row c = rw c.into.ensures (own-common _ _ (sym c.common_row.ensures ∙ c.if-common_row.true))

pub way_to-requires : goal.way_to-requires
way_to-requires c =
    (c.requires.0.0, row-root c.args.g c.args.image.now c.requires.0 c.args.guest c.requires.1)

pub returns-in_err-way_to : goal.returns-in_err-way_to
unfolding own_slot
returns-in_err-way_to c =
    let p = err_from_is_err_and c.from_residual.result c.from_residual.ensures.1 in
    let q = rw c.requires.0.1 at c.in_err-way_to.ensures in
    rw (p.1, p.2) (rw (← q) at (own-other c.args.image.now c.args.guest (sym c.common_row.ensures ∙ c.if-common_row.false)))

pub returns : goal.returns
returns c =
    let q = rw c.requires.0.1 at c.in_ok-way_to.ensures in
    rw (c.own_slot.ensures, q) (own-other c.args.image.now c.args.guest (sym c.common_row.ensures ∙ c.if-common_row.false))
