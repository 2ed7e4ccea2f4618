use mathlib.Core.Path.{sym, ◌∙◌}
use Rattle.qcow2_own.proofs.Rows.{row-root, row-good, row-bad}
use Rattle.qcow2_own.proofs.common_row.Goals as goal

pub l1_entry-e-requires : goal.l1_entry-e-requires
l1_entry-e-requires c =
    (c.requires.0.0, row-root c.args.g c.args.image.now c.requires.0 c.args.guest c.requires.1)

pub returns-then-good_l1 : goal.returns-then-good_l1
returns-then-good_l1 c =
    c.is_common.ensures ∙ row-good c.args.g c.args.image.now c.requires.0 c.args.guest _ c.l1_entry-e.ensures (sym c.good_l1.ensures ∙ c.if-good_l1.true)

pub returns : goal.returns
returns c =
    row-bad c.args.g c.args.image.now c.requires.0 c.args.guest _ c.l1_entry-e.ensures (sym c.good_l1.ensures ∙ c.if-good_l1.false)
