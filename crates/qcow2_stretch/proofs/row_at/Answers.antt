use Rattle.std.specs.Prelude.{Err}
use mathlib.Core.Path.{sym, ap, ◌∙◌}
use Rattle.qcow2_spec.proofs.Facts.{facts, c_in}
use Rattle.qcow2_stretch.proofs.Levels.{is-empty, is_tableat, is-bad}
use Rattle.qcow2_stretch.proofs.row_at.Goals as goal

pub l1_entry-e-requires : goal.l1_entry-e-requires
l1_entry-e-requires c = c.requires

pub returns-then-e-eq0 : goal.returns-then-e-eq0
returns-then-e-eq0 c =
    is-empty c.args.g c.args.image.now c.requires.0 c.args.guest _ c.l1_entry-e.ensures c.if-e-eq0.true

pub is_plain-requires : goal.is_plain-requires
is_plain-requires c =
    let o = c.requires.0 in
    (o.high, (rw o.is-cluster (c_in c.args.image.now (facts c.args.image.now o.accepted)), o.short))

pub returns-then-is_plain : goal.returns-then-is_plain
returns-then-is_plain c =
    rw c.bare_of.ensures.0 (is_tableat c.args.g c.args.image.now c.requires.0 c.args.guest _ c.l1_entry-e.ensures (sym c.is_plain.ensures ∙ c.if-is_plain.true))

pub returns : goal.returns
returns c =
    ap Err c.into.ensures ∙ is-bad c.args.g c.args.image.now c.requires.0 c.args.guest _ c.l1_entry-e.ensures (sym c.is_plain.ensures ∙ c.if-is_plain.false) c.if-e-eq0.false
