use Rattle.std.specs.Prelude.{Err}
use native.Mathlib.Omega.{arith}
use mathlib.Core.Path.{◌≡◌, sym, ◌∙◌, ap}
use Rattle.qcow2_spec.specs.Entries.{place}
use Rattle.qcow2_guest.proofs.Steps.{table_in, way-bad, way-none, way-some}
use Rattle.qcow2_guest.proofs.way_to.Goals as goal

pub l1_entry-e-requires : goal.l1_entry-e-requires
l1_entry-e-requires c = c.requires

pub returns-then-t-eq0 : goal.returns-then-t-eq0
returns-then-t-eq0 c =
    way-none c.args.g c.args.image.now c.requires.0 c.args.guest _ c.l1_entry-e.ensures
    (sym c.good_l1.ensures ∙ c.if-good_l1.true) (sym c.place_of-t.ensures.0 ∙ c.if-t-eq0.true)

pub l2_way-requires : goal.l2_way-requires
l2_way-requires c =
    let i = table_in c.args.g c.args.image.now c.requires.0 c.args.guest _ c.l1_entry-e.ensures (sym c.good_l1.ensures ∙ c.if-good_l1.true) in
    (c.requires.0, omega arith)

pub returns-then-good_l1 : goal.returns-then-good_l1
returns-then-good_l1 c =
    let v : c.place_of-t.result ≡ place c.l1_entry-e.result = c.place_of-t.ensures.0 in
    c.l2_way.ensures ∙ rw v (way-some c.args.g c.args.image.now c.requires.0 c.args.guest _ c.l1_entry-e.ensures
    (sym c.good_l1.ensures ∙ c.if-good_l1.true) (λ z. c.if-t-eq0.false (v ∙ z)))

pub returns : goal.returns
returns c =
    ap Err c.into.ensures ∙ way-bad c.args.g c.args.image.now c.requires.0 c.args.guest _ c.l1_entry-e.ensures (sym c.good_l1.ensures ∙ c.if-good_l1.false)
