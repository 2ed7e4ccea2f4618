use Rattle.std.proofs.Common.{◌≡◌, ◌*◌, ◌/◌, ◌^◌, ◌<◌, true, sym, ◌∙◌, arith, pow_pos}
use Rattle.qcow2_spec.specs.Entries.{place, good_l2}
use Rattle.qcow2_spec.proofs.Places.{place-room, l2_place, cluster-below}
use Rattle.qcow2_spec.proofs.Visits.{named_some}
use Rattle.qcow2_groups.proofs.Walks.{refs_good, refs_bad}
use Rattle.qcow2_groups.proofs.Passes.{stepped_yes, stepped_no, stopped_common}
use Rattle.qcow2_groups.proofs.walk_any.Goals as goal

pub walk_entry-requires : goal.walk_entry-requires
walk_entry-requires c = c.requires

pub returns-then-walk_entry : goal.returns-then-walk_entry
returns-then-walk_entry c =
    let a = c.args in
    let r = stepped_yes a.kind a.version (2 ^ a.bits) a.n a.e a.scratch.now c.walk_entry.ensures c.if-walk_entry.true in
    (sym r.0, r.1)

pub visit-requires : goal.visit-requires
visit-requires c =
    let a = c.args in
    let p = c.requires.0 in
    let g : good_l2 a.version (2 ^ a.bits) a.n a.e ≡ true = sym c.good_l2.ensures ∙ c.if-good_l2.true in
    let h : place a.e < p.clusters * 2 ^ a.bits =
    place-room (2 ^ a.bits) a.n a.e p.clusters (l2_place _ _ _ _ g) (pow_pos a.bits) p.some (omega (arith, p.fits)) in
    let q : c.quotient.result ≡ place a.e / 2 ^ a.bits = rw (← c.place_of-p.ensures.0) c.quotient.ensures.0 in
    (omega (arith, cluster-below (place a.e) p.clusters a.bits h, q, p.holds, c.walk_entry.auto.scratch), c.requires.1)

pub returns-then-good_l2 : goal.returns-then-good_l2
returns-then-good_l2 c =
    let a = c.args in
    let r = stepped_no a.kind a.version (2 ^ a.bits) a.n a.e a.scratch.now c.walk_entry.ensures c.if-walk_entry.false in
    let g : good_l2 a.version (2 ^ a.bits) a.n a.e ≡ true = sym c.good_l2.ensures ∙ c.if-good_l2.true in
    (sym r.0, rw (c.visit.ensures, c.quotient.ensures.0, c.place_of-p.ensures.0, r.1, refs_good a.version (2 ^ a.bits) a.n a.e g) (named_some a.kind (2 ^ a.bits) (place a.e) a.scratch.now (stopped_common a.kind a.version (2 ^ a.bits) a.n a.e r.0 g)))

pub returns-else-good_l2 : goal.returns-else-good_l2
returns-else-good_l2 c =
    let a = c.args in
    let r = stepped_no a.kind a.version (2 ^ a.bits) a.n a.e a.scratch.now c.walk_entry.ensures c.if-walk_entry.false in
    (sym r.0, r.1 ∙ refs_bad a.kind a.version (2 ^ a.bits) a.n a.e a.scratch.now (sym c.good_l2.ensures ∙ c.if-good_l2.false))
