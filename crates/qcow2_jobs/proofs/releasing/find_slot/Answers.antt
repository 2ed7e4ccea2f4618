use Prim.Native.Nat.{◌/◌, ◌<◌}
use mathlib.Core.Path.{◌≡◌, sym, ◌∙◌}
use lib.ListN.{length}
use Rattle.qcow2_spec.specs.Header.{cluster_size}
use Rattle.qcow2_spec.specs.Entries.{place}
use Rattle.qcow2_jobs.proofs.Slots.{placed_at}
use Rattle.qcow2_jobs.proofs.Discards.{cleared-is, lacks_is, markless, idle, emptied, given_up}
use Rattle.qcow2_jobs.proofs.releasing.find_slot.Goals as goal

pub returns-then-lacks_mark : goal.returns-then-lacks_mark
returns-then-lacks_mark c =
    let a = c.args in
    let l = a.image.now in
    rw c.into.ensures (markless l (length l) a.at a.e (sym (lacks_is a.g l c.requires.opened _ c.lacks_mark.ensures) ∙ c.if-lacks_mark.true))

pub returns-then-e-value : goal.returns-then-e-value
returns-then-e-value c =
    let a = c.args in
    let l = a.image.now in
    let b = sym (lacks_is a.g l c.requires.opened _ c.lacks_mark.ensures) ∙ c.if-lacks_mark.false in
    idle l (length l) a.at a.e b _ (cleared-is a.g l c.requires.opened _ c.cleared-value.ensures) c.if-e-value.true

pub returns-then-p-eq0 : goal.returns-then-p-eq0
returns-then-p-eq0 c =
    let a = c.args in
    let l = a.image.now in
    let b = sym (lacks_is a.g l c.requires.opened _ c.lacks_mark.ensures) ∙ c.if-lacks_mark.false in
    emptied l (length l) a.at a.e b _ (cleared-is a.g l c.requires.opened _ c.cleared-value.ensures) c.if-e-value.false (sym c.place_of-p.ensures.0 ∙ c.if-p-eq0.true) c.requires.inside

pub find_count-requires : goal.find_count-requires
find_count-requires c =
    let a = c.args in
    let k : c.quotient.result < a.g.clusters = rw (c.quotient.ensures.0, c.place_of-p.ensures.0) (placed_at a.g a.image.now a.at a.e c.requires).cluster in
    (c.requires.opened, (c.requires.inside, k))

pub returns : goal.returns
returns c =
    let a = c.args in
    let l = a.image.now in
    let b = sym (lacks_is a.g l c.requires.opened _ c.lacks_mark.ensures) ∙ c.if-lacks_mark.false in
    let p = c.place_of-p in
    let q = c.quotient in
    let k : q.result ≡ place a.e / cluster_size l = rw (p.ensures.0, c.requires.opened.is-cluster) at q.ensures.0 in
    given_up l (length l) a.at a.e b _ (cleared-is a.g l c.requires.opened _ c.cleared-value.ensures) c.if-e-value.false _ q.result (λ z. c.if-p-eq0.false (p.ensures.0 ∙ z)) k c.find_count.ensures
