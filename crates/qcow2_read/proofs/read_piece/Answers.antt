use Rattle.std.specs.Prelude.{Ok}
use native.Mathlib.Omega.{arith}
use Prim.Native.Nat.{◌+◌, ◌-◌, ◌/◌, ◌%◌, ◌^◌}
use mathlib.Core.Path.{◌≡◌, sym, ap, ◌∙◌}
use mathlib.Core.Bool.{true}
use lib.ListN.{length}
use Rattle.qcow2_spec.specs.Guest.{located}
use Rattle.qcow2_spec.specs.declared.Found.TheVariants.{Host}
use Rattle.qcow2_spec.proofs.Facts.{facts, c_in}
use Rattle.qcow2_plain.proofs.Plain.{Parts, plain-parts}
use Rattle.qcow2_under.proofs.Laws.{under-bytes}
use Rattle.qcow2_guest.proofs.Pieces.{copied, cleared, uncovered}
use Rattle.qcow2_guest.proofs.Bytes.{plain-found, empty-found, other-found}
use Rattle.qcow2_read.proofs.read_piece.Goals as goal
use Rattle.qcow2_read.proofs.read_piece.Goals.{After-is_plain, After-load64-e}

pub is_plain-requires : goal.is_plain-requires
is_plain-requires c =
    let o = c.requires.0 in
    (o.high, (rw o.is-cluster (c_in _ (facts _ o.accepted)), o.short))

-- the number of the entry that is loaded
index : (c : After-load64-e) → c.rest-i.result ≡ c.args.x / 2 ^ c.args.g.bits % 2 ^ (c.args.g.bits - 3)
index c = rw (← c.quotient.ensures.0) c.rest-i.ensures.0

-- a plain one's parts
parts : (c : After-is_plain) → c.is_plain.result ≡ true → Parts c.args.g.bits (length c.args.image.now) c.load64-e.result
parts c h = plain-parts c.args.g.bits (length c.args.image.now) c.load64-e.result (sym c.is_plain.ensures ∙ h)

pub host_at-at-requires : goal.host_at-at-requires
host_at-at-requires c =
    let o = c.requires.0 in
    let p = parts (goal.at.host_at-at-requires c).After-is_plain c.if-is_plain.true in
    (o.high, (omega (arith, p.inside, o.short), p.whole))

pub overflow_add-at : goal.overflow_add-at
overflow_add-at c =
    let p = parts (goal.at.overflow_add-at c).After-is_plain c.if-is_plain.true in
    omega (arith, p.inside, c.requires.0.short, c.requires.1.1.1, c.host_at-at.ensures)

pub slice_bounds-bytes-end : goal.slice_bounds-bytes-end
slice_bounds-bytes-end c =
    let p = parts (goal.at.slice_bounds-bytes-end c).After-is_plain c.if-is_plain.true in
    omega (arith, p.inside, c.requires.1.1.1, c.host_at-at.ensures)

pub returns-then-is_plain : goal.returns-then-is_plain
returns-then-is_plain c =
    let a = c.args in
    let s = a.image.now in
    let h = c.host_at-at.result in
    let n = length a.part.now in
    let d : h + n - h ≡ n = omega arith in
    let e : located s a.g.root a.x ≡ Ok (Host h) =
    plain-found a.g s a.table.now c.requires.0 a.x c.requires.1.1.0 _ _ (index (goal.at.returns-then-is_plain c).After-load64-e) c.load64-e.ensures (sym c.is_plain.ensures ∙ c.if-is_plain.true)
    ∙ ap (λ h. Ok (Host h)) ((sym c.host_at-at.ensures)) in
    c.bytes.ensures ∙ rw d (copied a.g s c.requires.0 a.x a.backing.now a.part.now c.requires.1.1.1 h c.requires.1.0 e)

pub returns-then-e-eq0 : goal.returns-then-e-eq0
returns-then-e-eq0 c =
    let a = c.args in
    let s = a.image.now in
    let n = length a.part.now in
    c.put_under.ensures
    ∙ under-bytes a.backing.now s a.x n _ c.requires.0.is-backed
    ∙ uncovered a.g s c.requires.0 a.x a.backing.now a.part.now c.requires.1.1.1
    (empty-found a.g s a.table.now c.requires.0 a.x c.requires.1.1.0 _ _ (index (goal.at.returns-then-e-eq0 c).After-load64-e) c.load64-e.ensures (omega arith))

pub returns : goal.returns
returns c =
    let a = c.args in
    let s = a.image.now in
    c.zeros.ensures
    ∙ cleared a.g s c.requires.0 a.x a.backing.now a.part.now c.requires.1.1.1
    (other-found a.g s a.table.now c.requires.0 a.x c.requires.1.1.0 _ _ (index (goal.at.returns c).After-load64-e) c.load64-e.ensures (sym c.is_plain.ensures ∙ c.if-is_plain.false) c.if-e-eq0.false a.backing.now)
