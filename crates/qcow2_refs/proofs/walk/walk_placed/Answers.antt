use Prim.Native.Nat.{◌+◌, ◌^◌, ◌≤◌}
use mathlib.Core.Path.{◌≡◌, sym, ◌∙◌}
use mathlib.Core.Bool.{false}
use lib.ListN.{length}
use Rattle.tally.specs.States.{entry_visited}
use Rattle.qcow2_spec.specs.Entries.{place, common}
use Rattle.qcow2_spec.specs.References.{l1_refs}
use Rattle.qcow2_spec.proofs.Places.{place_inside, l1_place}
use Rattle.qcow2_refs.specs.Walks.{table_front}
use Rattle.qcow2_refs.proofs.Tables.{row_refs, row_common, row-some}
use Rattle.qcow2_refs.proofs.walk.walk_placed.Goals as goal
use Rattle.qcow2_refs.proofs.walk.walk_placed.Goals.{After-walk_below-k}

pub walk_below-k-requires : goal.walk_below-k-requires
walk_below-k-requires c =
    let a = c.args in
    let p = c.requires in
    let h : place a.e + 2 ^ a.g.bits ≤ length a.image.now =
    place_inside (2 ^ a.g.bits) (length a.image.now) a.e (l1_place _ _ _ p.1.1.0) p.1.1.1 in
    ((p.0.0, (p.0.1, rw c.place_of.ensures.0 h)), p.1.0)

-- what the walk below finds and leaves, of the entry's place
below : (c : After-walk_below-k) → (c.walk_below-k.result ≡ table_front c.args.leaf c.args.image.now (place c.args.e))
    × (c.walk_below-k.new.scratch ≡ entry_visited c.before.before.before.before.before.args.table c.before.before.before.before.before.args.leaf (l1_refs c.before.before.before.before.before.args.image.now c.before.before.before.before.before.args.e) c.before.before.before.before.before.args.scratch.now)
below c =
    let a = c.args in
    let q = c.place_of.ensures.0 in
    let r = row_refs a.leaf a.image.now (2 ^ a.g.bits) a.e c.requires.0.0.is-cluster c.requires.1.1.0 c.requires.1.1.1 in
    (rw (← q) c.walk_below-k.ensures.0, rw (← r, ← q) c.walk_below-k.ensures.1)

pub returns-then-is_common : goal.returns-then-is_common
returns-then-is_common c =
    let a = c.args in
    (row_common a.leaf a.image.now (2 ^ a.g.bits) a.e c.requires.0.0.is-cluster c.if-leaf-eq0.true (sym c.is_common.ensures ∙ c.if-is_common.true), (below (goal.at.returns-then-is_common c).After-walk_below-k).1)

pub returns-else-is_common : goal.returns-else-is_common
returns-else-is_common c =
    let a = c.args in
    let w = below (goal.at.returns-else-is_common c).After-walk_below-k in
    let f : common a.e ≡ false = sym c.is_common.ensures ∙ c.if-is_common.false in
    (w.0 ∙ row-some a.leaf a.image.now (2 ^ a.g.bits) a.e c.requires.0.0.is-cluster c.requires.1.1.0 c.requires.1.1.1 (λ z. f), w.1)

pub returns-else-leaf-eq0 : goal.returns-else-leaf-eq0
returns-else-leaf-eq0 c =
    let a = c.args in
    let w = below (goal.at.returns-else-leaf-eq0 c).After-walk_below-k in
    (w.0 ∙ row-some a.leaf a.image.now (2 ^ a.g.bits) a.e c.requires.0.0.is-cluster c.requires.1.1.0 c.requires.1.1.1 (λ z. absurd (c.if-leaf-eq0.false z)), w.1)
