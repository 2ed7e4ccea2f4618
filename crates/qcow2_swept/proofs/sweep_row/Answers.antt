use native.Mathlib.Omega.{arith}
use Prim.Native.Nat.{suc, ◌+◌, ◌/◌, ◌^◌, ◌≤◌}
use mathlib.Core.Path.{◌≡◌, sym, ◌∙◌}
use mathlib.Core.Logic.{◌≢◌}
use mathlib.Core.Bool.{true, false}
use lib.ListN.{length}
use Rattle.window.specs.Window.{board, entry_visited_in}
use Rattle.qcow2_spec.specs.Header.{version, cluster_size, per_table}
use Rattle.qcow2_spec.specs.Entries.{place, common, good_l1}
use Rattle.qcow2_spec.specs.References.{l2_entries, l1_refs}
use Rattle.qcow2_spec.proofs.Places.{place_inside, l1_place}
use Rattle.qcow2_groups.specs.Walks.{fore}
use Rattle.qcow2_sweep.specs.Sweeps.{passes_by}
use Rattle.qcow2_swept.proofs.Tables.{row-bad, row-none, row_refs, row_common, row-some}
use Rattle.qcow2_swept.proofs.sweep_row.Goals as goal
use Rattle.qcow2_swept.proofs.sweep_row.Goals.{After-sweep_below-s, Else-p-eq0}

pub good_l1-requires : goal.good_l1-requires
good_l1-requires c = omega (arith, c.requires.0.high)

pub power-requires : goal.power-requires
power-requires c = omega (arith, c.requires.0.high)

pub returns-then-p-eq0 : goal.returns-then-p-eq0
returns-then-p-eq0 c =
    let a = c.args in
    let o = c.requires.0 in
    let n : c.power.result / 8 ≡ per_table a.image.now = omega (arith, c.power.ensures.0, o.is-cluster, o.eight) in
    rw n (row-none a.leaf a.image.now (2 ^ a.g.bits) a.e o.is-cluster a.table a.b (board a.target.now a.low) (sym c.good_l1.ensures ∙ c.if-good_l1.true) (sym c.place_of-p.ensures.0 ∙ c.if-p-eq0.true))

-- a good entry, and its place
good : (c : Else-p-eq0) → good_l1 (2 ^ c.args.g.bits) (length c.args.image.now) c.args.e ≡ true
good c = sym c.good_l1.ensures ∙ c.if-good_l1.true

some : (c : Else-p-eq0) → place c.args.e ≢ 0
some c e = c.if-p-eq0.false (c.place_of-p.ensures.0 ∙ e)

pub sweep_below-s-requires : goal.sweep_below-s-requires
sweep_below-s-requires c =
    let a = c.args in
    let p = c.requires in
    let h : place a.e + 2 ^ a.g.bits ≤ length a.image.now =
    place_inside (2 ^ a.g.bits) (length a.image.now) a.e (l1_place _ _ _ (good (goal.at.sweep_below-s-requires c).Else-p-eq0)) (some (goal.at.sweep_below-s-requires c).Else-p-eq0) in
    ((p.0, rw c.place_of-p.ensures.0 h), p.1)

-- what the sweep below finds and leaves, of the entry's place
below : (c : After-sweep_below-s)
    → (c.sweep_below-s.result.fore ≡ fore (passes_by c.args.leaf (version c.args.image.now) (cluster_size c.args.image.now) (length c.args.image.now)) (l2_entries c.args.image.now (place c.args.e)))
    × (board c.sweep_below-s.new.target c.sweep_below-s.result.low ≡ entry_visited_in c.args.table c.args.leaf c.args.b (l1_refs c.args.image.now c.args.e) (board c.args.target.now c.args.low))
below c =
    let a = c.args in
    let q = c.place_of-p.ensures.0 in
    let r = row_refs a.leaf a.image.now (2 ^ a.g.bits) a.e c.requires.0.is-cluster (sym c.good_l1.ensures ∙ c.if-good_l1.true) (λ e. c.if-p-eq0.false (q ∙ e)) in
    (rw (← q) c.sweep_below-s.ensures.0, rw (← r, ← q) c.sweep_below-s.ensures.1)

pub past_table-requires : goal.past_table-requires
past_table-requires c = omega (arith, c.requires.0.high)

pub returns-then-is_common : goal.returns-then-is_common
returns-then-is_common c =
    let a = c.args in
    let o = c.requires.0 in
    let n : c.past_table.result ≡ suc (per_table a.image.now) = omega (arith, c.past_table.ensures, o.is-cluster, o.eight) in
    (n ∙ row_common a.leaf a.image.now (2 ^ a.g.bits) a.e o.is-cluster c.if-leaf-eq-BITS.true (sym c.is_common.ensures ∙ c.if-is_common.true), (below (goal.at.returns-then-is_common c).After-sweep_below-s).1)

pub returns-else-is_common : goal.returns-else-is_common
returns-else-is_common c =
    let a = c.args in
    let w = below (goal.at.returns-else-is_common c).After-sweep_below-s in
    let f : common a.e ≡ false = sym c.is_common.ensures ∙ c.if-is_common.false in
    (w.0 ∙ row-some a.leaf a.image.now (2 ^ a.g.bits) a.e c.requires.0.is-cluster (good (goal.at.returns-else-is_common c).Else-p-eq0) (some (goal.at.returns-else-is_common c).Else-p-eq0) (λ z. f), w.1)

pub returns-else-leaf-eq-BITS : goal.returns-else-leaf-eq-BITS
returns-else-leaf-eq-BITS c =
    let a = c.args in
    let w = below (goal.at.returns-else-leaf-eq-BITS c).After-sweep_below-s in
    (w.0 ∙ row-some a.leaf a.image.now (2 ^ a.g.bits) a.e c.requires.0.is-cluster (good (goal.at.returns-else-leaf-eq-BITS c).Else-p-eq0) (some (goal.at.returns-else-leaf-eq-BITS c).Else-p-eq0) (λ z. absurd (c.if-leaf-eq-BITS.false z)), w.1)

pub past_table-requires-2 : goal.past_table-requires-2
past_table-requires-2 c = omega (arith, c.requires.0.high)

pub returns : goal.returns
returns c =
    let a = c.args in
    let o = c.requires.0 in
    let n : c.past_table-2.result ≡ suc (per_table a.image.now) = omega (arith, c.past_table-2.ensures, o.is-cluster, o.eight) in
    let r = row-bad a.leaf a.image.now (2 ^ a.g.bits) a.e o.is-cluster a.table a.b (board a.target.now a.low) (sym c.good_l1.ensures ∙ c.if-good_l1.false) in
    (n ∙ r.0, r.1)
