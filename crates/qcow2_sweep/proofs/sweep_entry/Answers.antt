use Rattle.std.proofs.Common.{ℕ, ◌≡◌, ◌+◌, ◌-◌, ◌*◌, ◌/◌, ◌%◌, ◌^◌, ◌<◌, ◌≤◌, sym, ◌∙◌, arith, rules}
use Rattle.window.specs.Window.{board, visit_all_in}
use Rattle.window.proofs.Steps.{visit_all_in-none, visit_all_in-one}
use Rattle.qcow2_spec.specs.Header.{most_bits}
use Rattle.qcow2_spec.specs.References.{l2_refs}
use Rattle.qcow2_plain.specs.Plain.{bare}
use Rattle.qcow2_plain.proofs.Doubled.{bare-rest}
use Rattle.qcow2_groups.proofs.GoodEntries.{mark_of, some_bytes, Placed, placed_of, rest-bad}
use Rattle.qcow2_sweep.proofs.Entries.{bad_fails, doubled_cluster, out_passes, out_refs, doubled_inside, rest_refs, placed_refs, placed_bits, placed_else}
use Rattle.qcow2_sweep.proofs.sweep_entry.Goals as goal
use Rattle.qcow2_sweep.proofs.sweep_entry.Goals.{After-rest, After-visit-least, Else-rest-mark}

pub overflow_sub-n : goal.overflow_sub-n
overflow_sub-n c = let p = c.requires.0 in let a = c.args in omega (arith, some_bytes p.clusters a.bits a.n (omega (arith, p.some)) p.fits, c.power-size.ensures.0)

-- the difference is one of twice the entry less bit 63
wraps : (y size d bits e : ℕ) → size ≡ 2 ^ bits → (y + 2 * size) % 2 ^ 64 ≡ d → d ≡ 2 * bare e → (y + 2 * 2 ^ bits) % 2 ^ 64 ≡ 2 * (e % 2 ^ 63)
unfolding bare
wraps y size d bits e s w t = (rw s at w) ∙ t

pub returns-then-n-size : goal.returns-then-n-size
returns-then-n-size c =
    let w = c.wrapping_sub_u64-y in
    let a = c.args in
    let p = c.requires.0 in
    let h : 2 * (a.n - 2 ^ a.bits) ≤ w.result = rw c.power-size.ensures.0 at c.if-n-size.true in (
      rw c.marks-mark.ensures.0 (out_passes a.version a.bits a.n a.e p.low p.small (search rules) w.result (wraps _ _ _ a.bits a.e c.power-size.ensures.0 c.wrapping_sub_u64-y.ensures.value c.twice-d.ensures) (search rules) h a.kind),
      rw (out_refs a.version a.bits a.n a.e p.low p.small (search rules) w.result (wraps _ _ _ a.bits a.e c.power-size.ensures.0 c.wrapping_sub_u64-y.ensures.value c.twice-d.ensures) (search rules) h) (visit_all_in-none a.kind a.b (board a.target.now a.low)),
    )

-- where there is a place, the entry less bit 63 stands inside the image
inside : (c : After-rest) → (2 ≤ c.args.e % 2 ^ 63) × (c.args.e % 2 ^ 63 < c.args.n)
inside c =
    let w = c.wrapping_sub_u64-y in
    let a = c.args in
    let p = c.requires.0 in
    let h : w.result < 2 * (a.n - 2 ^ a.bits) = rw c.power-size.ensures.0 at c.if-n-size.false in
    doubled_inside a.version a.bits a.n a.e p.low p.small (search rules) w.result (wraps _ _ _ a.bits a.e c.power-size.ensures.0 c.wrapping_sub_u64-y.ensures.value c.twice-d.ensures) h

rest-is : (r bits e : ℕ) → r ≡ e % 2 ^ bits → bits ≤ most_bits → r ≡ e % 2 ^ 63 % 2 ^ bits
unfolding bare
rest-is r bits e h b = h ∙ sym (bare-rest bits e b)

pub returns-then-rest-mark : goal.returns-then-rest-mark
returns-then-rest-mark c =
    let a = c.args in
    let p = c.requires.0 in
    let h : mark_of a.version < a.e % 2 ^ 63 % 2 ^ a.bits = rw (c.marks-mark.ensures.0, rest-is _ a.bits a.e c.rest.ensures.0 p.high) at c.if-rest-mark.true in (
      sym (bad_fails a.kind a.version (2 ^ a.bits) a.n a.e (rest-bad a.version a.bits a.n a.e p.low p.small (search rules) (inside (goal.at.returns-then-rest-mark c).After-rest).0 h)),
      rw (rest_refs a.version a.bits a.n a.e p.low p.small (search rules) (inside (goal.at.returns-then-rest-mark c).After-rest).0 h) (visit_all_in-none a.kind a.b (board a.target.now a.low)),
    )

-- and is a place and perhaps a mark
place_of : (c : Else-rest-mark) → (2 ≤ c.args.e % 2 ^ 63) × (c.args.e % 2 ^ 63 < c.args.n) → Placed c.args.version (2 ^ c.args.bits) c.args.n (c.args.e % 2 ^ 63)
place_of c i =
    let a = c.args in
    let p = c.requires.0 in
    let h : a.e % 2 ^ 63 % 2 ^ a.bits ≤ mark_of a.version = rw (c.marks-mark.ensures.0, rest-is _ a.bits a.e c.rest.ensures.0 p.high) at c.if-rest-mark.false in
    placed_of a.version a.bits p.clusters a.n (a.e % 2 ^ 63) p.low p.fits i.0 i.1 h

-- whose cluster is visited
visited : (c : After-visit-least) → Placed c.args.version (2 ^ c.args.bits) c.args.n (c.args.e % 2 ^ 63) → board c.visit-least.new.target c.visit-least.result ≡ visit_all_in c.args.kind c.args.b (l2_refs c.args.version (2 ^ c.args.bits) c.args.n c.args.e) (board c.args.target.now c.args.low)
unfolding bare
visited c at =
    let a = c.args in
    let p = c.requires.0 in
    let k : c.quotient-c.result ≡ a.e % 2 ^ 63 / 2 ^ a.bits = c.quotient-c.ensures.0 ∙ rw c.twice-d.ensures (doubled_cluster (a.e % 2 ^ 63) a.bits) in
    rw (c.visit-least.ensures, k, ← placed_refs a.version a.bits a.n a.e p.low p.small (search rules) at) (visit_all_in-one a.kind a.b (a.e % 2 ^ 63 / 2 ^ a.bits) (board a.target.now a.low))

pub returns-then-kind-eq-BITS : goal.returns-then-kind-eq-BITS
returns-then-kind-eq-BITS c =
    let a = c.args in
    let at = place_of (goal.at.returns-then-kind-eq-BITS c).Else-rest-mark (inside (goal.at.returns-then-kind-eq-BITS c).After-rest) in
    let p = c.requires.0 in
    (placed_bits a.version a.bits a.n a.e p.low p.small (search rules) at a.kind c.if-kind-eq-BITS.true, visited (goal.at.returns-then-kind-eq-BITS c).After-visit-least at)

pub returns : goal.returns
returns c =
    let a = c.args in
    let at = place_of (goal.at.returns c).Else-rest-mark (inside (goal.at.returns c).After-rest) in
    let p = c.requires.0 in
    (placed_else a.version a.bits a.n a.e p.low p.small (search rules) at a.kind c.if-kind-eq-BITS.false, visited (goal.at.returns c).After-visit-least at)
