-- Laws of plain entries.
-- Assumes nothing.
use Rattle.std.specs.Prelude.{Err, Ok, Result}
use Rattle.std.proofs.Common.{◌≡◌, ℕ, ◌+◌, ◌-◌, ◌*◌, ◌/◌, ◌%◌, ◌^◌, ◌<◌, ◌≤◌, Bool, true, false, not, ◌&&◌, ◌||◌, eqb, ltb, leb, ◌⊎◌, sym, refl, ap, ◌∙◌, inl, inr, mod-eq_of_lt, div-add-mod', arith, pow_pos, ltb-true, lt-ltb, eq-eqb, ne_eqb, eqb-true, le-leb, leb-true}
use native.Mathlib.Nat.{div-div-eq-div-mul}
use borrow.Author.Tests.{eqb-false, not-false}
use lib.Pow.{mod-mod-pow}
use Rattle.choice.proofs.Tests.{true-not-false, if_elim, and-true, or-true}
use Rattle.qcow2_spec.specs.Entries.{place, good_place, good_l1, good_l2, compressed, zero_mark}
use Rattle.qcow2_spec.specs.Guest.{entry_way, entry_gives, way_gives}
use Rattle.qcow2_spec.specs.declared.Found.{Found}
use Rattle.qcow2_spec.specs.declared.Found.TheVariants.{Host, Zeros, Absent}
use Rattle.qcow2_spec.specs.declared.Way.{Way}
use Rattle.qcow2_spec.specs.declared.Way.TheVariants.{Slot}
use Rattle.qcow2_spec.proofs.Facts.{good_place2}
use Rattle.qcow2_plain.specs.Plain.{bare, plain}
use Rattle.qcow2_entry.proofs.Laws.{place_in, place_none}
use Rattle.qcow2_spec.specs.Header.{most_length}

-- a multiple of a larger power is one of a smaller
pub low_bits : (x b : ℕ) → 9 ≤ b → x % 2 ^ b ≡ 0 → x % 512 ≡ 0
low_bits x b h e =
    let d : b - 9 + 9 ≡ b = omega arith in
    sym (mod-mod-pow x (b - 9) 9) ∙ rw (d, e)

-- ---- a plain entry
pub record Parts (b n e : ℕ) : Type 0 where
  pub some : 0 < bare e
  pub inside : bare e + 2 ^ b ≤ n
  pub whole : bare e % 2 ^ b ≡ 0

pub plain-parts : (b n e : ℕ) → plain (2 ^ b) n e ≡ true → Parts b n e
unfolding plain
plain-parts b n e h =
    let t = ltb 0 (bare e) in
    let u = leb (bare e + 2 ^ b) n in
    let p = and-true (t && u) _ h in
    let q = and-true t u p.0 in
    record { some = ltb-true _ _ q.0; inside = leb-true _ _ q.1; whole = eqb-true _ _ p.1 }

-- its bits
module _ (e : ℕ) (small : e % 2 ^ 63 < most_length) (whole : e % 2 ^ 63 % 512 ≡ 0) where
  bits_low : e % 512 ≡ 0
  bits_low = omega arith

  bits_place : e / 512 % 2 ^ 47 * 512 ≡ e % 2 ^ 63
  bits_place = omega arith

  bits_flat : e / 2 ^ 62 % 2 ≡ 0
  bits_flat = omega arith

  bits_high : e / 2 ^ 56 % 128 ≡ 0
  bits_high = omega arith

module _ (b n e : ℕ) (least : 9 ≤ b) (small : n ≤ most_length) (h : plain (2 ^ b) n e ≡ true) where
  few : e % 2 ^ 63 < most_length
  unfolding bare
  few = let p = plain-parts b n e h in omega (arith, p.inside, pow_pos b)

  nine : e % 2 ^ 63 % 512 ≡ 0
  unfolding bare
  nine = low_bits (e % 2 ^ 63) b least (plain-parts b n e h).whole

  place_is : place e ≡ bare e
  unfolding place bare
  place_is = bits_place e few nine

  place-good : good_place (2 ^ b) n e ≡ true
  place-good =
      let p = plain-parts b n e h in
      let q = place_is in
      place_in (2 ^ b) n e (λ z. omega (arith, p.some, q, z)) (rw q p.whole) (omega (arith, p.inside, q))

  unmarked : zero_mark e ≡ false
  unfolding zero_mark
  unmarked =
      let l = bits_low e few nine in
      ne_eqb (e % 2) 1 (λ y. omega (arith, l, y))

  flat : compressed e ≡ false
  unfolding compressed
  flat = let c = bits_flat e few nine in ne_eqb (e / 2 ^ 62 % 2) 1 (λ y. omega (arith, c, y))

  pub plain-good : (v : ℕ) → good_l2 v (2 ^ b) n e ≡ true
  unfolding good_l2
  plain-good v =
      let l = bits_low e few nine in
      let m : e % 512 / 2 ≡ 0 = ap (λ (y : ℕ). y / 2) l in
      let t : e / 2 ^ 56 % 64 ≡ 0 = six (e / 2 ^ 56) (bits_high e few nine) in
      rw (flat, eq-eqb (e % 512 / 2) 0 m, eq-eqb (e / 2 ^ 56 % 64) 0 t, unmarked) place-good
    where
      six : (k : ℕ) → k % 128 ≡ 0 → k % 64 ≡ 0
      six k f = omega arith

  -- an L1 entry too
  pub plain_row : (good_l1 (2 ^ b) n e ≡ true) × (place e ≡ bare e)
  unfolding good_l1
  plain_row = (rw (eq-eqb (e % 512) 0 (bits_low e few nine), eq-eqb (e / 2 ^ 56 % 128) 0 (bits_high e few nine)) place-good, place_is)

  pub plain-way : (v at : ℕ) → entry_way v (2 ^ b) n at e ≡ Ok (Slot at e)
  unfolding entry_way
  plain-way v at = rw (flat, plain-good v)

  pub plain-gives : (o : ℕ) → entry_gives e o ≡ Host (bare e + o)
  unfolding entry_gives
  plain-gives o =
      let p = plain-parts b n e h in
      rw (unmarked, place_is, ne_eqb (bare e) 0 (λ z. omega (arith, p.some, z)))

-- ---- no other good entry gives a host offset
flip : (b : Bool) → not b ≡ true → b ≡ false
flip true e = absurd (true-not-false e refl)
flip false e = refl

module _ (v C n e : ℕ) (h : good_l2 v C n e ≡ true) (z : zero_mark e ≡ false) where
  abbrev t : Bool
  t = eqb (e % 512 / 2) 0

  abbrev u : Bool
  u = eqb (e / 2 ^ 56 % 64) 0

  abbrev w : Bool
  w = not (zero_mark e) || eqb v 3

  low : ((e / 2 ^ 62 % 2 ≡ 0) × (e % 512 ≡ 0)) × (e / 2 ^ 56 % 64 ≡ 0)
  unfolding good_l2 compressed zero_mark
  low =
      let a = (and-true (not (compressed e) && t && u && w) _ h).0 in
      let b = (and-true (not (compressed e) && t && u) w a).0 in
      let c = and-true (not (compressed e) && t) u b in
      let d = and-true (not (compressed e)) t c.0 in
      let k : e / 2 ^ 62 % 2 ≡ 1 → ⊥ = eqb-false (e / 2 ^ 62 % 2) 1 (flip (compressed e) d.0) in
      let m : e % 2 ≡ 1 → ⊥ = eqb-false (e % 2) 1 z in
      let l : e % 512 / 2 ≡ 0 = eqb-true _ _ d.1 in
      ((even _ k, omega (arith, even (e % 2) (λ y. m (omega arith)))), eqb-true _ _ c.1)
    where
      even : (x : ℕ) → (x % 2 ≡ 1 → ⊥) → x % 2 ≡ 0
      even x f = omega arith

  -- with no place nothing is left
  pub empty_only : place e ≡ 0 → e ≡ 0
  unfolding good_place place
  empty_only q =
      let l = low in
      let t : eqb (e / 2 ^ 63) 0 ≡ true = sym (place_none C n e q) ∙ good_place2 v C n e h in
      let a : e / 2 ^ 63 ≡ 0 = eqb-true _ _ t in
      let b : e / 2 ^ 62 ≡ 0 = two (e / 2 ^ 62) (omega arith) l.0.0 in
      let c : e / 2 ^ 56 ≡ 0 = six (e / 2 ^ 56) (omega arith) l.1 in
      let d : e / 512 ≡ 0 = whole (e / 512) (omega arith) q in
      omega (arith, l.0.1)
    where
      two : (k : ℕ) → k < 2 → k % 2 ≡ 0 → k ≡ 0
      two k a f = omega arith

      six : (k : ℕ) → k < 64 → k % 64 ≡ 0 → k ≡ 0
      six k a f = omega arith

      whole : (k : ℕ) → k < 140737488355328 → k % 140737488355328 * 512 ≡ 0 → k ≡ 0
      whole k a f = let m : k % 140737488355328 ≡ k = mod-eq_of_lt a in omega arith

  module _ (some : place e ≡ 0 → ⊥) where
    placed : (place e % C ≡ 0) × (place e + C ≤ n)
    unfolding good_place
    placed = go (or-true _ _ (good_place2 v C n e h))
      where
        go : ((eqb (place e) 0 && eqb (e / 2 ^ 63) 0) ≡ true) ⊎ ((not (eqb (place e) 0) && eqb (place e % C) 0 && leb (place e + C) n) ≡ true)
            → (place e % C ≡ 0) × (place e + C ≤ n)
        go (inl a) = absurd (some (eqb-true _ _ (and-true (eqb (place e) 0) _ a).0))
        go (inr a) =
            let t1 = not (eqb (place e) 0) in
            let t2 = eqb (place e % C) 0 in
            let b = and-true (t1 && t2) _ a in
            (eqb-true _ _ (and-true t1 t2 b.0).1, leb-true _ _ b.1)

    is-place : bare e ≡ place e
    unfolding place bare
    is-place = let l = low in digits e l.0.1 l.1 l.0.0
      where
        digits : (e : ℕ) → e % 512 ≡ 0 → e / 2 ^ 56 % 64 ≡ 0 → e / 2 ^ 62 % 2 ≡ 0 → e % 2 ^ 63 ≡ e / 512 % 2 ^ 47 * 512
        digits e a b c =
            let q : e / 2 ^ 63 ≡ e / 2 ^ 62 / 2 = sym (div-div-eq-div-mul e (2 ^ 62) 2) in
            let r : e / 2 ^ 62 ≡ e / 2 ^ 56 / 64 = sym (div-div-eq-div-mul e (2 ^ 56) 64) in
            let d : e / 2 ^ 56 ≡ e / 512 / 2 ^ 47 = sym (div-div-eq-div-mul e 512 (2 ^ 47)) in
            let f : e / 2 ^ 62 ≡ e / 2 ^ 63 * 2 = omega (arith, q, c, div-add-mod' (e / 2 ^ 62) 2) in
            let g : e / 2 ^ 56 ≡ e / 2 ^ 62 * 64 = omega (arith, r, b, div-add-mod' (e / 2 ^ 56) 64) in
            let h : e / 512 ≡ e / 2 ^ 56 * 2 ^ 47 + e / 512 % 2 ^ 47 = omega (arith, d, div-add-mod' (e / 512) (2 ^ 47)) in
            omega (arith, f, g, h, a, div-add-mod' e 512, div-add-mod' e (2 ^ 63))

    pub good-plain : plain C n e ≡ true
    unfolding plain
    good-plain =
        let p = placed in
        let q = is-place in
        rw (q, lt-ltb 0 (place e) (some-pos (place e) some), le-leb (place e + C) n p.1, eq-eqb (place e % C) 0 p.0)
      where
        some-pos : (k : ℕ) → (k ≡ 0 → ⊥) → 0 < k
        some-pos k f = omega arith

-- a good L1 entry with no place is 0, and no other is good but a plain one
row-good2 : (C n e : ℕ) → good_l1 C n e ≡ true → (good_l2 3 C n e ≡ true) × (zero_mark e ≡ false)
unfolding good_l1 good_l2 compressed zero_mark
row-good2 C n e h =
    let p = and-true (eqb (e % 512) 0 && eqb (e / 2 ^ 56 % 128) 0) _ h in
    let q = and-true (eqb (e % 512) 0) _ p.0 in
    let a : e % 512 ≡ 0 = eqb-true _ _ q.0 in
    let b : e / 2 ^ 56 % 128 ≡ 0 = eqb-true _ _ q.1 in
    let d : e / 2 ^ 62 ≡ e / 2 ^ 56 / 64 = omega arith in
    let f : e / 2 ^ 62 % 2 ≡ 0 = rw d (two (e / 2 ^ 56) b) in
    let m : e % 2 ≡ 0 = omega arith in
    let k : e % 512 / 2 ≡ 0 = omega arith in
    let t : e / 2 ^ 56 % 64 ≡ 0 = six (e / 2 ^ 56) b in
    (rw (f, m, k, t) p.1, rw m)
  where
    two : (k : ℕ) → k % 128 ≡ 0 → k / 64 % 2 ≡ 0
    two k f = omega arith

    six : (k : ℕ) → k % 128 ≡ 0 → k % 64 ≡ 0
    six k f = omega arith

pub empty-row : (C n e : ℕ) → good_l1 C n e ≡ true → place e ≡ 0 → e ≡ 0
empty-row C n e h q = let g = row-good2 C n e h in empty_only 3 C n e g.0 g.1 q

pub other_row : (C n e : ℕ) → plain C n e ≡ false → (e ≡ 0 → ⊥) → good_l1 C n e ≡ false
other_row C n e p z = go (good_l1 C n e) refl
  where
    go : (b : Bool) → good_l1 C n e ≡ b → b ≡ false
    go false h = refl
    go true h = let g = row-good2 C n e h in absurd (true-not-false (good-plain 3 C n e g.0 g.1 (λ q. z (empty-row C n e h q))) p)

-- an entry that is not plain gives no host offset
pub other-gives : (v C n at e o h : ℕ) → plain C n e ≡ false → way_gives (entry_way v C n at e) o ≡ Ok (Host h) → ⊥
unfolding entry_way way_gives entry_gives
other-gives v C n at e o h f =
    if_elim P (compressed e) _ _ (λ c. refused 13)
    (λ c. if_elim P (not (good_l2 v C n e)) _ _ (λ d. refused 12)
    (λ d. if_elim Q (zero_mark e) _ _ (λ m. zeros)
    (λ m. if_elim Q (eqb (place e) 0) _ _ (λ q. absent)
    (λ q y. true-not-false (good-plain v C n e (not-false _ d) m (eqb-false _ _ q)) f))))
  where
    P : Result Way ℕ → Type 0
    P w = way_gives w o ≡ Ok (Host h) → ⊥

    Q : Found → Type 0
    Q x = ◌≡◌ {A = Result Found ℕ} (Ok x) (Ok (Host h)) → ⊥

    refused : (k : ℕ) → P (Err k)
    refused k y = cc

    zeros : Q Zeros
    zeros y = cc

    absent : Q Absent
    absent y = cc
