-- A good entry is 0 or names a cluster, with a zero mark or without one. Assumes nothing.
use Prim.Native.Nat.{ℕ, ◌+◌, ◌-◌, ◌*◌, ◌/◌, ◌%◌, ◌^◌, ◌≤◌, ◌<◌}
use native.Mathlib.Nat.{div-add-mod', div-div-eq-div-mul}
use native.Mathlib.Omega.{arith}
use mathlib.Core.Path.{◌≡◌, refl, ap, ◌∙◌, subst}
use mathlib.Core.Logic.{◌⊎◌, inl, inr, ◌≢◌}
use mathlib.Core.Bool.{Bool, true, false, not, ◌&&◌, ◌||◌}
use lib.Dec.{leb, eqb}
use borrow.Author.Tests.{leb-true, eqb-true, eqb-false, not-true, le-leb, eq-eqb, ne_eqb}
use Rattle.choice.proofs.Tests.{true-not-false, and-true, or-true}
use Rattle.qcow2_spec.specs.Header.{most_length}
use Rattle.qcow2_spec.specs.Entries.{place, good_place, good_l1, good_l2, compressed, zero_mark}
use Rattle.qcow2_spec.specs.Good.{Unmarked, MaybeMarked, GoodEntries}

-- ---- the bits of a good entry
-- bits 0 to 8, the place, and bit 63 are all of an entry whose bits 56 to 62 are clear
pieces : (e : ℕ) → e < 2 ^ 64 → e / 2 ^ 56 % 128 ≡ 0 → e ≡ e / 2 ^ 63 * 2 ^ 63 + place e + e % 512
unfolding place
pieces e l h = omega (arith, l, h)

-- bit 62 and bits 56 to 61
seven : (e : ℕ) → e / 2 ^ 62 % 2 ≡ 0 → e / 2 ^ 56 % 64 ≡ 0 → e / 2 ^ 56 % 128 ≡ 0
seven e a b =
    let q : e / 2 ^ 56 / 64 ≡ e / 2 ^ 62 = div-div-eq-div-mul e (2 ^ 56) 64 in
    both (e / 2 ^ 56) (rw q a) b
  where
    both : (y : ℕ) → y / 64 % 2 ≡ 0 → y % 64 ≡ 0 → y % 128 ≡ 0
    both y a b = omega (arith, a, b)

module _ (C n : ℕ) where
  -- the place and bit 63 of a good entry
  named : (e u : ℕ) → e < 2 ^ 64 → u ≡ e / 2 ^ 63 * 2 ^ 63 + place e → good_place C n e ≡ true → Unmarked C n u
  unfolding good_place
  named e u l q h = go (or-true _ _ h)
    where
      go : ((eqb (place e) 0 && eqb (e / 2 ^ 63) 0) ≡ true) ⊎ ((not (eqb (place e) 0) && eqb (place e % C) 0 && leb (place e + C) n) ≡ true) → Unmarked C n u
      go (inl a) =
          let b = and-true (eqb (place e) 0) _ a in
          inl (omega (arith, q, eqb-true (place e) 0 b.0, eqb-true (e / 2 ^ 63) 0 b.1))
      go (inr a) =
          let t1 = not (eqb (place e) 0) in
          let t2 = eqb (place e % C) 0 in
          let t3 = leb (place e + C) n in
          let c = and-true (t1 && t2) t3 a in
          let d = and-true t1 t2 c.0 in
          inr (record {
            at = place e;
            top = e / 2 ^ 63;
            bit = omega (arith, l);
            is = q;
            some = omega (arith, eqb-false (place e) 0 (not-true _ d.0));
            whole = eqb-true _ _ d.1;
            inside = leb-true _ _ c.1;
          })

  l1_is : (e : ℕ) → e < 2 ^ 64 → good_l1 C n e ≡ true → Unmarked C n e
  unfolding good_l1
  l1_is e l h =
      let t1 = eqb (e % 512) 0 in
      let t2 = eqb (e / 2 ^ 56 % 128) 0 in
      let a = and-true (t1 && t2) _ h in
      let b = and-true t1 t2 a.0 in
      named e e l (omega (arith, pieces e l (eqb-true (e / 2 ^ 56 % 128) 0 b.1), eqb-true (e % 512) 0 b.0)) a.1

  l2_is : (v e : ℕ) → e < 2 ^ 64 → good_l2 v C n e ≡ true → MaybeMarked v C n e
  unfolding good_l2 compressed zero_mark
  l2_is v e l h =
      let t1 = not (eqb (e / 2 ^ 62 % 2) 1) in
      let t2 = eqb (e % 512 / 2) 0 in
      let t3 = eqb (e / 2 ^ 56 % 64) 0 in
      let t4 = not (eqb (e % 2) 1) || eqb v 3 in
      let a = and-true (t1 && t2 && t3 && t4) _ h in
      let b = and-true (t1 && t2 && t3) t4 a.0 in
      let c = and-true (t1 && t2) t3 b.0 in
      let d = and-true t1 t2 c.0 in
      let bit : e / 2 ^ 62 % 2 ≡ 0 = even (e / 2 ^ 62) (eqb-false (e / 2 ^ 62 % 2) 1 (not-true _ d.0)) in
      let p = pieces e l (seven e bit (eqb-true (e / 2 ^ 56 % 64) 0 c.1)) in
      mark (or-true _ _ b.1) p (eqb-true (e % 512 / 2) 0 d.1) a.1
    where
      even : (x : ℕ) → x % 2 ≢ 1 → x % 2 ≡ 0
      even x d = omega (arith, d)

      mark : (not (eqb (e % 2) 1) ≡ true) ⊎ (eqb v 3 ≡ true) → e ≡ e / 2 ^ 63 * 2 ^ 63 + place e + e % 512 → e % 512 / 2 ≡ 0 → good_place C n e ≡ true → MaybeMarked v C n e
      mark t p low g = go (eqb (e % 2) 1) refl
        where
          go : (b : Bool) → eqb (e % 2) 1 ≡ b → MaybeMarked v C n e
          go false z = inl (named e e l (omega (arith, p, low, even e (eqb-false (e % 2) 1 z))) g)
          go true z = inr (three t, (e - 1, (omega (arith, eqb-true (e % 2) 1 z), named e (e - 1) l (omega (arith, p, low, eqb-true (e % 2) 1 z)) g)))
            where
              three : (not (eqb (e % 2) 1) ≡ true) ⊎ (eqb v 3 ≡ true) → v ≡ 3
              three (inl x) = absurd (true-not-false z (not-true _ x))
              three (inr x) = eqb-true v 3 x

-- ---- and the numbers that are good entries
-- bit 63 or not, a place p and a mark m
module _ (C n k b p m : ℕ) (c512 : C ≡ 512 * k) (short : n ≤ most_length) (some : 0 < p) (whole : p % C ≡ 0) (inside : p + C ≤ n) (low : m ≤ 1) (bit : b ≤ 1) where
  abbrev e : ℕ
  e = b * 2 ^ 63 + p + m

  sectors : p ≡ 512 * (p / C * k)
  sectors = let q : p ≡ p / C * C = omega (arith, div-add-mod' p C, whole) in q ∙ ap (λ (x : ℕ). p / C * x) c512 ∙ omega arith

  is-place : place e ≡ p
  unfolding place
  is-place =
      let a : e / 512 ≡ p / C * k + b * 2 ^ 54 = omega (arith, sectors, low) in
      rw a (omega (arith, sectors, inside, short))

  is-low : e % 512 ≡ m
  is-low = omega (arith, sectors, low)

  is-high : e / 2 ^ 56 % 128 ≡ 0
  is-high = omega (arith, inside, short, low, bit)

  is-six : e / 2 ^ 56 % 64 ≡ 0
  is-six = omega (arith, is-high)

  is-62 : e / 2 ^ 62 % 2 ≡ 0
  is-62 = omega (arith, inside, short, low, bit)

  is-good : good_place C n e ≡ true
  unfolding good_place
  is-good = simp (is-place, ne_eqb p 0 (λ z. omega (arith, some, z)), eq-eqb _ _ whole, le-leb _ _ inside)

  is_l1 : m ≡ 0 → good_l1 C n e ≡ true
  unfolding good_l1
  is_l1 z = let q : e % 512 ≡ 0 = is-low ∙ z in simp (q, is-high, is-good)

  is_l2 : (v : ℕ) → (m ≡ 0) ⊎ (v ≡ 3) → good_l2 v C n e ≡ true
  unfolding good_l2 compressed zero_mark
  is_l2 v h = simp (is-62, is-low, half, is-six, mark h, is-good)
    where
      half : m / 2 ≡ 0
      half = omega (arith, low)

      mark : (m ≡ 0) ⊎ (v ≡ 3) → (not (eqb (e % 2) 1) || eqb v 3) ≡ true
      mark (inl z) = rw (ne_eqb (e % 2) 1 (λ q. omega (arith, z, q, sectors, bit)))
      mark (inr z) = rw (eq-eqb v 3 z) (or_right (not (eqb (e % 2) 1)))
        where
          or_right : (b : Bool) → (b || true) ≡ true
          or_right true = refl
          or_right false = refl

zero_l1 : (C n : ℕ) → good_l1 C n 0 ≡ true
unfolding good_l1 good_place place
zero_l1 C n = refl

zero_l2 : (v C n : ℕ) → good_l2 v C n 0 ≡ true
unfolding good_l2 good_place place compressed zero_mark
zero_l2 v C n = refl

mark_l2 : (C n : ℕ) → good_l2 3 C n 1 ≡ true
unfolding good_l2 good_place place compressed zero_mark
mark_l2 C n = refl

-- ---- the law
pub good-entries : GoodEntries
good-entries v C n k e c512 pos short l = ((l1_is C n e l, l1_good), (l2_is C n v e l, l2_good))
  where
    l1_good : Unmarked C n e → good_l1 C n e ≡ true
    l1_good (inl z) = rw z (zero_l1 C n)
    l1_good (inr w) = subst (λ (x : ℕ). good_l1 C n x ≡ true) (omega (arith, w.is)) (is_l1 C n k w.top w.at 0 c512 short w.some w.whole w.inside (omega arith) w.bit refl)

    plain : (u : ℕ) → Unmarked C n u → good_l2 v C n u ≡ true
    plain u (inl z) = rw z (zero_l2 v C n)
    plain u (inr w) = subst (λ (x : ℕ). good_l2 v C n x ≡ true) (omega (arith, w.is)) (is_l2 C n k w.top w.at 0 c512 short w.some w.whole w.inside (omega arith) w.bit v (inl refl))

    marked : (u : ℕ) → v ≡ 3 → Unmarked C n u → good_l2 v C n (u + 1) ≡ true
    marked u t (inl z) = rw (z, t) (mark_l2 C n)
    marked u t (inr w) = subst (λ (x : ℕ). good_l2 v C n x ≡ true) (omega (arith, w.is)) (is_l2 C n k w.top w.at 1 c512 short w.some w.whole w.inside (omega arith) w.bit v (inr t))

    l2_good : MaybeMarked v C n e → good_l2 v C n e ≡ true
    l2_good (inl w) = plain e w
    l2_good (inr w) = rw w.1.1.0 (marked w.1.0 w.0 w.1.1.1)
