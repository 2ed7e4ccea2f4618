-- Laws of good entries: where the cluster of their place is found, and whether their marks are right.
-- Assumes nothing.
use Rattle.std.specs.Prelude.{if◌then◌else◌}
use Prim.Native.Nat.{ℕ, zero, suc, ◌+◌, ◌*◌, ◌/◌, ◌%◌, ◌^◌, ◌≤◌, ◌<◌}
use mathlib.Core.Path.{◌≡◌, refl, ap, ◌∙◌}
use mathlib.Core.Logic.{◌⊎◌, inl, inr}
use mathlib.Core.Bool.{Bool, true, false, not, ◌&&◌, ◌||◌}
use mathlib.Core.List.{List}
use native.Mathlib.Nat.{zero-mod, zero-div, zero-mul, div-div-eq-div-mul, div-add-mod', mul-div-mul_left, pow-succ'}
use native.Mathlib.Omega.{arith}
use borrow.Author.Tests.{eq-eqb, ne_eqb, eqb-true, eqb-false}
use lib.Dec.{eqb, leb}
use lib.Pow.{pow_pos, pow_mono, high}
use Rattle.choice.proofs.Tests.{true-not-false, and-true, or-true}
use Rattle.endian.specs.Big.{be16}
use Rattle.qcow2_spec.specs.Entries.{place, alone, good_place, good_l1, good_l2, compressed, zero_mark}
use Rattle.qcow2_spec.proofs.Places.{place-room, l1_place, l2_place, cluster-below}
use Rattle.qcow2_plain.specs.Plain.{bare}
use Rattle.qcow2_marks.specs.Marks.{right, Fair}

-- a good place is a whole number of clusters
place-whole : (C n e : ℕ) → good_place C n e ≡ true → place e % C ≡ 0
unfolding good_place
place-whole C n e h = go (or-true _ _ h)
  where
    go : ((eqb (place e) 0 && eqb (e / 2 ^ 63) 0) ≡ true) ⊎ ((not (eqb (place e) 0) && eqb (place e % C) 0 && leb (place e + C) n) ≡ true) → place e % C ≡ 0
    go (inl a) = ap (λ (p : ℕ). p % C) (eqb-true (place e) 0 (and-true (eqb (place e) 0) _ a).0) ∙ zero-mod C
    go (inr a) =
        let t : Bool = not (eqb (place e) 0) && eqb (place e % C) 0 in
        eqb-true _ _ (and-true (not (eqb (place e) 0)) _ (and-true t (leb (place e + C) n) a).0).1

-- bit 62 and bits 56 to 61
seven : (e : ℕ) → e / 2 ^ 62 % 2 ≡ 0 → e / 2 ^ 56 % 64 ≡ 0 → e / 2 ^ 56 % 128 ≡ 0
seven e a b =
    let q : e / 2 ^ 56 / 64 ≡ e / 2 ^ 62 = div-div-eq-div-mul e (2 ^ 56) 64 in
    both (e / 2 ^ 56) (rw q a) b
  where
    both : (y : ℕ) → y / 64 % 2 ≡ 0 → y % 64 ≡ 0 → y % 128 ≡ 0
    both y a b = omega (arith, a, b)

flip : (b : Bool) → not b ≡ true → b ≡ false
flip true e = absurd (true-not-false e refl)
flip false e = refl

module _ (b n m e : ℕ) (some : 1 ≤ n) (fits : n ≡ m * 2 ^ b) where
  within : good_place (2 ^ b) n e ≡ true → place e / 2 ^ b < m
  within h = cluster-below (place e) m b (place-room (2 ^ b) n e m h (pow_pos b) some (omega (arith, fits)))

  pub l1_fair : good_l1 (2 ^ b) n e ≡ true → Fair (2 ^ b) m e
  unfolding good_l1
  l1_fair h =
      let p = l1_place (2 ^ b) n e h in
      let u = and-true (eqb (e % 512) 0) (eqb (e / 2 ^ 56 % 128) 0) (and-true (eqb (e % 512) 0 && eqb (e / 2 ^ 56 % 128) 0) _ h).0 in
      record { low = omega (arith, eqb-true (e % 512) 0 u.0); high = eqb-true _ _ u.1; whole = place-whole (2 ^ b) n e p; inside = within p }

  pub l2_fair : (v : ℕ) → good_l2 v (2 ^ b) n e ≡ true → Fair (2 ^ b) m e
  unfolding good_l2 compressed
  l2_fair v h =
      let p = l2_place v (2 ^ b) n e h in
      let t : Bool = eqb (e % 512 / 2) 0 in
      let u : Bool = eqb (e / 2 ^ 56 % 64) 0 in
      let w : Bool = not (zero_mark e) || eqb v 3 in
      let x = (and-true (not (compressed e) && t && u) w (and-true (not (compressed e) && t && u && w) _ h).0).0 in
      let y = and-true (not (compressed e) && t) u x in
      let z = and-true (not (compressed e)) t y.0 in
      let k : e / 2 ^ 62 % 2 ≡ 1 → ⊥ = eqb-false (e / 2 ^ 62 % 2) 1 (flip (compressed e) z.0) in
      record { low = small (e % 512) (eqb-true _ _ z.1); high = seven e (even (e / 2 ^ 62) k) (eqb-true _ _ y.1); whole = place-whole (2 ^ b) n e p; inside = within p }
    where
      even : (x : ℕ) → (x % 2 ≡ 1 → ⊥) → x % 2 ≡ 0
      even x f = omega arith

      small : (x : ℕ) → x / 2 ≡ 0 → x ≤ 1
      small x h = omega arith

-- all of an entry but bit 63
pieces : (e : ℕ) → e / 2 ^ 56 % 128 ≡ 0 → bare e ≡ place e + e % 512
unfolding bare place
pieces e h = omega (arith, h)

halved : (x b : ℕ) → 2 * x / 2 ^ (b + 1) ≡ x / 2 ^ b
halved x b =
    let e : b + 1 ≡ suc b = omega arith in
    rw (e, pow-succ' 2 b) (mul-div-mul_left x (2 ^ b) (omega arith))

-- the cluster of an entry's place, as the code works it out
pub cluster_of : (b m e : ℕ) → 9 ≤ b → Fair (2 ^ b) m e → 2 * bare e / 2 ^ (b + 1) ≡ place e / 2 ^ b
cluster_of b m e l f =
    let k : place e ≡ place e / 2 ^ b * 2 ^ b = omega (arith, f.whole, div-add-mod' (place e) (2 ^ b)) in
    let q : 512 ≤ 2 ^ b = pow_mono l in
    let s : bare e ≡ place e / 2 ^ b * 2 ^ b + e % 512 = omega (arith, k, pieces e f.high) in
    halved (bare e) b ∙ ap (λ (x : ℕ). x / 2 ^ b) s ∙ high (place e / 2 ^ b) b (omega (arith, f.low))

-- there is no place, or the mark is looked at
pub right-none : (b m e : ℕ) (scratch : List ℕ) → Fair (2 ^ b) m e → place e / 2 ^ b ≡ 0 → true ≡ right (2 ^ b) scratch e
unfolding right
right-none b m e scratch f z =
    let y : place e / 2 ^ b * 2 ^ b ≡ 0 = ap (λ (x : ℕ). x * 2 ^ b) z ∙ zero-mul (2 ^ b) in
    let k : place e ≡ 0 = omega (arith, f.whole, y, div-add-mod' (place e) (2 ^ b)) in
    rw (eq-eqb (place e) 0 k)

pub right-some : (b e : ℕ) (scratch : List ℕ) → e < 2 ^ 64 → (place e / 2 ^ b ≡ 0 → ⊥)
    → eqb (e / 2 ^ 63) (if eqb (be16 scratch (2 * (place e / 2 ^ b))) 1 then 1 else 0) ≡ right (2 ^ b) scratch e
unfolding right alone
right-some b e scratch l z =
    let k : place e ≡ 0 → ⊥ = λ y. z (ap (λ (p : ℕ). p / 2 ^ b) y ∙ zero-div (2 ^ b)) in
    rw (ne_eqb (place e) 0 k) (go (eqb (be16 scratch (2 * (place e / 2 ^ b))) 1))
  where
    bit : (x : ℕ) → x < 2 → eqb x 0 ≡ not (eqb x 1)
    bit zero h = refl
    bit (suc zero) h = refl
    bit (suc (suc x)) h = absurd (omega arith)

    go : (t : Bool) → eqb (e / 2 ^ 63) (if t then 1 else 0) ≡ (if t then eqb (e / 2 ^ 63) 1 else not (eqb (e / 2 ^ 63) 1))
    go true = refl
    go false = bit (e / 2 ^ 63) (omega arith)

pub right_zero : (C : ℕ) (scratch : List ℕ) → right C scratch 0 ≡ true
unfolding right place
right_zero C scratch = refl
