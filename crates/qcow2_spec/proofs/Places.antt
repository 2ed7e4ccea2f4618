-- Laws of a good entry's place and of the cluster that it names.
-- Assumes nothing.
use Prim.Native.Nat.{ℕ, ◌+◌, ◌*◌, ◌/◌, ◌%◌, ◌^◌, ◌≤◌, ◌<◌}
use mathlib.Core.Path.{◌≡◌, refl}
use mathlib.Core.Bool.{Bool, true, false, not, ◌&&◌, ◌||◌}
use native.Mathlib.Nat.{div-lt_iff_lt-mul}
use native.Mathlib.Omega.{arith}
use borrow.Author.Tests.{ne_eqb, leb-true, eqb-true, eqb-false}
use lib.Dec.{eqb, leb}
use lib.Pow.{pow_pos}
use Rattle.choice.proofs.Tests.{and-true}
use Rattle.qcow2_spec.specs.Entries.{place, good_place, good_l1, good_l2, compressed, zero_mark}

-- a good place that is not 0 is a cluster inside the image
pub place_inside : (C n e : ℕ) → good_place C n e ≡ true → (place e ≡ 0 → ⊥) → place e + C ≤ n
unfolding good_place
place_inside C n e t h =
    let A : Bool = eqb (place e % C) 0 in
    let B : Bool = leb (place e + C) n in
    let u : (A && B) ≡ true = rw (ne_eqb (place e) 0 h) at t in
    leb-true (place e + C) n (and-true A B u).1

-- so its cluster is one of the scratch's L clusters
pub place-room : (C n e L : ℕ) → good_place C n e ≡ true → 1 ≤ C → 1 ≤ n → n ≤ L * C → place e < L * C
place-room C n e L t h g k = go (eqb (place e) 0) refl
  where
    go : (z : Bool) → eqb (place e) 0 ≡ z → place e < L * C
    go true q = omega (arith, eqb-true (place e) 0 q)
    go false q = omega (arith, place_inside C n e t (eqb-false (place e) 0 q))

pub l1_place : (C n e : ℕ) → good_l1 C n e ≡ true → good_place C n e ≡ true
unfolding good_l1
l1_place C n e h = let A : Bool = eqb (e % 512) 0 && eqb (e / 2 ^ 56 % 128) 0 in (and-true A (good_place C n e) h).1

pub l2_place : (v C n e : ℕ) → good_l2 v C n e ≡ true → good_place C n e ≡ true
unfolding good_l2
l2_place v C n e h =
    let A : Bool = not (compressed e) && eqb (e % 512 / 2) 0 && eqb (e / 2 ^ 56 % 64) 0 && (not (zero_mark e) || eqb v 3) in
    (and-true A (good_place C n e) h).1

-- the number of a cluster that starts below L * C
pub cluster-below : (p L b : ℕ) → p < L * 2 ^ b → p / 2 ^ b < L
cluster-below p L b h = (div-lt_iff_lt-mul (pow_pos b)).1 h
