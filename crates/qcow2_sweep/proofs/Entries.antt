-- Laws of L2 entries that pass a sweep or not, and of what they refer to, by whole numbers.
-- Assumes nothing.
use Rattle.std.proofs.Common.{◌≡◌, ℕ, ◌+◌, ◌-◌, ◌*◌, ◌/◌, ◌%◌, ◌^◌, ◌<◌, ◌≤◌, Bool, true, false, not, ◌&&◌, eqb, ltb, leb, ◌≢◌, ◌⊎◌, [], ◌∷◌, sym, refl, ap, ◌∙◌, inl, inr, mod-eq_of_lt, arith, pow_mono, pow-add, ltb-false, ltb-true, eq-eqb, ne_eqb, le-leb, leb-false, leb-true}
use mathlib.Core.Bool.{and-true, and-false}
use native.Mathlib.Nat.{div-div-eq-div-mul}
use Rattle.choice.proofs.Tests.{two_ways}
use Rattle.window.specs.Window.{bit_kind}
use Rattle.qcow2_spec.specs.Header.{most_length}
use Rattle.qcow2_spec.specs.Entries.{place, good_l2, common, alone}
use Rattle.qcow2_spec.specs.References.{named, l2_refs}
use Rattle.qcow2_groups.proofs.Walks.{zero-good}
use Rattle.qcow2_groups.proofs.GoodEntries.{mark_of, Placed, placed-cluster, placed-far, good-ways, rest-bad, low-good, low-place, placed-good, placed_at}
use Rattle.qcow2_sweep.specs.Sweeps.{passes_by}

-- ---- by the definitions
module _ (kind v C n e : ℕ) where
  pub bad_fails : good_l2 v C n e ≡ false → passes_by kind v C n e ≡ false
  unfolding passes_by
  bad_fails h = rw h

  -- where bits are set, and where they are not
  pub bits_passes : kind ≡ bit_kind → good_l2 v C n e ≡ true → passes_by kind v C n e ≡ not (common e)
  unfolding passes_by
  bits_passes k h = rw (h, eq-eqb kind bit_kind k)

  pub else_passes : kind ≢ bit_kind → passes_by kind v C n e ≡ good_l2 v C n e
  unfolding passes_by
  else_passes k = rw (ne_eqb kind bit_kind k) (and-true (good_l2 v C n e))

  -- an entry with no place
  none_passes : place e ≡ 0 → good_l2 v C n e ≡ true → passes_by kind v C n e ≡ true
  unfolding passes_by common
  none_passes z h = rw (h, eq-eqb (place e) 0 z, and-false (eqb kind bit_kind))

  -- what an entry refers to: bad, with no place, with one
  bad_refs : good_l2 v C n e ≡ false → l2_refs v C n e ≡ []
  unfolding l2_refs
  bad_refs h = rw h

  none_refs : place e ≡ 0 → good_l2 v C n e ≡ true → l2_refs v C n e ≡ []
  unfolding l2_refs named
  none_refs z h = rw (h, eq-eqb (place e) 0 z)

  some_refs : place e ≢ 0 → good_l2 v C n e ≡ true → l2_refs v C n e ≡ place e / C ∷ []
  unfolding l2_refs named
  some_refs z h = rw (h, ne_eqb (place e) 0 z)

-- an entry of zeros passes and refers to nothing
zero-place : place 0 ≡ 0
unfolding place
zero-place = refl

pub zero-passes : (kind v C n : ℕ) → passes_by kind v C n 0 ≡ true
zero-passes kind v C n = none_passes kind v C n 0 zero-place (zero-good v C n)

pub zero_refs : (v C n : ℕ) → l2_refs v C n 0 ≡ []
zero_refs v C n = none_refs 0 v C n 0 zero-place (zero-good v C n)

-- ---- an entry as the code tells it: x is the entry without bit 63
-- a number of whole clusters has one at least
whole-least : (p C : ℕ) → p % C ≡ 0 → 0 < p → C ≤ p
whole-least p C h s = go (ltb p C) refl
  where
    go : (t : Bool) → ltb p C ≡ t → C ≤ p
    go true q = absurd (omega (arith, mod-eq_of_lt (ltb-true p C q), h, s))
    go false q = ltb-false p C q

-- its cluster by twice it
pub doubled_cluster : (x b : ℕ) → 2 * x / 2 ^ (b + 1) ≡ x / 2 ^ b
doubled_cluster x b =
    let d : b + 1 ≡ 1 + b = omega arith in
    let h : 2 * x / 2 ≡ x = omega arith in
    rw (d, pow-add 2 1 b, ← div-div-eq-div-mul (2 * x) 2 (2 ^ b)) (ap (λ (k : ℕ). k / 2 ^ b) h)

module _ (v b n e : ℕ) (least : 9 ≤ b) (small : n ≤ most_length) (word : e < 2 ^ 64) where
  abbrev x : ℕ
  x = e % 2 ^ 63

  -- y is the difference of twice x and twice the size of a cluster, which wraps round
  module _ (y : ℕ) (wraps : (y + 2 * 2 ^ b) % 2 ^ 64 ≡ 2 * x) (far : y < 2 ^ 64) (h : 2 * (n - 2 ^ b) ≤ y) where
    past : Placed v (2 ^ b) n x → ⊥
    past w =
        let l : 2 ^ b ≤ w.at = whole-least w.at (2 ^ b) w.whole w.some in
        omega (arith, (placed-far v b n x least w).1, l, w.is, wraps, far, h, small)

    out_low : good_l2 v (2 ^ b) n e ≡ true → e ≤ mark_of v
    out_low g = go (good-ways v b n e least small word g)
      where
        go : (e ≤ mark_of v) ⊎ Placed v (2 ^ b) n x → e ≤ mark_of v
        go (inl m) = m
        go (inr w) = absurd (past w)

    -- there is no place: a mark or nothing passes alone
    pub out_passes : (kind : ℕ) → leb e (mark_of v) ≡ passes_by kind v (2 ^ b) n e
    out_passes kind = go (two_ways (good_l2 v (2 ^ b) n e))
      where
        go : (good_l2 v (2 ^ b) n e ≡ true) ⊎ (good_l2 v (2 ^ b) n e ≡ false) → leb e (mark_of v) ≡ passes_by kind v (2 ^ b) n e
        go (inl g) =
            let l = out_low g in
            le-leb e (mark_of v) l ∙ sym (none_passes kind v (2 ^ b) n e (low-place v b n e least small word l) g)
        go (inr g) = not_low (leb e (mark_of v)) refl ∙ sym (bad_fails kind v (2 ^ b) n e g)
          where
            not_low : (t : Bool) → leb e (mark_of v) ≡ t → t ≡ false
            not_low true q = sym (low-good v b n e least small word (leb-true _ _ q)) ∙ g
            not_low false q = refl

    pub out_refs : l2_refs v (2 ^ b) n e ≡ []
    out_refs = go (two_ways (good_l2 v (2 ^ b) n e))
      where
        go : (good_l2 v (2 ^ b) n e ≡ true) ⊎ (good_l2 v (2 ^ b) n e ≡ false) → l2_refs v (2 ^ b) n e ≡ []
        go (inl g) = none_refs 0 v (2 ^ b) n e (low-place v b n e least small word (out_low g)) g
        go (inr g) = bad_refs 0 v (2 ^ b) n e g

  -- and where it is less than that there is one
  pub doubled_inside : (y : ℕ) → (y + 2 * 2 ^ b) % 2 ^ 64 ≡ 2 * x → y < 2 * (n - 2 ^ b) → (2 ≤ x) × (x < n)
  doubled_inside y wraps h = let s : 512 ≤ 2 ^ b = pow_mono least in (omega (arith, s, wraps, h, small), omega (arith, wraps, h, small))

  -- the rest is more than a mark
  pub rest_refs : 2 ≤ x → mark_of v < x % 2 ^ b → l2_refs v (2 ^ b) n e ≡ []
  rest_refs some h = bad_refs 0 v (2 ^ b) n e (rest-bad v b n e least small word some h)

  -- there is a place
  module _ (w : Placed v (2 ^ b) n x) where
    some-place : place e ≢ 0
    some-place z = omega (arith, placed_at v b n e least small word w, w.some, z)

    pub placed_refs : x / 2 ^ b ∷ [] ≡ l2_refs v (2 ^ b) n e
    placed_refs =
        rw (placed-cluster v b n x least w, ← placed_at v b n e least small word w)
        (sym (some_refs 0 v (2 ^ b) n e some-place (placed-good v b n e least small word w)))

    -- it is common where bit 63 is clear
    placed-common : leb n e ≡ not (common e)
    unfolding common alone
    placed-common = go (leb n e) refl
      where
        far : x < n
        far = (placed-far v b n x least w).1

        go : (t : Bool) → leb n e ≡ t → t ≡ not (not (eqb (place e) 0) && not (eqb (e / 2 ^ 63) 1))
        go true q = let d : n ≤ e = leb-true n e q in rw (eq-eqb (e / 2 ^ 63) 1 (omega (arith, d, far, word)), and-false)
        go false q =
            let d : e < n = leb-false n e q in
            rw (ne_eqb (place e) 0 some-place, ne_eqb (e / 2 ^ 63) 1 (λ z. omega (arith, d, small, z)))

    pub placed_bits : (kind : ℕ) → kind ≡ bit_kind → leb n e ≡ passes_by kind v (2 ^ b) n e
    placed_bits kind k = placed-common ∙ sym (bits_passes kind v (2 ^ b) n e k (placed-good v b n e least small word w))

    pub placed_else : (kind : ℕ) → kind ≢ bit_kind → true ≡ passes_by kind v (2 ^ b) n e
    placed_else kind k = sym (else_passes kind v (2 ^ b) n e k ∙ placed-good v b n e least small word w)
