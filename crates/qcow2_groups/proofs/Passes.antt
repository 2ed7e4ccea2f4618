-- Laws of L2 entries that pass a walk or not, and of what is visited.
-- Assumes nothing.
use Rattle.std.proofs.Common.{◌≡◌, ℕ, ◌+◌, ◌-◌, ◌/◌, ◌%◌, ◌^◌, ◌<◌, ◌≤◌, Bool, true, false, not, ◌&&◌, eqb, leb, ◌⊎◌, List, sym, refl, ◌∙◌, inl, inr, arith, eq-eqb, ne_eqb, eqb-true, le-leb, leb-true, if◌then◌else◌}
use mathlib.Core.Bool.{and-false}
use borrow.Author.Tests.{not-false}
use Rattle.choice.proofs.Tests.{true-not-false, and-true, two_ways}
use Rattle.tally.specs.States.{visited, visit_all}
use Rattle.qcow2_spec.specs.Header.{most_length}
use Rattle.qcow2_spec.specs.Entries.{place, good_l2, common, alone}
use Rattle.qcow2_spec.specs.References.{l2_refs}
use Rattle.qcow2_spec.proofs.Visits.{named_none, named_some}
use Rattle.qcow2_groups.specs.Walks.{passes}
use Rattle.qcow2_groups.proofs.Walks.{refs_good}
use Rattle.qcow2_groups.proofs.GoodEntries.{mark_of, Placed, placed-cluster, placed-far, good-ways, rest-bad, low-good, low-place, placed-good, placed_at}

-- what a walk's step answers and leaves, by whether the entry passes
abbrev pub Stepped : (kind v C n e : ℕ) (s : List ℕ) (r : Bool) (s' : List ℕ) → Type 0
Stepped kind v C n e s r s' = (r ≡ passes kind v C n e) × (s' ≡ (if passes kind v C n e then visit_all kind (l2_refs v C n e) s else s))

module _ (kind v C n e : ℕ) where
  pub bad_stops : good_l2 v C n e ≡ false → passes kind v C n e ≡ false
  unfolding passes
  bad_stops h = rw h

  common_stops : kind ≡ 0 → common e ≡ true → passes kind v C n e ≡ false
  unfolding passes
  common_stops k h = rw (eq-eqb kind 0 k, h) (and-false (good_l2 v C n e))

  good-passes : good_l2 v C n e ≡ true → (kind ≡ 0 → common e ≡ false) → passes kind v C n e ≡ true
  unfolding passes
  good-passes h f = go (eqb kind 0) refl
    where
      go : (t : Bool) → eqb kind 0 ≡ t → passes kind v C n e ≡ true
      go true k = rw (h, k, f (eqb-true kind 0 k))
      go false k = rw (h, k)

  -- what does not pass and is good is common
  pub stopped_common : passes kind v C n e ≡ false → good_l2 v C n e ≡ true → place e ≡ 0 → ⊥
  unfolding passes common
  stopped_common h g z =
      let f : not (eqb kind 0 && common e) ≡ false = rw g at h in
      let c : common e ≡ true = (and-true (eqb kind 0) _ (not-false _ f)).1 in
      true-not-false c (rw (eq-eqb (place e) 0 z))

  pub passes-good : passes kind v C n e ≡ true → good_l2 v C n e ≡ true
  unfolding passes
  passes-good h = (and-true (good_l2 v C n e) _ h).0

  pub stepped-not : (s : List ℕ) → passes kind v C n e ≡ false → Stepped kind v C n e s false s
  stepped-not s h = (sym h, rw h)

  stepped-none : (s : List ℕ) → passes kind v C n e ≡ true → place e ≡ 0 → Stepped kind v C n e s true s
  stepped-none s h z = (sym h, rw (h, refs_good v C n e (passes-good h)) (named_none kind C (place e) s z))

  stepped-some : (s : List ℕ) → passes kind v C n e ≡ true → (place e ≡ 0 → ⊥) → Stepped kind v C n e s true (visited kind s (place e / C))
  stepped-some s h z = (sym h, rw (h, refs_good v C n e (passes-good h)) (named_some kind C (place e) s z))

  -- by the answer
  module _ (s : List ℕ) {s' : List ℕ} {r : Bool} (h : Stepped kind v C n e s r s') where
    pub stepped_yes : r ≡ true → (passes kind v C n e ≡ true) × (s' ≡ visit_all kind (l2_refs v C n e) s)
    stepped_yes t = let p : passes kind v C n e ≡ true = sym h.0 ∙ t in (p, rw p at h.1)

    pub stepped_no : r ≡ false → (passes kind v C n e ≡ false) × (s' ≡ s)
    stepped_no t = let p : passes kind v C n e ≡ false = sym h.0 ∙ t in (p, rw p at h.1)

no_place-common : (e : ℕ) → place e ≡ 0 → common e ≡ false
unfolding common
no_place-common e z = rw (eq-eqb (place e) 0 z)

-- bit 63, by the entry without it
alone-common : (e : ℕ) → e < 2 ^ 64 → (e ≡ e % 2 ^ 63 → ⊥) → common e ≡ false
unfolding common alone
alone-common e l h = rw (eq-eqb (e / 2 ^ 63) 1 (omega (arith, l, h))) (and-false (not (eqb (place e) 0)))

is-common : (e : ℕ) → e ≡ e % 2 ^ 63 → (place e ≡ 0 → ⊥) → common e ≡ true
unfolding common alone
is-common e h z = rw (ne_eqb (place e) 0 z, ne_eqb (e / 2 ^ 63) 1 (λ q. omega (arith, h, q)))

-- ---- an entry as the code tells it
module _ (kind v b n e : ℕ) (least : 9 ≤ b) (small : n ≤ most_length) (word : e < 2 ^ 64) (s : List ℕ) where
  abbrev x : ℕ
  x = e % 2 ^ 63

  low-stepped : e ≤ mark_of v → Stepped kind v (2 ^ b) n e s (leb e (mark_of v)) s
  low-stepped l =
      let p = low-place v b n e least small word l in
      let t = good-passes kind v (2 ^ b) n e (low-good v b n e least small word l) (λ k. no_place-common e p) in
      rw (le-leb e (mark_of v) l) (stepped-none kind v (2 ^ b) n e s t p)

  -- y is the difference of x and 2, which wraps round
  pub no_place : (y : ℕ) → (y + 2) % 2 ^ 64 ≡ x → y < 2 ^ 64 → n - 2 ≤ y → Stepped kind v (2 ^ b) n e s (leb e (mark_of v)) s
  no_place y wraps far h = go (two_ways (leb e (mark_of v))) (two_ways (good_l2 v (2 ^ b) n e))
    where
      past : Placed v (2 ^ b) n x → ⊥
      past w = let f = placed-far v b n x least w in omega (arith, f.0, f.1, wraps, far, h)

      go : (leb e (mark_of v) ≡ true) ⊎ (leb e (mark_of v) ≡ false) → (good_l2 v (2 ^ b) n e ≡ true) ⊎ (good_l2 v (2 ^ b) n e ≡ false) → Stepped kind v (2 ^ b) n e s (leb e (mark_of v)) s
      go (inl l) g = low-stepped (leb-true _ _ l)
      go (inr l) (inr g) = rw l (stepped-not kind v (2 ^ b) n e s (bad_stops kind v (2 ^ b) n e g))
      go (inr l) (inl g) = ways (good-ways v b n e least small word g)
        where
          ways : (e ≤ mark_of v) ⊎ Placed v (2 ^ b) n x → Stepped kind v (2 ^ b) n e s (leb e (mark_of v)) s
          ways (inl m) = low-stepped m
          ways (inr w) = absurd (past w)

  -- y is the difference of e and 2^63 + 2, which wraps round, in a walk that counts alone
  pub no_own : kind ≡ 0 → (y : ℕ) → (y + (2 ^ 63 + 2)) % 2 ^ 64 ≡ e → y < 2 ^ 64 → n - 2 ≤ y → Stepped kind v (2 ^ b) n e s (leb e (mark_of v)) s
  no_own k y wraps far h = go (two_ways (leb e (mark_of v))) (two_ways (good_l2 v (2 ^ b) n e))
    where
      go : (leb e (mark_of v) ≡ true) ⊎ (leb e (mark_of v) ≡ false) → (good_l2 v (2 ^ b) n e ≡ true) ⊎ (good_l2 v (2 ^ b) n e ≡ false) → Stepped kind v (2 ^ b) n e s (leb e (mark_of v)) s
      go (inl l) g = low-stepped (leb-true _ _ l)
      go (inr l) (inr g) = rw l (stepped-not kind v (2 ^ b) n e s (bad_stops kind v (2 ^ b) n e g))
      go (inr l) (inl g) = ways (good-ways v b n e least small word g)
        where
          ways : (e ≤ mark_of v) ⊎ Placed v (2 ^ b) n x → Stepped kind v (2 ^ b) n e s (leb e (mark_of v)) s
          ways (inl m) = low-stepped m
          ways (inr w) =
              let f = placed-far v b n x least w in
              let z : place e ≡ 0 → ⊥ = λ z. omega (arith, placed_at v b n e least small word w, w.some, z) in
              rw l (stepped-not kind v (2 ^ b) n e s (common_stops kind v (2 ^ b) n e k (is-common e (omega (arith, f.0, f.1, wraps, far, h, word, small)) z)))

  pub bad-rest : 2 ≤ x → mark_of v < x % 2 ^ b → Stepped kind v (2 ^ b) n e s false s
  bad-rest f r = stepped-not kind v (2 ^ b) n e s (bad_stops kind v (2 ^ b) n e (rest-bad v b n e least small word f r))

  module _ (w : Placed v (2 ^ b) n x) where
    some-place : place e ≡ 0 → ⊥
    some-place z = omega (arith, placed_at v b n e least small word w, w.some, z)

    pub common-stepped : kind ≡ 0 → e ≡ x → Stepped kind v (2 ^ b) n e s false s
    common-stepped k h = stepped-not kind v (2 ^ b) n e s (common_stops kind v (2 ^ b) n e k (is-common e h some-place))

    pub placed-stepped : (kind ≡ 0 → e ≡ x → ⊥) → Stepped kind v (2 ^ b) n e s true (visited kind s (x / 2 ^ b))
    placed-stepped f =
        let t = good-passes kind v (2 ^ b) n e (placed-good v b n e least small word w) (λ k. alone-common e word (f k)) in
        rw (placed-cluster v b n x least w, ← placed_at v b n e least small word w) (stepped-some kind v (2 ^ b) n e s t some-place)
