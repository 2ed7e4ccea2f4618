-- What every L2 entry gives: plain, empty and marked ones, and those that are refused.
-- Assumes nothing.
use Rattle.std.specs.Prelude.{if◌then◌else◌, Err, Ok, Result}
use Prim.Native.Nat.{ℕ, ◌+◌, ◌-◌, ◌/◌, ◌%◌, ◌^◌, ◌≤◌, ◌<◌}
use native.Mathlib.Omega.{arith}
use mathlib.Core.Path.{◌≡◌, refl, sym, ap, ◌∙◌}
use mathlib.Core.Logic.{◌⊎◌, inl, inr}
use mathlib.Core.Bool.{Bool, true, false, not, ◌&&◌, ◌||◌}
use borrow.Author.Tests.{eq-eqb, ne_eqb, eqb-true, eqb-false, not-false}
use lib.Dec.{eqb}
use Rattle.choice.proofs.Tests.{true-not-false, if_elim, and-true, or-true}
use Rattle.qcow2_spec.specs.Header.{most_length}
use Rattle.qcow2_spec.specs.Entries.{place, good_place, good_l2, compressed, zero_mark}
use Rattle.qcow2_spec.specs.Guest.{entry_way, entry_gives, way_gives}
use Rattle.qcow2_spec.specs.declared.Found.{Found}
use Rattle.qcow2_spec.specs.declared.Found.TheVariants.{Host, Zeros, Absent}
use Rattle.qcow2_spec.specs.declared.Way.{Way}
use Rattle.qcow2_spec.specs.declared.Way.TheVariants.{Slot}
use Rattle.qcow2_plain.specs.Plain.{bare, plain, marked}
use Rattle.qcow2_found.specs.Entry.{entry_found}
use Rattle.qcow2_plain.proofs.Plain.{low_bits, plain-parts, plain-good, plain-way, plain-gives, other-gives, empty_only, good-plain}

pub entry-way : (v C n at e o : ℕ) → way_gives (entry_way v C n at e) o ≡ entry_found v C n e o
unfolding entry_way way_gives entry_found
entry-way v C n at e o = go (compressed e) (good_l2 v C n e)
  where
    go : (a b : Bool) → way_gives (if a then Err 13 else if not b then Err 12 else Ok (Slot at e)) o ≡ (if a then Err 13 else if not b then Err 12 else Ok (entry_gives e o))
    go true b = refl
    go false true = refl
    go false false = refl

-- ---- plain entries
module _ (v b n e o : ℕ) where
  pub found_plain : 9 ≤ b → n ≤ most_length → plain (2 ^ b) n e ≡ true → entry_found v (2 ^ b) n e o ≡ Ok (Host (bare e + o))
  unfolding way_gives
  found_plain l h p = sym (entry-way v (2 ^ b) n 0 e o) ∙ ap (λ (w : Result Way ℕ). way_gives w o) (plain-way b n e l h p v 0) ∙ ap Ok (plain-gives b n e l h p o)

module _ (v C n e o : ℕ) where
  pub found-other : (h : ℕ) → plain C n e ≡ false → entry_found v C n e o ≡ Ok (Host h) → ⊥
  found-other h p y = other-gives v C n 0 e o h p (entry-way v C n 0 e o ∙ y)

  -- ---- empty entries
  pub found-empty : e ≡ 0 → entry_found v C n e o ≡ Ok Absent
  unfolding entry_found good_l2 good_place place compressed zero_mark entry_gives
  found-empty z = rw z

  pub found-filled : (e ≡ 0 → ⊥) → entry_found v C n e o ≡ Ok Absent → ⊥
  unfolding entry_found entry_gives
  found-filled z =
      if_elim P (compressed e) _ _ (λ c. refused 13)
      (λ c. if_elim P (not (good_l2 v C n e)) _ _ (λ d. refused 12)
      (λ d. if_elim Q (zero_mark e) _ _ (λ m y. cc)
      (λ m. if_elim Q (eqb (place e) 0) _ _ (λ q y. z (empty_only v C n e (not-false _ d) m (eqb-true _ _ q)))
      (λ q y. cc))))
    where
      P : Result Found ℕ → Type 0
      P x = x ≡ Ok Absent → ⊥

      Q : Found → Type 0
      Q x = P (Ok x)

      refused : (k : ℕ) → P (Err k)
      refused k y = cc

-- ---- an entry with its mark, and without it
good-same : (C n e : ℕ) → e % 512 ≡ 1 → good_l2 3 C n e ≡ good_l2 3 C n (e - 1)
unfolding good_l2 compressed zero_mark good_place place
good-same C n e m =
    let a : e / 512 ≡ (e - 1) / 512 = omega arith in
    let b : e / 2 ^ 56 ≡ (e - 1) / 2 ^ 56 = omega arith in
    let c : e / 2 ^ 62 ≡ (e - 1) / 2 ^ 62 = omega arith in
    let d : e / 2 ^ 63 ≡ (e - 1) / 2 ^ 63 = omega arith in
    let f : e % 512 / 2 ≡ 0 = omega arith in
    let g : (e - 1) % 512 / 2 ≡ 0 = omega arith in
    let h : e % 2 ≡ 1 = omega arith in
    let k : (e - 1) % 2 ≡ 0 = omega arith in
    rw (a, b, c, d, f, g, h, k)

-- a good entry is not compressed
good_flat : (v C n e : ℕ) → good_l2 v C n e ≡ true → compressed e ≡ false
unfolding good_l2
good_flat v C n e = go (compressed e)
  where
    go : (b : Bool) → (not b && eqb (e % 512 / 2) 0 && eqb (e / 2 ^ 56 % 64) 0 && (not (zero_mark e) || eqb v 3) && good_place C n e) ≡ true → b ≡ false
    go true h = absurd (true-not-false h refl)
    go false h = refl

module _ (C n e o : ℕ) where
  good-zeros : good_l2 3 C n e ≡ true → e % 2 ≡ 1 → entry_found 3 C n e o ≡ Ok Zeros
  unfolding entry_found entry_gives zero_mark
  good-zeros h m = rw (good_flat 3 C n e h, h, m)

  one-zeros : e ≡ 1 → entry_found 3 C n e o ≡ Ok Zeros
  unfolding entry_found good_l2 good_place place compressed zero_mark entry_gives
  one-zeros z = rw z

one-low : (e : ℕ) → 0 < bare (e - 1) → bare (e - 1) % 512 ≡ 0 → e % 512 ≡ 1
unfolding bare
one-low e p q = omega arith

module _ (v b n e o : ℕ) (l : 9 ≤ b) (s : n ≤ most_length) where
  pub found-marked : marked v (2 ^ b) n e ≡ true → entry_found v (2 ^ b) n e o ≡ Ok Zeros
  unfolding marked
  found-marked h =
      let t = and-true (eqb v 3) _ h in
      let w : v ≡ 3 = eqb-true _ _ t.0 in
      rw w (go (or-true (eqb e 1) _ t.1))
    where
      go : (eqb e 1 ≡ true) ⊎ (plain (2 ^ b) n (e - 1) ≡ true) → entry_found 3 (2 ^ b) n e o ≡ Ok Zeros
      go (inl a) = one-zeros (2 ^ b) n e o (eqb-true _ _ a)
      go (inr a) =
          let p = plain-parts b n (e - 1) a in
          let q : bare (e - 1) % 512 ≡ 0 = low_bits (bare (e - 1)) b l p.whole in
          let m : e % 512 ≡ 1 = one-low e p.some q in
          good-zeros (2 ^ b) n e o (good-same (2 ^ b) n e m ∙ plain-good b n (e - 1) l s a 3) (omega arith)

module _ (v C n e : ℕ) where
  abbrev t : Bool
  t = eqb (e % 512 / 2) 0

  abbrev u : Bool
  u = eqb (e / 2 ^ 56 % 64) 0

  -- the version and the low bits of a good entry with its mark
  mark_parts : good_l2 v C n e ≡ true → zero_mark e ≡ true → (v ≡ 3) × (e % 512 ≡ 1)
  unfolding good_l2 zero_mark
  mark_parts h m =
      let a = (and-true (not (compressed e) && t && u && (not (eqb (e % 2) 1) || eqb v 3)) _ h).0 in
      let b = and-true (not (compressed e) && t && u) _ a in
      let c = (and-true (not (compressed e) && t) u b.0).0 in
      let d = (and-true (not (compressed e)) t c).1 in
      let f : eqb v 3 ≡ true = rw m at b.1 in
      let g : e % 512 / 2 ≡ 0 = eqb-true _ _ d in
      let k : e % 2 ≡ 1 = eqb-true _ _ m in
      (eqb-true _ _ f, omega arith)

  mark_right : good_l2 v C n e ≡ true → zero_mark e ≡ true → marked v C n e ≡ true
  unfolding marked zero_mark
  mark_right h m =
      let p = mark_parts h m in
      let g : good_l2 3 C n (e - 1) ≡ true = sym (good-same C n e p.1) ∙ rw p.0 at h in
      let z : zero_mark (e - 1) ≡ false = ne_eqb ((e - 1) % 2) 1 (λ y. omega (arith, y, p.1)) in
      rw (eq-eqb v 3 p.0) (go g z p.1 (eqb (place (e - 1)) 0) refl)
    where
      go : good_l2 3 C n (e - 1) ≡ true → zero_mark (e - 1) ≡ false → e % 512 ≡ 1 → (b : Bool) → eqb (place (e - 1)) 0 ≡ b → (eqb e 1 || plain C n (e - 1)) ≡ true
      go g z m true q = let d : e - 1 ≡ 0 = empty_only 3 C n (e - 1) g z (eqb-true _ _ q) in rw (eq-eqb e 1 (omega arith))
      go g z m false q = rw (good-plain 3 C n (e - 1) g z (eqb-false _ _ q)) (or_right (eqb e 1))
        where
          or_right : (b : Bool) → (b || true) ≡ true
          or_right true = refl
          or_right false = refl

module _ (v C n e o : ℕ) where
  pub found_unmarked : marked v C n e ≡ false → entry_found v C n e o ≡ Ok Zeros → ⊥
  unfolding entry_found entry_gives
  found_unmarked f =
      if_elim P (compressed e) _ _ (λ c. refused 13)
      (λ c. if_elim P (not (good_l2 v C n e)) _ _ (λ d. refused 12)
      (λ d. if_elim Q (zero_mark e) _ _ (λ m y. true-not-false (mark_right v C n e (not-false _ d) m) f)
      (λ m. if_elim Q (eqb (place e) 0) _ _ (λ q y. cc)
      (λ q y. cc))))
    where
      P : Result Found ℕ → Type 0
      P x = x ≡ Ok Zeros → ⊥

      Q : Found → Type 0
      Q x = P (Ok x)

      refused : (k : ℕ) → P (Err k)
      refused k y = cc

  -- ---- what is left is refused
  pub found-refused : plain C n e ≡ false → (e ≡ 0 → ⊥) → marked v C n e ≡ false → entry_found v C n e o ≡ Err (if compressed e then 13 else 12)
  unfolding entry_found entry_gives
  found-refused p z m = go (compressed e) (good_l2 v C n e) refl refl
    where
      go : (a b : Bool) → compressed e ≡ a → good_l2 v C n e ≡ b → entry_found v C n e o ≡ Err (if compressed e then 13 else 12)
      go true b c h = rw c
      go false false c h = rw (c, h)
      go false true c h = absurd (each (zero_mark e) (eqb (place e) 0) (rw (c, h)))
        where
          each : (a b : Bool) → entry_found v C n e o ≡ Ok (if a then Zeros else if b then Absent else Host (place e + o)) → ⊥
          each true b y = found_unmarked m y
          each false true y = found-filled v C n e o z y
          each false false y = found-other v C n e o (place e + o) p y
