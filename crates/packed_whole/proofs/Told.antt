-- Numbers of whole bytes against figures of 0 and 1, told by their bytes turned round. Assumes nothing.
use Rattle.std.specs.Prelude.{if◌then◌else◌}
use Prim.Native.Nat.{ℕ, zero, suc, ◌+◌, ◌-◌, ◌*◌, ◌≤◌, ◌<◌}
use native.Mathlib.Nat.{add-zero, zero-mul}
use native.Mathlib.Omega.{arith}
use mathlib.Core.Path.{◌≡◌, refl, sym, ◌∙◌}
use mathlib.Core.Bool.{Bool, true, false, not, ◌&&◌, ◌||◌}
use mathlib.Core.List.{List}
use lib.Dec.{eqb, ltb}
use borrow.Author.Tests.{le-ltb, eq-eqb, ne_eqb, eqb-true, eqb-false}
use Rattle.choice.specs.Pick.{count}
use Rattle.choice.proofs.Searches.{count_turns}
use Rattle.widths.specs.Width.{be}
use Rattle.widths.proofs.Cells.{Small}
use Rattle.packed.specs.Packed.{packed}
use Rattle.packed.specs.Lanes.{lanes, bytes_at}
use Rattle.packed.proofs.Laws.{eqb_same}
use Rattle.packed.proofs.Turned.{same16, same32, same64, whole16, whole32, whole64}

-- one number more
pub count-more : (p : ℕ → Bool) (k j : ℕ) → count p k (j + 1) ≡ count p k j + (if p (k + j) then 1 else 0)
count-more p k j =
    let d : k + j + 1 - k ≡ j + 1 = omega arith in
    let e : k + j + 1 - (k + j) ≡ 1 = omega arith in
    rw (d, e, add-zero) at (count_turns p k j (k + j + 1) (omega arith))

-- ---- one test for another
pub if-not : (b : Bool) → ◌≡◌ {A = ℕ} (if not b then 1 else 0) (if b then 0 else 1)
if-not true = refl
if-not false = refl

under-is : (x f t : ℕ) → f ≤ 1 → (x ≡ 0 → t ≡ 0) → (t ≡ 0 → x ≡ 0) → ◌≡◌ {A = ℕ} (if ltb x f then 1 else 0) ((if eqb t 0 then 1 else 0) * f)
under-is x f t h to from = go (eqb t 0) refl
  where
    low : (y : ℕ) → y ≤ 1 → ◌≡◌ {A = ℕ} (if ltb 0 y then 1 else 0) (1 * y)
    low zero s = refl
    low (suc zero) s = refl
    low (suc (suc y)) s = absurd (omega arith)

    go : (b : Bool) → eqb t 0 ≡ b → ◌≡◌ {A = ℕ} (if ltb x f then 1 else 0) ((if b then 1 else 0) * f)
    go true e = rw (from (eqb-true t 0 e)) (low f h)
    go false e =
        let z : x ≡ 0 → ⊥ = λ w. eqb-false t 0 e (to w) in
        rw (le-ltb x f (omega arith), zero-mul f) refl

-- of two halves
both : (h t g : ℕ) → h < 4294967296 → eqb (h + t * 4294967296) (g * 4294967296) ≡ (eqb h 0 && eqb t g)
both h t g l = go (eqb h 0) (eqb t g) refl refl
  where
    go : (a b : Bool) → eqb h 0 ≡ a → eqb t g ≡ b → eqb (h + t * 4294967296) (g * 4294967296) ≡ (a && b)
    go true true d e = eq-eqb _ _ (omega (arith, eqb-true h 0 d, eqb-true t g e))
    go true false d e = ne_eqb _ _ (λ z. eqb-false t g e (omega (arith, z, eqb-true h 0 d)))
    go false b d e = ne_eqb _ _ (λ z. eqb-false h 0 d (omega (arith, z)))

not-and : (a b : Bool) → not (a && b) ≡ (not a || not b)
not-and true b = refl
not-and false b = refl

-- ---- number j against its figure
abbrev pub Told : (o : ℕ) → (l : List ℕ) → (j f t s : ℕ) → Type 0
Told o l j f t s =
    (eqb (packed o l j) f ≡ eqb t (f * s))
    × (◌≡◌ {A = ℕ} (if ltb (packed o l j) f then 1 else 0) ((if eqb t 0 then 1 else 0) * f))

module _ (l : List ℕ) (b : Small l) (j f : ℕ) (one : f ≤ 1) where
  told : (o k s t : ℕ) → packed o l j ≡ be k l (k * j) → ((f : ℕ) → f ≤ 1 → (be k l (k * j) ≡ f → t ≡ f * s) × (t ≡ f * s → be k l (k * j) ≡ f)) → Told o l j f t s
  told o k s t p same =
      let z : 0 * s ≡ 0 = zero-mul s in
      rw p (
        eqb_same (be k l (k * j)) f t (f * s) (same f one).0 (same f one).1,
        under-is (be k l (k * j)) f t one (λ e. (same 0 (omega arith)).0 e ∙ z) (λ e. (same 0 (omega arith)).1 (e ∙ sym z)),
      )

  pub told16 : Told 4 l j f (lanes 2 (bytes_at l (2 * j))) 256
  told16 = told 4 2 256 (lanes 2 (bytes_at l (2 * j))) (whole16 l b j) (same16 l b (2 * j))

  pub told32 : Told 5 l j f (lanes 4 (bytes_at l (4 * j))) 16777216
  told32 = told 5 4 16777216 (lanes 4 (bytes_at l (4 * j))) (whole32 l b j) (same32 l b (4 * j))

  -- by its two halves
  pub told64 : (h t : ℕ) → h ≡ lanes 4 (bytes_at l (8 * j)) → t ≡ lanes 4 (bytes_at l (8 * j + 4)) → h < 4294967296 → (not (eqb (packed 6 l j) f) ≡ (not (eqb h 0) || not (eqb t (f * 16777216)))) × (◌≡◌ {A = ℕ} (if ltb (packed 6 l j) f then 1 else 0) ((if eqb h 0 && eqb t 0 then 1 else 0) * f))
  told64 h t x y s =
      let w : Told 6 l j f (h + t * 4294967296) 72057594037927936 = rw (x, y) (told 6 8 72057594037927936 (lanes 4 (bytes_at l (8 * j)) + lanes 4 (bytes_at l (8 * j + 4)) * 4294967296) (whole64 l b j) (same64 l b (8 * j))) in
      let m : f * 72057594037927936 ≡ f * 16777216 * 4294967296 = omega arith in
      let u = rw (m, both h t (f * 16777216) s) at w.0 in
      let z = rw (both h t 0 s) at w.1 in
      (rw u (not-and (eqb h 0) (eqb t (f * 16777216))), z)
