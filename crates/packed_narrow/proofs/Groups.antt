-- Numbers of at most 8 bits in a part of a list: d bytes from byte k on, and their figures. Assumes nothing.
use Prim.Native.Nat.{ℕ, zero, suc, ◌+◌, ◌-◌, ◌*◌, ◌/◌, ◌%◌, ◌^◌, ◌≤◌, ◌<◌}
use native.Mathlib.Nat.{zero-add, mul-add}
use native.Mathlib.Omega.{arith}
use mathlib.Core.Path.{◌≡◌, refl, sym, ap, ap₂, ◌∙◌}
use mathlib.Core.Bool.{Bool, true, false}
use mathlib.Core.List.{List}
use lib.Dec.{ltb}
use lib.ListN.{length, get_or, take, drop, get_or-eq_default}
use lib.Seq.{get_or-take, get_or-drop}
use borrow.Author.Tests.{ltb-true, ltb-false}
use Rattle.choice.specs.Pick.{count}
use Rattle.choice.proofs.Searches.{count_same}
use Rattle.widths.specs.Width.{field}
use Rattle.widths.proofs.Whole.{number-narrow}
use Rattle.packed.specs.Packed.{packed, unlike_at, under_at, Single}
use Rattle.packed.specs.Figures.{Ready, Tallied, Grouped}
use Rattle.packed.proofs.Parts.{length_part}

place-part : (o : ℕ) → o ≤ 3 → (k d i : ℕ) → i < 2 ^ (3 - o) * d → (2 ^ o * i / 8 < d) × (2 ^ o * (2 ^ (3 - o) * k + i) / 8 ≡ k + 2 ^ o * i / 8) × (2 ^ o * (2 ^ (3 - o) * k + i) % 8 ≡ 2 ^ o * i % 8)
place-part zero h k d i l = (omega arith, omega arith, omega arith)
place-part (suc zero) h k d i l = (omega arith, omega arith, omega arith)
place-part (suc (suc zero)) h k d i l = (omega arith, omega arith, omega arith)
place-part (suc (suc (suc zero))) h k d i l = (omega arith, omega arith, omega arith)
place-part (suc (suc (suc (suc o)))) h k d i l = absurd (omega arith)

-- whole bytes of numbers lie in the list
pub bytes_in : (o : ℕ) → o ≤ 3 → (n m x : ℕ) → 2 ^ o * m ≤ 8 * n → 2 ^ (3 - o) * x ≤ m → x ≤ n
bytes_in zero h n m x f g = omega arith
bytes_in (suc zero) h n m x f g = omega arith
bytes_in (suc (suc zero)) h n m x f g = omega arith
bytes_in (suc (suc (suc zero))) h n m x f g = omega arith
bytes_in (suc (suc (suc (suc o)))) h n m x f g = absurd (omega arith)

single_part : (F : List ℕ) → Single F → (a n : ℕ) → a + n ≤ length F → Single (take n (drop a F))
single_part F one a n h i = go (ltb i n) refl
  where
    go : (t : Bool) → ltb i n ≡ t → get_or (take n (drop a F)) i 0 ≤ 1
    go true e = rw (get_or-take n (drop a F) i 0 (ltb-true i n e), get_or-drop a F i 0) (one (a + i))
    go false e = rw (get_or-eq_default (take n (drop a F)) 0 {n = i} (rw (length_part F a n h) (ltb-false i n e))) (omega arith)

packed-part : (o : ℕ) → o ≤ 3 → (B : List ℕ) (k d i : ℕ) → i < 2 ^ (3 - o) * d → packed o (take d (drop k B)) i ≡ packed o B (2 ^ (3 - o) * k + i)
unfolding packed
packed-part o h B k d i l =
    let p = place-part o h k d i l in
    number-narrow o h (take d (drop k B)) (2 ^ o * i)
    ∙ ap (field (2 ^ o) (2 ^ o * i % 8)) (get_or-take d (drop k B) (2 ^ o * i / 8) 0 p.0 ∙ get_or-drop k B (2 ^ o * i / 8) 0)
    ∙ ap₂ (λ (x y : ℕ). field (2 ^ o) x (get_or B y 0)) (sym p.2) (sym p.1)
    ∙ sym (number-narrow o h B (2 ^ o * (2 ^ (3 - o) * k + i)))

module _ (o : ℕ) (B F P G : List ℕ) (q k d : ℕ) (h : o ≤ 3) (ready : Ready o B F) (hq : q ≡ 2 ^ (3 - o)) (fits : q * (k + d) ≤ length F) (h_p : P ≡ take (k + d - k) (drop k B)) (h_g : G ≡ take (q * (k + d) - q * k) (drop (q * k) F)) where
  few : k + d ≤ length B
  few = bytes_in o h (length B) (length F) (k + d) ready.0.0.fits (rw (← hq) fits)

  sums : q * (k + d) ≡ q * k + q * d
  sums = mul-add q k d

  bytes_are : P ≡ take d (drop k B)
  bytes_are = let e : k + d - k ≡ d = omega arith in rw (h_p, e) refl

  figures_are : G ≡ take (q * d) (drop (q * k) F)
  figures_are = let e : q * (k + d) - q * k ≡ q * d = omega (arith, sums) in rw (h_g, e) refl

  pub part_grouped : d ≤ 128 → Grouped (2 ^ (3 - o)) P G
  part_grouped s =
      let f : q * k + q * d ≤ length F = omega (arith, sums, fits) in
      let n : length P ≡ d = rw bytes_are (length_part B k d few) in
      let m : length G ≡ q * d = rw figures_are (length_part F (q * k) (q * d) f) in
      ((omega arith, rw (n, ← hq) m), rw figures_are (single_part F ready.1 (q * k) (q * d) f))

  figure_at : (i : ℕ) → i < q * d → get_or G i 0 ≡ get_or F (q * k + i) 0
  figure_at i l = rw figures_are (get_or-take (q * d) (drop (q * k) F) i 0 l ∙ get_or-drop (q * k) F i 0)

  number_at : (i : ℕ) → i < q * d → packed o P i ≡ packed o B (q * k + i)
  number_at i l = rw (bytes_are, hq) (packed-part o h B k d i (rw (← hq) l))

  pub part-counted : (u v : ℕ) → Tallied o P G u v → (u ≡ count (unlike_at o B F) (q * k) (q * d)) × (v ≡ count (under_at o B F) (q * k) (q * d))
  unfolding unlike_at under_at
  part-counted u v c =
      let f : q * k + q * d ≤ length F = omega (arith, sums, fits) in
      let m : length G ≡ q * d = rw figures_are (length_part F (q * k) (q * d) f) in (
        rw m at c.0 ∙ count_same (unlike_at o P G) (unlike_at o B F) 0 (q * k) (q * d) (λ x l. rw (zero-add, number_at x l, figure_at x l) refl),
        rw m at c.1 ∙ count_same (under_at o P G) (under_at o B F) 0 (q * k) (q * d) (λ x l. rw (zero-add, number_at x l, figure_at x l) refl),
      )
