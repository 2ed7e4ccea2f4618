-- Bytes side by side in one number: sums, comparisons and counts, byte by byte. Assumes nothing.
use Rattle.std.specs.Prelude.{if◌then◌else◌}
use Prim.Native.Nat.{ℕ, zero, suc, ◌+◌, ◌-◌, ◌*◌, ◌/◌, ◌%◌, ◌^◌, ◌≤◌, ◌<◌}
use native.Mathlib.Nat.{add-zero, mul-suc}
use native.Mathlib.Omega.{arith}
use mathlib.Core.Path.{◌≡◌, refl, sym, ap, ap₂, ◌∙◌}
use mathlib.Core.Bool.{Bool, true, false, not}
use mathlib.Core.List.{List}
use lib.Bits.{bit_and, and_block, and_mask}
use lib.Dec.{eqb, ltb}
use lib.ListN.{length, get_or}
use borrow.Author.Tests.{ltb-true, ltb-false, eq-eqb, ne_eqb}
use Rattle.choice.specs.Pick.{count}
use Rattle.packed.specs.Packed.{packed, unlike_at, under_at, Single}
use Rattle.packed.specs.Lanes.{lanes, parts, bytes_at}
use Rattle.packed_lanes.specs.Sums.{above, sum, over_at}
use Rattle.packed.specs.Figures.{Tallied}
use Rattle.packed.proofs.Laws.{count_split}
use Rattle.packed.proofs.Narrow.{packed-parts, packed-most}

-- ---- lanes
pub lanes-same : (k : ℕ) (a b : ℕ → ℕ) → ((i : ℕ) → i < k → a i ≡ b i) → lanes k a ≡ lanes k b
unfolding lanes
lanes-same zero a b h = refl
lanes-same (suc k) a b h = ap₂ (λ (x y : ℕ). x + 256 * y) (h 0 (omega arith)) (lanes-same k (λ i. a (suc i)) (λ i. b (suc i)) (λ i l. h (suc i) (omega arith)))

pub lanes_add : (k : ℕ) (a b : ℕ → ℕ) → lanes k a + lanes k b ≡ lanes k (λ i. a i + b i)
unfolding lanes
lanes_add zero a b = refl
lanes_add (suc k) a b = omega (arith, lanes_add k (λ i. a (suc i)) (λ i. b (suc i)))

pub lanes-most : (k m : ℕ) (a : ℕ → ℕ) → ((i : ℕ) → a i ≤ m) → lanes k a ≤ lanes k (λ i. m)
unfolding lanes
lanes-most zero m a h = omega arith
lanes-most (suc k) m a h = omega (arith, h 0, lanes-most k m (λ i. a (suc i)) (λ i. h (suc i)))

-- the highest bit of each byte, as 1
flags : (k : ℕ) (y : ℕ → ℕ) → ((i : ℕ) → y i < 256) → bit_and (lanes k y / 128) (lanes k (λ i. 1)) ≡ lanes k (λ i. y i / 128)
unfolding lanes
flags zero y h = refl
flags (suc k) y h =
    let L = lanes k (λ i. y (suc i)) in
    let O = lanes k (λ i. 1) in
    let r = y 0 / 128 + L % 128 * 2 in
    let a : (y 0 + 256 * L) / 128 ≡ L / 128 * 2 ^ 8 + r = omega (arith, h 0) in
    let b : 1 + 256 * O ≡ O * 2 ^ 8 + 1 = omega arith in
    let m : r % 2 ≡ y 0 / 128 = omega (arith, h 0) in
    let n : r < 2 ^ 8 = omega (arith, h 0) in
    rw (a, b, and_block 8 (L / 128) O r 1 n (omega arith), flags k (λ i. y (suc i)) (λ i. h (suc i)), and_mask r 1, m) (omega arith)

one-above : (a b : ℕ) → a ≤ 127 → b ≤ 127 → (a + (127 - b)) / 128 ≡ (if ltb b a then 1 else 0)
one-above a b ha hb = go (ltb b a) refl
  where
    go : (t : Bool) → ltb b a ≡ t → (a + (127 - b)) / 128 ≡ (if t then 1 else 0)
    go true e = let h : b < a = ltb-true b a e in omega arith
    go false e = let h : a ≤ b = ltb-false b a e in omega arith

pub above-is : (k : ℕ) (a b : ℕ → ℕ) → ((i : ℕ) → a i ≤ 127) → ((i : ℕ) → b i ≤ 127) → above k (lanes k a) (lanes k b) ≡ lanes k (λ i. if ltb (b i) (a i) then 1 else 0)
unfolding above
above-is k a b ha hb =
    let d : lanes k (λ i. 127 - b i) + lanes k b ≡ lanes k (λ i. 127) = lanes_add k (λ i. 127 - b i) b ∙ lanes-same k (λ i. 127 - b i + b i) (λ i. 127) (λ i l. omega (arith, hb i)) in
    let e : lanes k a + (lanes k (λ i. 127) - lanes k b) ≡ lanes k (λ i. a i + (127 - b i)) = ap (λ (x : ℕ). lanes k a + x) (omega (arith, d)) ∙ lanes_add k a (λ i. 127 - b i) in
    rw e (flags k (λ i. a i + (127 - b i)) (λ i. omega (arith, ha i)) ∙ lanes-same k (λ i. (a i + (127 - b i)) / 128) (λ i. if ltb (b i) (a i) then 1 else 0) (λ i l. one-above (a i) (b i) (ha i) (hb i)))

-- ---- the sum of all bytes
abbrev total : ℕ → (ℕ → ℕ) → ℕ
total zero d = 0
total (suc k) d = d 0 + total k (λ i. d (suc i))

sum-lanes : (k : ℕ) (d : ℕ → ℕ) → ((i : ℕ) → d i < 256) → sum k (lanes k d) ≡ total k d
unfolding lanes sum
sum-lanes zero d h = refl
sum-lanes (suc k) d h =
    let L = lanes k (λ i. d (suc i)) in
    let q : (d 0 + 256 * L) / 256 ≡ L = omega (arith, h 0) in
    let r : (d 0 + 256 * L) % 256 ≡ d 0 = omega (arith, h 0) in
    rw (q, r, sum-lanes k (λ i. d (suc i)) (λ i. h (suc i)))

total-add : (k : ℕ) (a b : ℕ → ℕ) → total k (λ i. a i + b i) ≡ total k a + total k b
total-add zero a b = refl
total-add (suc k) a b = omega (arith, total-add k (λ i. a (suc i)) (λ i. b (suc i)))

total_same : (k : ℕ) (a b : ℕ → ℕ) → ((i : ℕ) → a i ≡ b i) → total k a ≡ total k b
total_same zero a b h = refl
total_same (suc k) a b h = ap₂ (λ (x y : ℕ). x + y) (h 0) (total_same k (λ i. a (suc i)) (λ i. b (suc i)) (λ i. h (suc i)))

total_none : (k : ℕ) → total k (λ i. 0) ≡ 0
total_none zero = refl
total_none (suc k) = omega (arith, total_none k)

-- ---- counts
abbrev flag : Bool → ℕ
flag t = if t then 1 else 0

total_count : (p : ℕ → Bool) (j k : ℕ) → total k (λ i. flag (p (j + i))) ≡ count p j k
total_count p j zero = refl
total_count p j (suc k) =
    let e : total k (λ i. flag (p (j + suc i))) ≡ total k (λ i. flag (p (suc j + i))) = total_same k (λ i. flag (p (j + suc i))) (λ i. flag (p (suc j + i))) (λ i. ap (λ (x : ℕ). flag (p x)) (omega arith)) in
    ap₂ (λ (x y : ℕ). x + y) (ap (λ (x : ℕ). flag (p x)) (add-zero j)) (e ∙ total_count p (suc j) k)

-- of n numbers from number i on, each the k-th after the one before, so many pass
abbrev pub tally : (p : ℕ → Bool) → (k n i : ℕ) → ℕ
tally p k zero i = 0
tally p k (suc n) i = tally p k n i + (if p (k * n + i) then 1 else 0)

pub tally_most : (p : ℕ → Bool) (k n i : ℕ) → tally p k n i ≤ n
tally_most p k zero i = omega arith
tally_most p k (suc n) i = go (p (k * n + i)) (tally_most p k n i)
  where
    go : (t : Bool) → tally p k n i ≤ n → tally p k n i + (if t then 1 else 0) ≤ suc n
    go true h = omega (arith, h)
    go false h = omega (arith, h)

pub tally_next : (p : ℕ → Bool) (k n : ℕ) → lanes k (tally p k n) + lanes k (λ i. if p (k * n + i) then 1 else 0) ≡ lanes k (tally p k (n + 1))
tally_next p k n = let e : n + 1 ≡ suc n = omega arith in rw e (lanes_add k (tally p k n) (λ i. if p (k * n + i) then 1 else 0))

tally_total : (p : ℕ → Bool) (k n : ℕ) → total k (tally p k n) ≡ count p 0 (k * n)
tally_total p k zero = let e : k * 0 ≡ 0 = omega arith in rw e (total_none k)
tally_total p k (suc n) =
    let e : k * suc n ≡ k * n + k = mul-suc k n in
    rw (e, count_split p (k * n) k, ← tally_total p k n, ← total_count p (k * n) k) (total-add k (tally p k n) (λ i. flag (p (k * n + i))))

pub tallied : (p : ℕ → Bool) (k n : ℕ) → n ≤ 128 → sum k (lanes k (tally p k n)) ≡ count p 0 (k * n)
tallied p k n h = sum-lanes k (tally p k n) (λ i. omega (arith, tally_most p k n i)) ∙ tally_total p k n

-- numbers that are not the figures are above or below them
pub count-both : (p q r : ℕ → Bool) → ((i : ℕ) → ◌≡◌ {A = ℕ} (if p i then 1 else 0) ((if q i then 1 else 0) + (if r i then 1 else 0))) → (i k : ℕ) → count p i k ≡ count q i k + count r i k
count-both p q r h i zero = refl
count-both p q r h i (suc k) = omega (arith, h i, count-both p q r h (suc i) k)

apart : (o : ℕ) (B F : List ℕ) (i : ℕ) → ◌≡◌ {A = ℕ} (if unlike_at o B F i then 1 else 0) ((if over_at o B F i then 1 else 0) + (if under_at o B F i then 1 else 0))
unfolding unlike_at over_at under_at
apart o B F i = go (packed o B i) (get_or F i 0) (ltb (get_or F i 0) (packed o B i)) (ltb (packed o B i) (get_or F i 0)) refl refl
  where
    go : (x f : ℕ) (s t : Bool) → ltb f x ≡ s → ltb x f ≡ t → ◌≡◌ {A = ℕ} (if not (eqb x f) then 1 else 0) ((if s then 1 else 0) + (if t then 1 else 0))
    go x f true true d e = absurd (omega (arith, ltb-true f x d, ltb-true x f e))
    go x f true false d e = let h : f < x = ltb-true f x d in rw (ne_eqb x f (λ z. omega arith))
    go x f false true d e = let h : x < f = ltb-true x f e in rw (ne_eqb x f (λ z. omega arith))
    go x f false false d e = let a : x ≤ f = ltb-false f x d in let b : f ≤ x = ltb-false x f e in rw (eq-eqb x f (omega arith))

lanes-none : (k : ℕ) → 0 ≡ lanes k (λ i. 0)
unfolding lanes
lanes-none zero = refl
lanes-none (suc k) = omega (arith, lanes-none k)

-- ---- a group: in each step one byte of numbers and their figures
module _ (o : ℕ) (h : o ≤ 2) (B F : List ℕ) (one : Single F) where
  numbers_are : (b : ℕ) → lanes (2 ^ (3 - o)) (parts o (get_or B b 0)) ≡ lanes (2 ^ (3 - o)) (λ i. packed o B (2 ^ (3 - o) * b + i))
  numbers_are b = lanes-same (2 ^ (3 - o)) (parts o (get_or B b 0)) (λ i. packed o B (2 ^ (3 - o) * b + i)) (λ i l. sym (packed-parts o (omega (arith, h)) B b i l))

  pub numbers-most : (b : ℕ) → lanes (2 ^ (3 - o)) (parts o (get_or B b 0)) ≤ lanes (2 ^ (3 - o)) (λ i. 127)
  numbers-most b = rw (numbers_are b) (lanes-most (2 ^ (3 - o)) 127 (λ i. packed o B (2 ^ (3 - o) * b + i)) (λ i. packed-most o h B (2 ^ (3 - o) * b + i)))

  pub figures-most : (b : ℕ) → lanes (2 ^ (3 - o)) (bytes_at F (2 ^ (3 - o) * b)) ≤ lanes (2 ^ (3 - o)) (λ i. 127)
  figures-most b = lanes-most (2 ^ (3 - o)) 127 (bytes_at F (2 ^ (3 - o) * b)) (λ i. omega (arith, one (2 ^ (3 - o) * b + i)))

  over-next : (b : ℕ) → lanes (2 ^ (3 - o)) (tally (over_at o B F) (2 ^ (3 - o)) b) + above (2 ^ (3 - o)) (lanes (2 ^ (3 - o)) (parts o (get_or B b 0))) (lanes (2 ^ (3 - o)) (bytes_at F (2 ^ (3 - o) * b))) ≡ lanes (2 ^ (3 - o)) (tally (over_at o B F) (2 ^ (3 - o)) (b + 1))
  unfolding over_at
  over-next b =
      let k = 2 ^ (3 - o) in
      rw (numbers_are b, above-is k (λ i. packed o B (k * b + i)) (bytes_at F (k * b)) (λ i. packed-most o h B (k * b + i)) (λ i. omega (arith, one (k * b + i)))) (tally_next (over_at o B F) k b)

  under_next : (b : ℕ) → lanes (2 ^ (3 - o)) (tally (under_at o B F) (2 ^ (3 - o)) b) + above (2 ^ (3 - o)) (lanes (2 ^ (3 - o)) (bytes_at F (2 ^ (3 - o) * b))) (lanes (2 ^ (3 - o)) (parts o (get_or B b 0))) ≡ lanes (2 ^ (3 - o)) (tally (under_at o B F) (2 ^ (3 - o)) (b + 1))
  unfolding under_at
  under_next b =
      let k = 2 ^ (3 - o) in
      rw (numbers_are b, above-is k (bytes_at F (k * b)) (λ i. packed o B (k * b + i)) (λ i. omega (arith, one (k * b + i))) (λ i. packed-most o h B (k * b + i))) (tally_next (under_at o B F) k b)

-- what lanes have counted after b bytes
abbrev pub Lanes : (o : ℕ) → (B F : List ℕ) → (b over under : ℕ) → Type 0
Lanes o B F b over under =
    (over ≡ lanes (2 ^ (3 - o)) (tally (over_at o B F) (2 ^ (3 - o)) b)) × (under ≡ lanes (2 ^ (3 - o)) (tally (under_at o B F) (2 ^ (3 - o)) b))

pub lanes_start : (o : ℕ) (B F : List ℕ) → Lanes o B F 0 0 0
lanes_start o B F = (lanes-none (2 ^ (3 - o)), lanes-none (2 ^ (3 - o)))

module _ (o : ℕ) (B F : List ℕ) (n : ℕ) (h : n ≤ 128) (u v : ℕ) (c : Lanes o B F n u v) where
  pub lanes_low : (u ≤ lanes (2 ^ (3 - o)) (λ i. 128)) × (v ≤ lanes (2 ^ (3 - o)) (λ i. 128))
  lanes_low =
      let k = 2 ^ (3 - o) in (
        rw c.0 (lanes-most k 128 (tally (over_at o B F) k n) (λ i. omega (arith, tally_most (over_at o B F) k n i))),
        rw c.1 (lanes-most k 128 (tally (under_at o B F) k n) (λ i. omega (arith, tally_most (under_at o B F) k n i))),
      )

  pub lanes_end : length F ≡ 2 ^ (3 - o) * n → Tallied o B F (sum (2 ^ (3 - o)) u + sum (2 ^ (3 - o)) v) (sum (2 ^ (3 - o)) v)
  lanes_end e =
      let k = 2 ^ (3 - o) in
      let x : sum k u ≡ count (over_at o B F) 0 (length F) = rw (c.0, e) (tallied (over_at o B F) k n h) in
      let y : sum k v ≡ count (under_at o B F) 0 (length F) = rw (c.1, e) (tallied (under_at o B F) k n h) in
      (rw (x, y) (sym (count-both (unlike_at o B F) (over_at o B F) (under_at o B F) (apart o B F) 0 (length F))), y)

module _ (o : ℕ) (h : o ≤ 2) (B F : List ℕ) (one : Single F) (b u v s f x y : ℕ) (c : Lanes o B F b u v) (hs : s ≡ lanes (2 ^ (3 - o)) (parts o (get_or B b 0))) (hf : f ≡ lanes (2 ^ (3 - o)) (bytes_at F (2 ^ (3 - o) * b))) (hx : x ≡ above (2 ^ (3 - o)) s f) where
  lanes-over : u + x ≡ lanes (2 ^ (3 - o)) (tally (over_at o B F) (2 ^ (3 - o)) (b + 1))
  lanes-over = rw (c.0, hx, hs, hf) (over-next o h B F one b)

  pub over-low : b < 128 → u + x ≤ lanes (2 ^ (3 - o)) (λ i. 128)
  over-low l =
      let k = 2 ^ (3 - o) in
      rw lanes-over (lanes-most k 128 (tally (over_at o B F) k (b + 1)) (λ i. omega (arith, tally_most (over_at o B F) k (b + 1) i)))

  pub lanes_next : y ≡ above (2 ^ (3 - o)) f s → Lanes o B F (b + 1) (u + x) (v + y)
  lanes_next hy = (lanes-over, rw (c.1, hy, hs, hf) (under_next o h B F one b))

pub tops : (lanes 2 (λ i. 128) ≡ 32896) × (lanes 4 (λ i. 128) ≡ 2155905152) × (lanes 8 (λ i. 128) ≡ 9259542123273814144)
unfolding lanes
tops = (refl, refl, refl)
