-- The counts of a block are all that it holds: two blocks with the same counts have the same bytes. Assumes nothing.
use mathlib.Core.Path.{◌≡◌, sym, ap, ap₂, ◌∙◌, subst}
use mathlib.Core.Logic.{inl, inr, ◌≢◌}
use Prim.Native.Nat.{ℕ, zero, suc, ◌+◌, ◌*◌, ◌/◌, ◌%◌, ◌^◌, ◌≤◌, ◌<◌}
use native.Mathlib.Nat.{add-zero, div-one, div-div-eq-div-mul, mul_assoc, mul_comm, mod-lt, div-add-mod', mod-eq_of_lt, div-lt_iff_lt-mul, not-suc-le-zero}
use native.Mathlib.Decide.{ℕ_discrete, dec_lt}
use native.Mathlib.Omega.{arith}
use Rattle.widths.specs.Width.{span, field}
use Rattle.widths.proofs.Cells.{num, num_small, Even, Within, cell}
use Rattle.widths.proofs.Whole.{bits-bytes}

-- numbers of k bytes are the same only if the bytes are
pub num_bytes-same : (k : ℕ) (f g : ℕ → ℕ) (o : ℕ) → ((x : ℕ) → f x < 256) → ((x : ℕ) → g x < 256) → num k f o ≡ num k g o → (r : ℕ) → r < k → f (o + r) ≡ g (o + r)
unfolding num
num_bytes-same zero f g o hf hg e r l = absurd (not-suc-le-zero l)
num_bytes-same (suc k) f g o hf hg e r l = go (ℕ_discrete r k) (num_bytes-same k f g o hf hg high)
  where
    high : num k f o ≡ num k g o
    high = omega (arith, e, hf (o + k), hg (o + k))

    go : Dec (r ≡ k) → ((q : ℕ) → q < k → f (o + q) ≡ g (o + q)) → f (o + r) ≡ g (o + r)
    go (yes h) w = rw h (omega (arith, e, high, hf (o + k), hg (o + k)))
    go (no h) w = w r (omega arith)

-- bits from the highest on
next-part : (m k y z : ℕ) → y / (m * k) ≡ z / (m * k) → y / m % k ≡ z / m % k → y / m ≡ z / m
next-part m k y z a b =
    sym (div-add-mod' (y / m) k) ∙ ap₂ (λ (p q : ℕ). p * k + q) (div-div-eq-div-mul y m k ∙ a ∙ sym (div-div-eq-div-mul z m k)) b ∙ div-add-mod' (z / m) k

one-part : (y z : ℕ) → y / 1 ≡ z / 1 → y ≡ z
one-part y z e = omega (arith, e)

no_part : (y z : ℕ) → y < 256 → z < 256 → y / 256 ≡ z / 256
no_part y z a b = omega arith

two-2 : (y z : ℕ) → y < 256 → z < 256 → y / 64 % 4 ≡ z / 64 % 4 → y / 16 % 4 ≡ z / 16 % 4 → y / 4 % 4 ≡ z / 4 % 4 → y / 1 % 4 ≡ z / 1 % 4 → y ≡ z
two-2 y z ly lz a b c d = one-part y z (next-part 1 4 y z (next-part 4 4 y z (next-part 16 4 y z (next-part 64 4 y z (no_part y z ly lz) a) b) c) d)

two-1 : (y z : ℕ) → y < 256 → z < 256 → y / 128 % 2 ≡ z / 128 % 2 → y / 64 % 2 ≡ z / 64 % 2 → y / 32 % 2 ≡ z / 32 % 2 → y / 16 % 2 ≡ z / 16 % 2
    → y / 8 % 2 ≡ z / 8 % 2 → y / 4 % 2 ≡ z / 4 % 2 → y / 2 % 2 ≡ z / 2 % 2 → y / 1 % 2 ≡ z / 1 % 2 → y ≡ z
two-1 y z ly lz a b c d e f g h =
    one-part y z (next-part 1 2 y z (next-part 2 2 y z (next-part 4 2 y z (next-part 8 2 y z (next-part 16 2 y z (next-part 32 2 y z (next-part 64 2 y z (next-part 128 2 y z
    (no_part y z ly lz) a) b) c) d) e) f) g) h)

-- several counts in a byte
module _ (H : ℕ) (f g : ℕ → ℕ) (hf : (x : ℕ) → f x < 256) (hg : (x : ℕ) → g x < 256) (x : ℕ) where
  one_byte : (W : ℕ) → span W ≡ 1 → (q : ℕ → ℕ) (p : ℕ) → cell W q p ≡ q (p / 8) / 2 ^ (p % 8) % 2 ^ W
  unfolding cell field num
  one_byte W e q p = rw e (ap (λ (n : ℕ). n / 2 ^ (p % 8) % 2 ^ W) (omega (arith, ap q (add-zero (p / 8)))))

  part : (W : ℕ) → span W ≡ 1 → ((h : ℕ) → h < H → cell W f (W * h) ≡ cell W g (W * h)) → (i h : ℕ) → h < H → W * h ≡ 8 * x + i → i < 8
      → f x / 2 ^ i % 2 ^ W ≡ g x / 2 ^ i % 2 ^ W
  part W e same i h l a b =
      let u : (W * h) / 8 ≡ x = omega (arith, a, b) in
      let v : (W * h) % 8 ≡ i = omega (arith, a, b) in
      rw (u, v) at (sym (one_byte W e f (W * h)) ∙ same h l ∙ one_byte W e g (W * h))

  bits_1 : span 1 ≡ 1 → ((h : ℕ) → h < H → cell 1 f (1 * h) ≡ cell 1 g (1 * h)) → 8 * x + 8 ≤ 1 * H → f x ≡ g x
  bits_1 e same l =
      two-1 (f x) (g x) (hf x) (hg x) (part 1 e same 7 (8 * x + 7) (omega arith) (omega arith) (omega arith)) (part 1 e same 6 (8 * x + 6) (omega arith) (omega arith) (omega arith)) (part 1 e same 5 (8 * x + 5) (omega arith) (omega arith) (omega arith)) (part 1 e same 4 (8 * x + 4) (omega arith) (omega arith) (omega arith)) (part 1 e same 3 (8 * x + 3) (omega arith) (omega arith) (omega arith)) (part 1 e same 2 (8 * x + 2) (omega arith) (omega arith) (omega arith)) (part 1 e same 1 (8 * x + 1) (omega arith) (omega arith) (omega arith)) (part 1 e same 0 (8 * x) (omega arith) (omega arith) (omega arith))

  bits_2 : span 2 ≡ 1 → ((h : ℕ) → h < H → cell 2 f (2 * h) ≡ cell 2 g (2 * h)) → 8 * x + 8 ≤ 2 * H → f x ≡ g x
  bits_2 e same l =
      two-2 (f x) (g x) (hf x) (hg x) (part 2 e same 6 (4 * x + 3) (omega arith) (omega arith) (omega arith)) (part 2 e same 4 (4 * x + 2) (omega arith) (omega arith) (omega arith)) (part 2 e same 2 (4 * x + 1) (omega arith) (omega arith) (omega arith)) (part 2 e same 0 (4 * x) (omega arith) (omega arith) (omega arith))

  bits_4 : span 4 ≡ 1 → ((h : ℕ) → h < H → cell 4 f (4 * h) ≡ cell 4 g (4 * h)) → 8 * x + 8 ≤ 4 * H → f x ≡ g x
  bits_4 e same l =
      omega (
        arith,
        hf x,
        hg x,
        part 4 e same 0 (2 * x) (omega arith) (omega arith) (omega arith),
        part 4 e same 4 (2 * x + 1) (omega arith) (omega arith) (omega arith),
      )

  -- whole bytes
  bytes_whole : (W : ℕ) → 0 < W → W ≡ 8 * span W → ((h : ℕ) → h < H → cell W f (W * h) ≡ cell W g (W * h)) → 8 * x + 8 ≤ W * H → f x ≡ g x
  unfolding cell field
  bytes_whole W wpos e same l =
      rw (div-add-mod' x (span W)) at
      (num_bytes-same (span W) f g (x / span W * span W) hf hg
      (sym (as_number f hf) ∙ same (x / span W) in_h ∙ as_number g hg) (x % span W) (mod-lt x kpos))
    where
      kpos : 0 < span W
      kpos = omega (arith, e, wpos)

      times : (h : ℕ) → W * h ≡ 8 * (h * span W)
      times h = ap (λ (w : ℕ). w * h) e ∙ mul_assoc 8 (span W) h ∙ ap (λ (y : ℕ). 8 * y) (mul_comm (span W) h)

      in_h : x / span W < H
      in_h = (div-lt_iff_lt-mul kpos).1 (omega (arith, l, times H))

      as_number : (q : ℕ → ℕ) → ((o : ℕ) → q o < 256) → cell W q (W * (x / span W)) ≡ num (span W) q (x / span W * span W)
      as_number q hq =
          let z : W * (x / span W) ≡ 8 * (x / span W * span W) = times (x / span W) in
          let at : (W * (x / span W)) / 8 ≡ x / span W * span W = omega (arith, z) in
          let low : (W * (x / span W)) % 8 ≡ 0 = omega (arith, z) in
          let small : num (span W) q (x / span W * span W) < 2 ^ W =
          subst (λ (n : ℕ). num (span W) q (x / span W * span W) < n) (sym (ap (λ (n : ℕ). 2 ^ n) e ∙ bits-bytes (span W))) (num_small (span W) q (x / span W * span W) hq) in
          rw (at, low) (ap (λ (n : ℕ). n % 2 ^ W) (one-part _ _ (ap (λ (n : ℕ). n / 1) (div-one (num (span W) q (x / span W * span W))))) ∙ mod-eq_of_lt small)

-- a width whose numbers never lie over the end of a byte divides 8
is-three : (W : ℕ) → 0 < W → W < 5 → W ≢ 1 → W ≢ 2 → W ≢ 4 → W ≡ 3
is-three W p l a b c = omega arith

not_three : span 3 ≡ 1 → Within 3 (3 * 2) → ⊥
not_three e h = omega (arith, e, h)

not_more : (W : ℕ) → ¬ (W < 5) → W ≤ 8 → W ≢ 8 → Within W (W * 1) → span W ≡ 1 → ⊥
not_more W h few d f e =
    let one : W * 1 % 8 ≡ W = omega arith in
    omega (arith, f, e, one)

-- the bytes of two blocks, count by count
pub cells_bytes : (C W H : ℕ) (f g : ℕ → ℕ) → ((x : ℕ) → f x < 256) → ((x : ℕ) → g x < 256) → Even W → ((i : ℕ) → Within W (W * i)) → 0 < W → 8 * C ≡ W * H
    → ((h : ℕ) → h < H → cell W f (W * h) ≡ cell W g (W * h)) → (x : ℕ) → x < C → f x ≡ g x
cells_bytes C W H f g hf hg (inr e) fit wpos cw same x l = bytes_whole H f g hf hg x W wpos e same (omega (arith, l, cw))
cells_bytes C W H f g hf hg (inl e) fit wpos cw same x l = go (ℕ_discrete W 1) (ℕ_discrete W 2) (ℕ_discrete W 4) (ℕ_discrete W 8)
  where
    few : W ≤ 8
    few = omega (arith, fit 0, e)

    go : Dec (W ≡ 1) → Dec (W ≡ 2) → Dec (W ≡ 4) → Dec (W ≡ 8) → f x ≡ g x
    go (yes a) b c d = bits_1 H f g hf hg x (rw a at e) (rw a at same) (omega (arith, l, rw a at cw))
    go (no a) (yes b) c d = bits_2 H f g hf hg x (rw b at e) (rw b at same) (omega (arith, l, rw b at cw))
    go (no a) (no b) (yes c) d = bits_4 H f g hf hg x (rw c at e) (rw c at same) (omega (arith, l, rw c at cw))
    go (no a) (no b) (no c) (yes d) = bytes_whole H f g hf hg x W wpos (omega (arith, d, e)) same (omega (arith, l, cw))
    go (no a) (no b) (no c) (no d) = absurd (none_left (dec_lt W 5))
      where
        none_left : Dec (W < 5) → ⊥
        none_left (yes h) = let three : W ≡ 3 = is-three W wpos h a b c in not_three (rw three at e) (rw three at (fit 2))
        none_left (no h) = not_more W h few d (fit 1) e
