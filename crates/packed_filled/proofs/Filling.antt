-- Numbers of at most 8 bits that are not 0, a byte at a time. Assumes nothing.
use Rattle.std.specs.Prelude.{if◌then◌else◌}
use Prim.Native.Nat.{ℕ, ◌+◌, ◌-◌, ◌*◌, ◌/◌, ◌%◌, ◌^◌, ◌≤◌, ◌<◌}
use native.Mathlib.Nat.{zero-add, sub-zero, mul-add, mul-one, one-mul}
use native.Mathlib.Omega.{arith}
use mathlib.Core.Path.{◌≡◌, refl, ap, ◌∙◌}
use mathlib.Core.Bool.{not}
use mathlib.Core.List.{List}
use lib.Bits.{bit_or, bit_and}
use lib.Dec.{eqb}
use lib.ListN.{get_or}
use lib.Pow.{pow_mono}
use Rattle.choice.specs.Pick.{count}
use Rattle.choice.proofs.Searches.{count_turns, count_same, count_most}
use Rattle.widths.specs.Width.{field}
use Rattle.packed.specs.Packed.{zero_at}
use Rattle.packed.specs.Lanes.{parts}
use Rattle.packed_filled.specs.Filled.{full_part, filled_in, filled_at}
use Rattle.packed.proofs.Each.{each-byte}
use Rattle.packed.proofs.Narrow.{packed-parts}

-- bits added by twos, by fours and by eights
abbrev twos : ℕ → ℕ
twos x = bit_and x 85 + bit_and (x / 2) 85

abbrev fours : ℕ → ℕ
fours x = bit_and (twos x) 51 + bit_and (twos x / 4) 51

pub ones_is : (x : ℕ) → x < 256 → fours x % 16 + fours x / 16 ≡ filled_in 0 x
unfolding filled_in parts field
ones_is = each-byte (λ x. fours x % 16 + fours x / 16) (filled_in 0) refl

-- bits joined to the lowest of each number
abbrev pub joined2 : ℕ → ℕ
joined2 x = bit_or x (x / 2)

pub filled1 : (x : ℕ) → x < 256 → filled_in 0 (bit_and (joined2 x) 85) ≡ filled_in 1 x
unfolding filled_in parts field
filled1 = each-byte (λ x. filled_in 0 (bit_and (joined2 x) 85)) (filled_in 1) refl

-- by the two halves of a byte
pub filled2 : (x : ℕ) → x < 256 → (if not (eqb (x % 16) 0) then 1 else 0) + (if not (eqb (x / 16) 0) then 1 else 0) ≡ filled_in 2 x
unfolding filled_in parts field
filled2 = each-byte (λ x. (if not (eqb (x % 16) 0) then 1 else 0) + (if not (eqb (x / 16) 0) then 1 else 0)) (filled_in 2) refl

-- by itself
filled3 : (x : ℕ) → x < 256 → (if not (eqb x 0) then 1 else 0) ≡ filled_in 3 x
unfolding filled_in parts field
filled3 = each-byte (λ x. if not (eqb x 0) then 1 else 0) (filled_in 3) refl

pub filled-most : (o x : ℕ) → filled_in o x ≤ 8
unfolding filled_in
filled-most o x = omega (arith, count_most (full_part o x) 0 (2 ^ (3 - o)), pow_mono {i = 3 - o} {j = 3} (omega arith))

-- one byte more
module _ (o : ℕ) (h : o ≤ 3) (l : List ℕ) where
  in_byte : (b d : ℕ) → d < 2 ^ (3 - o) → filled_at o l (2 ^ (3 - o) * b + d) ≡ full_part o (get_or l b 0) (0 + d)
  unfolding filled_at zero_at
  in_byte b d k = rw zero-add (ap (λ (x : ℕ). not (eqb x 0)) (packed-parts o h l b d k))

  pub byte-filled : (b : ℕ) → count (filled_at o l) 0 (2 ^ (3 - o) * (b + 1)) ≡ count (filled_at o l) 0 (2 ^ (3 - o) * b) + filled_in o (get_or l b 0)
  unfolding filled_in
  byte-filled b =
      let per : ℕ = 2 ^ (3 - o) in
      let e : per * (b + 1) ≡ per * b + per = mul-add per b 1 ∙ ap (λ (x : ℕ). per * b + x) (mul-one per) in
      let d : per * b + per - per * b ≡ per = omega arith in
      let t = rw (sub-zero, zero-add, d) at (count_turns (filled_at o l) 0 (per * b) (per * b + per) (omega arith)) in
      rw (e, t, count_same (filled_at o l) (full_part o (get_or l b 0)) (per * b) 0 per (in_byte b)) refl

-- one number of 8 bits more
pub whole-filled : (l : List ℕ) (b : ℕ) → get_or l b 0 < 256 → count (filled_at 3 l) 0 (b + 1) ≡ count (filled_at 3 l) 0 b + (if not (eqb (get_or l b 0) 0) then 1 else 0)
whole-filled l b h = rw (filled3 (get_or l b 0) h) (rw (one-mul b, one-mul (b + 1)) at (byte-filled 3 (omega arith) l b))
