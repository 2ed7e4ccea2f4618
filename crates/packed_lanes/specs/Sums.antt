-- Bytes side by side in one number, compared and added.
-- Assumes nothing.
use Rattle.std.specs.Prelude.{ℕ, zero, suc, ◌+◌, ◌-◌, ◌/◌, ◌%◌, Bool, List, ltb, get_or}
use Rattle.std.specs.Int.Bits.{bit_and}
use Rattle.packed.specs.Packed.{packed}
use Rattle.packed.specs.Lanes.{lanes}

-- 1 in each byte where a's is above b's, if none is above 127: that byte of the sum is then at least 128
unfoldable pub above : (k a b : ℕ) → ℕ
above k a b = bit_and ((a + (lanes k (λ i. 127) - b)) / 128) (lanes k (λ i. 1))

-- the sum of the k lowest bytes
unfoldable pub sum : (k x : ℕ) → ℕ
sum zero x = 0
sum (suc k) x = x % 256 + sum k (x / 256)

-- number i is above figure i
unfoldable pub over_at : (order : ℕ) → (l figures : List ℕ) → ℕ → Bool
over_at order l figures i = ltb (get_or figures i 0) (packed order l i)
