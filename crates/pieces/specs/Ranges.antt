-- Ranges of a disk's bytes and the guest clusters that they touch. No image format is known here.
-- Assumes nothing.
use Rattle.std.specs.Prelude.{ℕ, zero, suc, ◌+◌, ◌-◌, ◌*◌, ◌/◌, ◌%◌, Bool, ◌||◌, ltb}
use Rattle.choice.specs.Pick.{unless}

-- the range of len bytes from x on runs past a disk of that size; offset and length are not added
abbrev pub beyond : (size x len : ℕ) → Bool
beyond size x len = ltb size x || ltb (size - x) len

-- the guest clusters of C bytes that a range of len bytes from x on touches, from cluster x / C on
unfoldable pub touched : (C x len : ℕ) → ℕ
touched C x zero = 0
touched C x (suc l) = (x + l) / C + 1 - x / C

-- the first number other than 0 among those of the k things from i on, rising; 0 where there is none
abbrev pub first_number : (ℕ → ℕ) → (i k : ℕ) → ℕ
first_number f i zero = 0
first_number f i (suc k) = unless (f i) (λ n. n) (first_number f (suc i) k)

-- the bytes from x on that have its L1 entry, where clusters have C bytes and tables E entries
unfoldable pub row_left : (C E x : ℕ) → ℕ
row_left C E x = (E - x / C % E) * C - x % C
