-- The numbers in a byte, each spread to a byte of its own by shifts and masks: computed for each of the 256 bytes. Assumes nothing.
use Prim.Native.Nat.{ℕ, ◌*◌, ◌<◌}
use mathlib.Core.Path.{◌≡◌, refl}
use lib.Bits.{bit_and, bit_or}
use Rattle.widths.specs.Width.{field}
use Rattle.packed.specs.Lanes.{lanes, parts}
use Rattle.packed.proofs.Each.{each-byte}

-- the bits of x and of x moved up, those that a mask keeps
abbrev pub moved : (by mask x : ℕ) → ℕ
moved by mask x = bit_and (bit_or x (x * by)) mask

pub spread4 : (x : ℕ) → x < 256 → moved 64 50529027 (moved 4096 983055 x) ≡ lanes 4 (parts 1 x)
unfolding lanes parts field
spread4 = each-byte (λ x. moved 64 50529027 (moved 4096 983055 x)) (λ x. lanes 4 (parts 1 x)) refl

pub spread8 : (x : ℕ) → x < 256 → moved 128 72340172838076673 (moved 16384 844437815230467 (moved 268435456 64424509455 x)) ≡ lanes 8 (parts 0 x)
unfolding lanes parts field
spread8 = each-byte (λ x. moved 128 72340172838076673 (moved 16384 844437815230467 (moved 268435456 64424509455 x))) (λ x. lanes 8 (parts 0 x)) refl
