-- The bench image with counts of 64 bits, 64 to a block, made longer: the number that extending is answered with there, and on images with one thing
-- changed. Paper 02, T-13. It is proved in proofs/Numbers.antt.
-- Assumes nothing.
use Rattle.std.specs.Prelude.{ℕ, ◌*◌, ◌≡◌, List, [], ◌++◌, replicate}
use Rattle.std.proofs.lemmas.List.Edits.{sets}
use Rattle.endian.specs.Big.{bytes32, bytes64}
use Rattle.qcow2_spec.specs.Header.{judge}
use Rattle.bench_table.specs.Bench.{widest_bits}
use Rattle.qcow2_longer.specs.Extend.{old_blocks, extend_number}

-- the bytes of the bench image: 16 clusters of 512
abbrev pub early : ℕ
early = 8192

-- with counts of 64 bits and k clusters more, each byte of them b
unfoldable pub padded : (k b : ℕ) → List ℕ
padded k b = widest_bits ++ replicate (k * 512) b

-- 65 clusters, which need two blocks; and 129, which need three
unfoldable pub two : List ℕ
two = padded 49 0

unfoldable pub three : List ℕ
three = padded 113 0

-- the image of two blocks with the bytes bs from at on
abbrev pub with_two : ℕ → List ℕ → List ℕ
with_two at bs = sets two at bs

-- the number that extending is refused with
pub record Numbers : Type 0 where
  pub accepted : extend_number two early ≡ 0
  pub one-cluster : extend_number two 512 ≡ 0
  pub nothing_old : extend_number two 0 ≡ 10
  pub nothing_named : extend_number (with_two 512 (bytes64 0)) 0 ≡ 10
  pub too_short : extend_number two 511 ≡ 10
  pub no_multiple : extend_number two 8193 ≡ 10
  pub above : extend_number (with_two 520 (bytes64 32768)) 33792 ≡ 10
  -- the old length is the new one: entry 1 has to name a block already
  pub all_old : extend_number two 33280 ≡ 10
  pub all_named : extend_number (with_two 520 (bytes64 32768)) 33280 ≡ 0
  -- entries of the table: below the old B, up to B, and later
  pub no_first : extend_number (with_two 512 (bytes64 0)) early ≡ 10
  pub askew : extend_number (with_two 512 (bytes64 1025)) early ≡ 10
  pub past_old : extend_number (with_two 512 (bytes64 32768)) early ≡ 0
  pub past_new : extend_number (with_two 512 (bytes64 33280)) early ≡ 10
  pub made : extend_number (with_two 520 (bytes64 32768)) early ≡ 0
  pub elsewhere : extend_number (with_two 520 (bytes64 32256)) early ≡ 10
  pub late : extend_number (with_two 528 (bytes64 1)) early ≡ 10
  -- the order of the numbers
  pub nine_first : extend_number (with_two 56 (bytes32 0)) 0 ≡ 9
  pub eighteen_first : extend_number (with_two 24 (bytes64 65535)) 0 ≡ 18
  pub bad_name : extend_number (with_two 8 (bytes64 104)) early ≡ 19
  pub ten_first : extend_number (with_two 8 (bytes64 104)) 0 ≡ 10
  pub name_alone : extend_number (with_two 8 (bytes64 104 ++ bytes32 4)) early ≡ 0
  pub shots : extend_number (with_two 60 (bytes32 1 ++ bytes64 8)) early ≡ 21
  pub name_first : extend_number (sets (with_two 60 (bytes32 1 ++ bytes64 8)) 8 (bytes64 104)) early ≡ 19
  -- the old B, and other calls meanwhile
  pub last_of_old : old_blocks two 32768 ≡ 1
  pub first_of_new : old_blocks two 33280 ≡ 2
  pub others : judge [] two ≡ 10
