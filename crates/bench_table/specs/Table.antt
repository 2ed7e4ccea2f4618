-- The starred lines of paper 01, "The bench image", its lines on the header, paper 02's T-03 on that image, and runs of its bytes, as one
-- table. It is proved in crate bench_starred.
-- Assumes nothing.
use Rattle.std.specs.Prelude.{ℕ, ◌≡◌, List, [], ◌∷◌, ◌++◌, length, get_or, take, replicate, Err, Ok}
use Rattle.std.proofs.lemmas.List.Edits.{sets}
use Rattle.std.proofs.Math.IntN.{sub_ℕ}
use Rattle.endian.specs.Big.{be64, bytes32, bytes64, part}
use Rattle.units.specs.Plan.{Plan, plan_units, plan_number}
use Rattle.tally.specs.Tally.{difference}
use Rattle.qcow2_spec.specs.Header.{judge}
use Rattle.qcow2_spec.specs.Counts.{free}
use Rattle.qcow2_spec.specs.Guest.{guest_bytes, read_number}
use Rattle.qcow2_spec.specs.Runs.{run_rows, list_runs}
use Rattle.qcow2_spec.specs.Store.{write_plan, discard_plan}
use Rattle.qcow2_spec.specs.Check.{verdict, repair_plan}
use Rattle.qcow2_spec.specs.declared.Verdict.TheVariants.{Sound, Leaks}
use Rattle.bench_table.specs.Bench.{bench, bench_with, marked, widthed, one_bit, two_bits, four_bits, eight_bits, wide_bits, widest_bits}

-- the units of a plan's whole list
unfoldable pub cost : Plan → ℕ
cost p = length (plan_units p)

-- the image with the counts of clusters 6 to 14 set to 1
unfoldable pub filled : List ℕ → List ℕ
filled s = sets s 1036 (0 ∷ 1 ∷ 0 ∷ 1 ∷ 0 ∷ 1 ∷ 0 ∷ 1 ∷ 0 ∷ 1 ∷ 0 ∷ 1 ∷ 0 ∷ 1 ∷ 0 ∷ 1 ∷ 0 ∷ 1 ∷ [])

-- the write of five bytes d at 33,285, and the bench image after k units of it, where `store` stores a plan's units
unfoldable pub write : List ℕ → Plan
write d = write_plan [] bench 33285 d

unfoldable pub written : (Plan → ℕ → List ℕ → List ℕ) → List ℕ → ℕ → List ℕ
written store d k = store (write d) k bench

-- what the whole write leaves
pub record Stored (store : Plan → ℕ → List ℕ → List ℕ) (five : List ℕ) (x y z : ℕ) : Type 0 where
  pub units : cost (write five) ≡ 1028
  pub l1_entry : be64 (written store five 1028) 1544 ≡ 0x8000000000000800
  pub l2_entry : be64 (written store five 1028) 2056 ≡ 0x8000000000000A00
  pub bytes : part (written store five 1028) 2565 5 ≡ five
  pub left : free (written store five 1028) ≡ 10
  pub whole : verdict (written store five 1028) ≡ Sound
  pub reads : guest_bytes [] (written store five 1028) 0 33285 5 ≡ five

-- what a power cut before the data count leaves
pub record CutEarly (store : Plan → ℕ → List ℕ → List ℕ) (five : List ℕ) (x y z : ℕ) : Type 0 where
  pub cut_0 : verdict (written store five 0) ≡ Sound
  pub cut_1 : verdict (written store five 1) ≡ Leaks 1
  pub cut_513 : verdict (written store five 513) ≡ Leaks 1

-- what a later power cut leaves
pub record CutLate (store : Plan → ℕ → List ℕ → List ℕ) (five : List ℕ) (x y z : ℕ) : Type 0 where
  pub cut_514 : verdict (written store five 514) ≡ Leaks 2
  pub cut_1026 : verdict (written store five 1026) ≡ Leaks 2
  pub cut_1027 : verdict (written store five 1027) ≡ Leaks 2

-- the repair after 1,027 units
pub record Repaired (store : Plan → ℕ → List ℕ → List ℕ) (five : List ℕ) (x y z : ℕ) : Type 0 where
  pub repair-cost : cost (repair_plan [] (written store five 1027) 32) ≡ 2
  pub repair-left : free (store (repair_plan [] (written store five 1027) 32) 2 (written store five 1027)) ≡ 12

-- calls after the whole write
pub record Next (store : Plan → ℕ → List ℕ → List ℕ) (five : List ℕ) (x y z : ℕ) : Type 0 where
  pub again : cost (write_plan [] (written store five 1028) 33280 (x ∷ y ∷ z ∷ [])) ≡ 3
  pub beside : cost (write_plan [] (written store five 1028) 32768 (x ∷ [])) ≡ 514
  pub beside-place : be64 (store (write_plan [] (written store five 1028) 32768 (x ∷ [])) 514 (written store five 1028)) 2048 ≡ 0x8000000000000C00

-- the discard of cluster 65 after the whole write
pub record Discarded (store : Plan → ℕ → List ℕ → List ℕ) (five : List ℕ) (x y z : ℕ) : Type 0 where
  pub discard : cost (discard_plan [] (written store five 1028) 65) ≡ 2
  pub discard_cut : verdict (store (discard_plan [] (written store five 1028) 65) 1 (written store five 1028)) ≡ Leaks 1

-- writes where one cluster is free
pub record Full (store : Plan → ℕ → List ℕ → List ℕ) (five : List ℕ) (x y z : ℕ) : Type 0 where
  pub needs_two : plan_number (write_plan [] (filled (written store five 1028)) 0 (x ∷ [])) ≡ 14
  pub needs_one : plan_number (write_plan [] (filled (written store five 1028)) 32768 (x ∷ [])) ≡ 0

-- ranges at their ends
pub record Edges (store : Plan → ℕ → List ℕ → List ℕ) (five : List ℕ) (x y z : ℕ) : Type 0 where
  pub read_none : read_number [] bench 0 65536 0 ≡ 0
  pub read_one : read_number [] bench 0 65536 1 ≡ 11
  pub read_past : read_number [] bench 0 65537 0 ≡ 11
  pub write_two : plan_number (write_plan [] bench 510 (x ∷ y ∷ [])) ≡ 0
  pub write-three : plan_number (write_plan [] bench 510 (x ∷ y ∷ z ∷ [])) ≡ 11

-- the write where the autoclear field is set: one unit more, which comes first; and calls that store nothing leave it
pub record Cleared (store : Plan → ℕ → List ℕ → List ℕ) (five : List ℕ) (x y z : ℕ) : Type 0 where
  pub clear-units : cost (write_plan [] (marked 3) 33285 five) ≡ 1029
  pub clear-0 : store (write_plan [] (marked 3) 33285 five) 0 (marked 3) ≡ marked 3
  pub clear-1 : store (write_plan [] (marked 3) 33285 five) 1 (marked 3) ≡ bench
  pub clear-sound : verdict (store (write_plan [] (marked 3) 33285 five) 1 (marked 3)) ≡ Sound
  pub clear-all : store (write_plan [] (marked 3) 33285 five) 1029 (marked 3) ≡ written store five 1028
  pub no_bytes : plan_units (write_plan [] (marked 3) 33285 []) ≡ []
  pub no_cluster : plan_units (discard_plan [] (marked 3) 65) ≡ []
  pub no_leak : plan_units (repair_plan [] (marked 3) 32) ≡ []
  pub version-2 : cost (write_plan [] (marked 2) 33285 five) ≡ 1028

-- the image with guest clusters 64 and 65 in host clusters 6 and 5, and with bit 0 set in the entry of cluster 65
unfoldable pub turned : (Plan → ℕ → List ℕ → List ℕ) → List ℕ → ℕ → List ℕ
turned store five x = store (write_plan [] (written store five 1028) 32768 (x ∷ [])) 514 (written store five 1028)

unfoldable pub stale : (Plan → ℕ → List ℕ → List ℕ) → List ℕ → List ℕ
stale store five = sets (written store five 1028) 2063 (1 ∷ [])

-- runs of guest bytes: their kind, host offset and length
pub record Runs (store : Plan → ℕ → List ℕ → List ℕ) (five : List ℕ) (x y z : ℕ) : Type 0 where
  pub none : list_runs [] bench 0 65536 0 2 ≡ Ok 0
  pub past : list_runs [] bench 0 65536 1 2 ≡ Err 11
  pub last : list_runs [] bench 0 65533 3 2 ≡ Ok 1
  pub absent : run_rows bench 0 65533 3 2 ≡ 1003 ∷ 0 ∷ 3 ∷ []
  pub begins : run_rows (written store five 1028) 0 33278 4 2 ≡ 1003 ∷ 0 ∷ 2 ∷ 0 ∷ 2560 ∷ 2 ∷ []
  pub apart : run_rows (turned store five x) 0 33278 4 2 ≡ 0 ∷ 3582 ∷ 2 ∷ 0 ∷ 2560 ∷ 2 ∷ []
  pub no_room : run_rows (turned store five x) 0 33278 4 1 ≡ 0 ∷ 3582 ∷ 2 ∷ []
  pub marks : run_rows (stale store five) 0 33790 4 2 ≡ 1002 ∷ 0 ∷ 2 ∷ 1003 ∷ 0 ∷ 2 ∷ []

-- an image with counts of some width after the write of five bytes, cut after a units
unfoldable pub written_to : (Plan → ℕ → List ℕ → List ℕ) → List ℕ → (s : List ℕ) → ℕ → List ℕ
written_to store five s a = store (write_plan [] s 33285 five) a s

-- counts of other widths: the write's two new counts may share a byte, and each unit keeps what stands in it then
pub record Widths (store : Plan → ℕ → List ℕ → List ℕ) (five : List ℕ) : Type 0 where
  pub one-sound : verdict one_bit ≡ Sound
  pub one-units : cost (write_plan [] one_bit 33285 five) ≡ 1028
  pub one-first : get_or (written_to store five one_bit 513) 1024 0 ≡ 31
  pub one-both : get_or (written_to store five one_bit 1028) 1024 0 ≡ 63
  pub one_cut : verdict (written_to store five one_bit 514) ≡ Leaks 2
  pub one-mended : get_or (store (repair_plan [] (written_to store five one_bit 514) 32) 2 (written_to store five one_bit 514)) 1024 0 ≡ 15
  pub one-whole : verdict (written_to store five one_bit 1028) ≡ Sound
  pub one-freed : get_or (store (discard_plan [] (written_to store five one_bit 1028) 65) 2 (written_to store five one_bit 1028)) 1024 0 ≡ 31
  pub two-sound : verdict two_bits ≡ Sound
  pub two-both : part (written_to store five two_bits 1028) 1024 2 ≡ 85 ∷ 5 ∷ []
  pub four-sound : verdict four_bits ≡ Sound
  pub four-both : part (written_to store five four_bits 1028) 1024 3 ≡ 17 ∷ 17 ∷ 17 ∷ []
  pub eight-sound : verdict eight_bits ≡ Sound
  pub eight-both : part (written_to store five eight_bits 1028) 1028 2 ≡ 1 ∷ 1 ∷ []
  pub wide-sound : verdict wide_bits ≡ Sound
  pub wide_both : part (written_to store five wide_bits 1028) 1040 8 ≡ bytes32 1 ++ bytes32 1
  pub wide-leak : verdict (sets wide_bits 1040 (bytes32 70000)) ≡ Leaks 1
  pub widest_sound : verdict widest_bits ≡ Sound
  pub widest_both : part (written_to store five widest_bits 1028) 1056 16 ≡ bytes64 1 ++ bytes64 1
  pub cut_off : difference 70000 1 ≡ sub_ℕ 65535 0
  pub just_below : difference 65535 1 ≡ sub_ℕ 65534 0
  pub order-7 : judge [] (widthed 7 []) ≡ 6
  pub version-2 : free (sets (widthed 7 []) 4 (bytes32 2)) ≡ 12
  pub one_block : judge [] (bench ++ replicate 25088 0) ≡ 0
  pub two_blocks : judge [] (widest_bits ++ replicate 25088 0) ≡ 10

-- the starred lines
pub record Starred (store : Plan → ℕ → List ℕ → List ℕ) (five : List ℕ) (x y z : ℕ) : Type 0 where
  pub stored : Stored store five x y z
  pub cut_early : CutEarly store five x y z
  pub cut_late : CutLate store five x y z
  pub repaired : Repaired store five x y z
  pub next : Next store five x y z
  pub discarded : Discarded store five x y z
  pub full : Full store five x y z
  pub edges : Edges store five x y z
  pub cleared : Cleared store five x y z
  pub runs : Runs store five x y z
  pub widths : Widths store five

-- the lines on the header
pub record Headers : Type 0 where
  pub accepted : judge [] bench ≡ 0
  pub shortest : judge [] (take 512 bench) ≡ 9
  pub size : judge [] (bench_with 9 65537 2) ≡ 8
  pub sectors : judge [] (bench_with 9 65537 3) ≡ 18
  pub whole-sectors : judge [] (bench_with 9 66048 3) ≡ 0
  pub rows : judge [] (bench_with 9 65536 65537) ≡ 8
  pub rows-past : judge [] (bench_with 9 65536 4097) ≡ 9
  pub bits_8 : judge [] (bench_with 8 65536 2) ≡ 4
  pub bits_22 : judge [] (bench_with 22 65536 2) ≡ 4
  pub bits_16 : judge [] (bench_with 16 65536 2) ≡ 5
  pub bits_17 : judge [] (bench_with 17 65536 2) ≡ 5
  pub bits_21 : judge [] (bench_with 21 65536 2) ≡ 5
  pub short : judge [] (take 511 bench) ≡ 1
  pub odd : judge [] (bench ++ 0 ∷ []) ≡ 5
