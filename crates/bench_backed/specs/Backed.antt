-- An image over a backing file, and what the calls answer on it and on images with one thing changed. Paper 02, T-05. It is proved in
-- proofs/Backed.antt.
-- Assumes nothing.
use Rattle.std.specs.Prelude.{ℕ, ◌+◌, ◌-◌, ◌*◌, ◌^◌, ◌%◌, ◌≡◌, List, [], ◌∷◌, ◌++◌, take, drop}
use Rattle.std.proofs.lemmas.List.Edits.{sets}
use Rattle.choice.specs.Pick.{each}
use Rattle.endian.specs.Big.{be64, bytes32, bytes64}
use Rattle.units.specs.Units.{UnitStore, byte}
use Rattle.units.specs.Plan.{Plan, plan_units, plan_number, after}
use Rattle.qcow2_spec.specs.Header.{judge}
use Rattle.qcow2_spec.specs.Guest.{guest_bytes, read_number}
use Rattle.qcow2_spec.specs.Store.{write_plan, discard_plan}
use Rattle.qcow2_spec.specs.Check.{check}
use Rattle.qcow2_spec.specs.declared.Verdict.TheVariants.{Sound, Refused}
use Rattle.bench_table.specs.Bench.{zeros}
use Rattle.bench_table.specs.Shots.{shots}
use Rattle.bench_table.specs.Table.{cost}

-- the backing file's bytes, more than the disk's
unfoldable pub lower : List ℕ
lower = each (λ y. y % 250 + 1) 0 4800

abbrev pub own : ℕ → List ℕ
own c = bytes64 (c * 1024 + 2 ^ 63)

-- 9 clusters of 1,024 bytes; the name's 4 bytes stand at 104, and the disk has 4,608 bytes: 5 guest clusters, the last one half.
-- Cluster 4: the L2 table, with nothing, data cluster 5, the plain zero mark, cluster 6 under a zero mark, and nothing. 7 and 8 are free
unfoldable pub upper : List ℕ
upper =
    bytes32 0x514649FB ++ (bytes32 3 ++ (bytes64 104 ++ (bytes32 4 ++ (bytes32 10 ++ (bytes64 4608
    ++ (bytes32 0 ++ (bytes32 2 ++ (bytes64 3072 ++ (bytes64 1024 ++ (bytes32 1 ++ (bytes32 0 ++ (bytes64 0
    ++ (bytes64 0 ++ (bytes64 0 ++ (bytes64 0 ++ (bytes32 4 ++ (bytes32 104 ++ (zeros 920
    ++ (bytes64 2048 ++ (zeros 1016
    ++ ((0 ∷ 1 ∷ 0 ∷ 1 ∷ 0 ∷ 1 ∷ 0 ∷ 1 ∷ 0 ∷ 1 ∷ 0 ∷ 1 ∷ 0 ∷ 1 ∷ []) ++ (zeros 1010
    ++ (own 4 ++ (zeros 1016
    ++ (zeros 8 ++ (own 5 ++ (bytes64 1 ++ (bytes64 (6 * 1024 + 2 ^ 63 + 1) ++ (zeros 992
    ++ ((70 ∷ 71 ∷ []) ++ (zeros 1022
    ++ ((90 ∷ 91 ∷ []) ++ zeros 3070))))))))))))))))))))))))))))))))

-- the image with the bytes bs from at on
abbrev pub with_upper : ℕ → List ℕ → List ℕ
with_upper at bs = sets upper at bs

-- with another offset and length of the name
abbrev pub named : (at len : ℕ) → List ℕ
named at len = sets upper 8 (bytes64 at ++ bytes32 len)

-- 4 clusters of 2,048 bytes, with a name of that length at 104
unfoldable pub wide : (len : ℕ) → List ℕ
wide len =
    bytes32 0x514649FB ++ (bytes32 3 ++ (bytes64 104 ++ (bytes32 len ++ (bytes32 11 ++ (bytes64 2048
    ++ (bytes32 0 ++ (bytes32 1 ++ (bytes64 6144 ++ (bytes64 2048 ++ (bytes32 1 ++ (bytes32 0 ++ (bytes64 0
    ++ (bytes64 0 ++ (bytes64 0 ++ (bytes64 0 ++ (bytes32 4 ++ (bytes32 104 ++ (zeros 1944 ++ (bytes64 4096 ++ zeros 6136)))))))))))))))))))

-- k units of a list, from number i on
abbrev pub some : (i k : ℕ) → Plan → List UnitStore
some i k p = take k (drop i (plan_units p))

-- the number of an image
pub record Names : Type 0 where
  pub accepted : judge lower upper ≡ 0
  pub no_bytes : judge [] upper ≡ 19
  pub one_byte : judge (1 ∷ []) upper ≡ 0
  pub empty : judge lower (named 104 0) ≡ 19
  pub to_end : judge lower (named 104 920) ≡ 0
  pub past_end : judge lower (named 104 921) ≡ 19
  pub longest : judge lower (named 1 1023) ≡ 0
  pub wide-longest : judge lower (wide 1023) ≡ 0
  pub too_long : judge lower (wide 1024) ≡ 19
  pub at-end : judge lower (named 1024 1) ≡ 19
  pub no_sum : judge lower (named (2 ^ 64 - 1) 2) ≡ 19
  pub ten_first : judge [] (with_upper 1024 (bytes64 2049)) ≡ 10
  pub no_disk : judge [] (named 0 0) ≡ 0
  pub unseen : judge lower (named 0 4096) ≡ 0

pub record Over : Type 0 where
  pub sound : check lower upper 18 ≡ Sound
  pub unlent : check [] upper 18 ≡ Refused 19
  -- nothing shows the backing file, a zero mark hides it
  pub absent : guest_bytes lower upper 0 0 4 ≡ 1 ∷ 2 ∷ 3 ∷ 4 ∷ []
  pub placed : guest_bytes lower upper 0 1023 4 ≡ 24 ∷ 70 ∷ 71 ∷ 0 ∷ []
  pub hidden : guest_bytes lower upper 0 2047 3 ≡ 0 ∷ 0 ∷ 0 ∷ []
  pub stale : guest_bytes lower upper 0 3072 2 ≡ 0 ∷ 0 ∷ []
  pub last : guest_bytes lower upper 0 4606 2 ≡ 107 ∷ 108 ∷ []
  pub past : read_number lower upper 0 4607 2 ≡ 11
  pub run_ends : guest_bytes (take 600 lower) upper 0 598 4 ≡ 99 ∷ 100 ∷ 0 ∷ 0 ∷ []
  pub ignored : guest_bytes lower (named 0 0) 0 0 4 ≡ 0 ∷ 0 ∷ 0 ∷ 0 ∷ []
  -- what a new cluster holds: the backing file, and zeros past the disk's size or where there was a zero mark
  pub filled : some 1 4 (write_plan lower upper 1 (200 ∷ [])) ≡ byte 7168 1 ∷ byte 7169 200 ∷ byte 7170 3 ∷ byte 7171 4 ∷ []
  pub half : some 511 4 (write_plan lower upper 4097 (200 ∷ [])) ≡ byte 7678 107 ∷ byte 7679 108 ∷ byte 7680 0 ∷ byte 7681 0 ∷ []
  pub over_mark : some 1 3 (write_plan lower upper 2049 (200 ∷ [])) ≡ byte 7168 0 ∷ byte 7169 200 ∷ byte 7170 0 ∷ []
  pub over-stale : some 0 3 (write_plan lower upper 3073 (200 ∷ [])) ≡ byte 6144 0 ∷ byte 6145 200 ∷ byte 6146 0 ∷ []
  pub new_cost : cost (write_plan lower upper 1 (200 ∷ [])) ≡ 1026
  pub table-cost : cost (write_plan lower (with_upper 3072 (bytes64 0)) 1 (200 ∷ [])) ≡ 2052

pub record Under : Type 0 where
  pub drop-0 : cost (discard_plan lower upper 0) ≡ 1
  pub drop-1 : cost (discard_plan lower upper 1) ≡ 2
  pub drop-2 : cost (discard_plan lower upper 2) ≡ 0
  pub drop-3 : cost (discard_plan lower upper 3) ≡ 2
  pub marked-0 : be64 (after (discard_plan lower upper 0) 1 upper) 4096 ≡ 1
  pub marked-1 : be64 (after (discard_plan lower upper 1) 1 upper) 4104 ≡ 1
  pub no_table : plan_number (discard_plan lower (with_upper 3072 (bytes64 0)) 0) ≡ 20
  pub version-2 : plan_number (discard_plan lower (with_upper 4 (bytes32 2)) 0) ≡ 20
  pub bad-first : plan_number (discard_plan lower (with_upper 4 (bytes32 2)) 2) ≡ 12
  pub shared-first : plan_number (discard_plan lower (sets (with_upper 4 (bytes32 2)) 4104 (0 ∷ [])) 1) ≡ 22
  pub no_count : plan_number (discard_plan lower (sets (with_upper 4 (bytes32 2)) 2058 (0 ∷ 0 ∷ [])) 1) ≡ 20
  pub then_count : plan_number (discard_plan lower (with_upper 2058 (0 ∷ 0 ∷ [])) 1) ≡ 16
  -- with no backing file 01 stands
  pub old_0 : cost (discard_plan lower (named 0 0) 0) ≡ 0
  pub old_1 : be64 (after (discard_plan lower (named 0 0) 1) 2 (named 0 0)) 4104 ≡ 0
  pub old_2 : cost (discard_plan lower (named 0 0) 2) ≡ 1
  pub old_table : cost (discard_plan lower (sets (named 0 0) 3072 (bytes64 0)) 0) ≡ 0
  pub old_new : some 1 3 (write_plan lower (named 0 0) 1 (200 ∷ [])) ≡ byte 7168 0 ∷ byte 7169 200 ∷ byte 7170 0 ∷ []

-- the image with two snapshots, over the backing file
unfoldable pub upper-shots : List ℕ
upper-shots = sets shots 8 (bytes64 104 ++ bytes32 4)

pub record Below : Type 0 where
  pub accepted : judge lower upper-shots ≡ 0
  pub name_first : judge [] (sets upper-shots 64 (bytes64 2056)) ≡ 19
  pub then_table : judge lower (sets upper-shots 64 (bytes64 2056)) ≡ 21
  -- a snapshot's bytes, past the disk's size too
  pub absent : guest_bytes lower upper-shots 1 511 3 ≡ 0 ∷ 13 ∷ 14 ∷ []
  pub hidden : guest_bytes lower upper-shots 1 2559 3 ≡ 60 ∷ 0 ∷ 0 ∷ []
  pub past-size : guest_bytes lower (sets upper-shots 24 (bytes64 1024)) 1 2048 2 ≡ 49 ∷ 50 ∷ []
