-- An image with two snapshots, and what the calls answer on it and on images with one thing changed. Paper 02, T-11 and T-06. It is proved in
-- crates bench_snapshots and bench_damaged.
-- Assumes nothing.
use Rattle.std.specs.Prelude.{ℕ, ◌+◌, ◌*◌, ◌^◌, ◌≡◌, List, [], ◌∷◌, ◌++◌, pos}
use Rattle.std.proofs.lemmas.List.Edits.{sets}
use Rattle.endian.specs.Big.{be64, bytes16, bytes32, bytes64, part}
use Rattle.units.specs.Plan.{plan_number, after}
use Rattle.qcow2_spec.specs.Header.{judge}
use Rattle.qcow2_spec.specs.References.{figures_of}
use Rattle.qcow2_spec.specs.Guest.{guest_bytes, read_number}
use Rattle.qcow2_spec.specs.Store.{write_plan, discard_plan}
use Rattle.qcow2_spec.specs.Check.{difference, verdict, repair_plan}
use Rattle.qcow2_spec.specs.declared.Verdict.TheVariants.{Sound, Leaks, BadL1, BadL2, Shared, Short, MarkL1, MarkL2}
use Rattle.bench_table.specs.Bench.{zeros}
use Rattle.bench_table.specs.Table.{cost}

-- an entry with bit 63 clear, which others may share, and one with it set
abbrev pub common : ℕ → List ℕ
common c = bytes64 (c * 512)

abbrev pub own : ℕ → List ℕ
own c = bytes64 (c * 512 + 2 ^ 63)

-- the fixed 40 bytes of a snapshot table's entry: the L1 table's place and entries, the lengths of the id, the name and the extra data
abbrev pub listed : (at rows id name extra : ℕ) → List ℕ
listed at rows id name extra = bytes64 at ++ (bytes32 rows ++ (bytes16 id ++ (bytes16 name ++ (zeros 20 ++ bytes32 extra))))

-- 14 clusters of 512 bytes. Cluster 3: the active L1 table, with L2 tables 6 and 8. 4: the snapshot table. 5: snapshot 0's L1 table, with L2
-- table 6 too. 6: an L2 table with data cluster 7 and a zero mark. 8: one with data cluster 9. 10: snapshot 1's L1 table, with L2 table 11. 11: one
-- with data cluster 7 as its entry 3. 12 and 13 are free
unfoldable pub shots : List ℕ
shots =
    bytes32 0x514649FB ++ (bytes32 3 ++ (bytes64 0 ++ (bytes32 0 ++ (bytes32 9 ++ (bytes64 65536
    ++ (bytes32 0 ++ (bytes32 2 ++ (bytes64 1536 ++ (bytes64 512 ++ (bytes32 1 ++ (bytes32 2 ++ (bytes64 2048
    ++ (bytes64 0 ++ (bytes64 0 ++ (bytes64 0 ++ (bytes32 4 ++ (bytes32 104 ++ (zeros 408
    ++ (bytes64 1024 ++ (zeros 504
    ++ ((0 ∷ 1 ∷ 0 ∷ 1 ∷ 0 ∷ 1 ∷ 0 ∷ 1 ∷ 0 ∷ 1 ∷ 0 ∷ 1 ∷ 0 ∷ 2 ∷ 0 ∷ 3 ∷ 0 ∷ 1 ∷ 0 ∷ 1 ∷ 0 ∷ 1 ∷ 0 ∷ 1 ∷ []) ++ (zeros 488
    ++ (common 6 ++ (own 8 ++ (zeros 496
    ++ (listed 2560 2 1 2 16 ++ (zeros 24 ++ (listed 5120 1 0 3 0 ++ (zeros 408
    ++ (own 6 ++ (zeros 504
    ++ (common 7 ++ (zeros 32 ++ (bytes64 1 ++ (zeros 464
    ++ ((70 ∷ 71 ∷ 72 ∷ 73 ∷ []) ++ (zeros 508
    ++ (zeros 8 ++ (own 9 ++ (zeros 496
    ++ ((90 ∷ 91 ∷ []) ++ (zeros 510
    ++ (own 11 ++ (zeros 504
    ++ (zeros 24 ++ (own 7 ++ zeros 1504))))))))))))))))))))))))))))))))))))))))))))))

-- the image with the bytes bs from at on
abbrev pub with_bytes : ℕ → List ℕ → List ℕ
with_bytes at bs = sets shots at bs

pub record Shots : Type 0 where
  pub accepted : judge [] shots ≡ 0
  pub sound : verdict shots ≡ Sound
  pub counted : figures_of shots ≡ 1 ∷ 1 ∷ 1 ∷ 1 ∷ 1 ∷ 1 ∷ 2 ∷ 3 ∷ 1 ∷ 1 ∷ 1 ∷ 1 ∷ 0 ∷ 0 ∷ []
  -- what is shared is not stored through, be it a zero mark below a shared table
  pub table_kept : plan_number (write_plan [] shots 0 (1 ∷ [])) ≡ 22
  pub mark_kept : plan_number (discard_plan [] shots 5) ≡ 22
  pub own-written : cost (write_plan [] shots 33280 (1 ∷ [])) ≡ 1
  pub own-freed : cost (discard_plan [] shots 65) ≡ 2
  pub own_new : cost (write_plan [] shots 33792 (1 ∷ [])) ≡ 514
  -- snapshots are read
  pub reads-0 : guest_bytes [] shots 1 0 4 ≡ 70 ∷ 71 ∷ 72 ∷ 73 ∷ []
  pub reads-1 : guest_bytes [] shots 2 1536 3 ≡ 70 ∷ 71 ∷ 72 ∷ []
  pub reach-1 : read_number [] shots 2 32766 2 ≡ 0
  pub past-1 : read_number [] shots 2 32767 2 ≡ 11
  pub past-0 : read_number [] shots 1 65536 1 ≡ 11
  pub none_2 : read_number [] shots 3 0 0 ≡ 11

pub record Wrong : Type 0 where
  pub many : judge [] (with_bytes 60 (bytes32 65)) ≡ 6
  pub askew : judge [] (with_bytes 60 (bytes32 1 ++ bytes64 2112)) ≡ 21
  pub past : judge [] (with_bytes 2084 (bytes32 8000)) ≡ 21
  pub past-last : judge [] (with_bytes 2148 (bytes32 8000)) ≡ 21
  pub l1_past : judge [] (with_bytes 2056 (bytes32 577)) ≡ 21
  pub l1_to_end : judge [] (with_bytes 2056 (bytes32 576)) ≡ 0
  pub rows : judge [] (with_bytes 2056 (bytes32 65537)) ≡ 21
  pub place : judge [] (with_bytes 2048 (bytes64 2568)) ≡ 21
  pub bad_snapshot_lem : verdict (with_bytes 5656 (bytes64 2)) ≡ BadL2 2 0 3
  pub bad_l1 : verdict (with_bytes 2568 (bytes64 520)) ≡ BadL1 1 1
  pub shared_roles : verdict (with_bytes 5632 (own 8)) ≡ Shared 8
  pub shared-once : verdict (with_bytes 2568 (common 6)) ≡ Shared 6
  pub shared-table : verdict (with_bytes 4112 (own 4)) ≡ Shared 4
  pub short : verdict (with_bytes 1038 (bytes16 2)) ≡ Short 7
  pub leak : verdict (with_bytes 1038 (bytes16 4)) ≡ Leaks 1
  pub mark_1 : verdict (with_bytes 1536 (own 6)) ≡ MarkL1 0
  pub mark_2 : verdict (with_bytes 4104 (common 9)) ≡ MarkL2 1 1
  pub mark_unseen : verdict (with_bytes 2560 (common 6)) ≡ Sound

-- the image with counts of another width, whose block is these bytes and zeros
unfoldable pub counts : (order : ℕ) → List ℕ → List ℕ
counts order block = sets (sets (sets shots 96 (bytes32 order)) 1024 (zeros 24)) 1024 block

-- two bits, four counts in a byte; clusters 4 to 7 have the counts 1, 1, c and 3
unfoldable pub two_bits : (c : ℕ) → List ℕ
two_bits c = counts 1 (85 ∷ (197 + 16 * c) ∷ 85 ∷ [])

-- 64 bits; cluster 6 has the count c
unfoldable pub sixty_four_bits : (c : ℕ) → List ℕ
sixty_four_bits c =
    counts 6 (bytes64 1 ++ (bytes64 1 ++ (bytes64 1 ++ (bytes64 1 ++ (bytes64 1 ++ (bytes64 1 ++ (bytes64 c ++ (bytes64 3
    ++ (bytes64 1 ++ (bytes64 1 ++ (bytes64 1 ++ bytes64 1)))))))))))

-- figures above 1 in counts of other widths: a repair stores them and keeps what stands beside them
pub record Widths : Type 0 where
  pub two : verdict (two_bits 2) ≡ Sound
  pub two-leak : verdict (two_bits 3) ≡ Leaks 1
  pub two-cost : cost (repair_plan [] (two_bits 3) 28) ≡ 1
  pub two-mended : part (after (repair_plan [] (two_bits 3) 28) 1 (two_bits 3)) 1024 4 ≡ 85 ∷ 229 ∷ 85 ∷ 0 ∷ []
  pub two-sound : verdict (after (repair_plan [] (two_bits 3) 28) 1 (two_bits 3)) ≡ Sound
  -- one bit has no room for two references
  pub one-short : verdict (counts 0 (255 ∷ 15 ∷ [])) ≡ Short 6
  pub wide : verdict (sixty_four_bits 2) ≡ Sound
  pub wide-leak : verdict (sixty_four_bits (2 ^ 40)) ≡ Leaks 1
  pub wide-difference : difference (sixty_four_bits (2 ^ 40)) 6 ≡ pos 65535
  pub wide-mended : be64 (after (repair_plan [] (sixty_four_bits (2 ^ 40)) 28) 1 (sixty_four_bits (2 ^ 40))) 1072 ≡ 2
