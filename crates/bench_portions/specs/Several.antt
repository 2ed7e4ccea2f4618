-- Portions of a check of the image with two snapshots, and of that image changed on the way. Paper 02, T-12. It is proved in proofs/Several.antt.
-- Assumes nothing.
use Rattle.std.specs.Prelude.{ℕ, ◌≡◌, List, [], ◌∷◌, replicate, Ok, None, Some}
use Rattle.std.proofs.lemmas.List.Edits.{sets}
use Rattle.endian.specs.Big.{bytes32, bytes64}
use Rattle.qcow2_spec.specs.References.{scratch_left}
use Rattle.qcow2_spec.specs.Check.{check}
use Rattle.qcow2_spec.specs.declared.Verdict.TheVariants.{Sound, Leaks, BadL1, BadL2, Short, MarkL1}
use Rattle.qcow2_portion.specs.declared.CheckState.TheVariants.{New, Going, Finished}
use Rattle.bench_table.specs.Bench.{zeros}
use Rattle.bench_table.specs.Shots.{shots, with_bytes}
use Rattle.bench_portions.specs.Portions.{left, gives, low}

-- a scratch for 14 clusters as it may be before the first portion
abbrev pub noisy : List ℕ
noisy = replicate 28 7

-- the figures of cluster 0, of the tables and of the block, with these for the L2 tables 6, 8 and 11 and the data 7 and 9
abbrev pub figures : (six seven eight nine eleven : ℕ) → List ℕ
figures six seven eight nine eleven =
    low (1 ∷ 1 ∷ 1 ∷ 1 ∷ 1 ∷ 1 ∷ six ∷ seven ∷ eight ∷ nine ∷ 1 ∷ eleven ∷ 0 ∷ 0 ∷ [])

-- one entry after another: the active table has two, snapshot 0's two and snapshot 1's one
pub record Ones : Type 0 where
  pub first : left shots New noisy 1 ≡ gives (Going 0 1 Sound) (Ok None) (figures 1 1 0 0 0)
  pub second : left shots (Going 0 1 Sound) (figures 1 1 0 0 0) 1 ≡ gives (Going 0 2 Sound) (Ok None) (figures 1 1 1 1 0)
  pub third : left shots (Going 0 2 Sound) (figures 1 1 1 1 0) 1 ≡ gives (Going 1 1 Sound) (Ok None) (figures 2 2 1 1 0)
  pub fourth : left shots (Going 1 1 Sound) (figures 2 2 1 1 0) 1 ≡ gives (Going 1 2 Sound) (Ok None) (figures 2 2 1 1 0)
  pub last : left shots (Going 1 2 Sound) (figures 2 2 1 1 0) 1 ≡ gives (Finished Sound) (Ok (Some Sound)) (figures 2 3 1 1 1)

-- other cuttings, and the check done at once
pub record Cuts : Type 0 where
  pub three : left shots New noisy 3 ≡ gives (Going 1 1 Sound) (Ok None) (figures 2 2 1 1 0)
  pub four : left shots New noisy 4 ≡ gives (Going 1 2 Sound) (Ok None) (figures 2 2 1 1 0)
  pub five : left shots New noisy 5 ≡ gives (Finished Sound) (Ok (Some Sound)) (figures 2 3 1 1 1)
  pub four-more
      : left shots (Going 0 1 (Leaks 5)) (figures 1 1 0 0 0) 9
      ≡ gives (Finished (Leaks 5)) (Ok (Some (Leaks 5))) (figures 2 3 1 1 1)
  pub checked : check [] shots 28 ≡ Sound
  pub counted : scratch_left [] shots noisy ≡ figures 2 3 1 1 1

-- states that no check has reached: the references through a snapshot's table alone, and places that the image lacks
pub record MadeUp : Type 0 where
  pub snapshot-0
      : left shots (Going 1 0 Sound) (zeros 28) 2
      ≡ gives (Going 1 2 Sound) (Ok None) (low (0 ∷ 0 ∷ 0 ∷ 0 ∷ 0 ∷ 0 ∷ 1 ∷ 1 ∷ 0 ∷ 0 ∷ 0 ∷ 0 ∷ 0 ∷ 0 ∷ []))
  pub snapshot-1
      : left shots (Going 2 0 (Leaks 5)) (zeros 28) 1
      ≡ gives (Finished (Leaks 5)) (Ok (Some (Leaks 5))) (low (0 ∷ 0 ∷ 0 ∷ 0 ∷ 0 ∷ 0 ∷ 0 ∷ 1 ∷ 0 ∷ 0 ∷ 0 ∷ 1 ∷ 0 ∷ 0 ∷ []))
  -- the next table is gone on with
  pub no_index : left shots (Going 0 7 Sound) (figures 1 1 1 1 0) 1 ≡ gives (Going 1 1 Sound) (Ok None) (figures 2 2 1 1 0)
  pub no-index-last
      : left shots (Going 2 1 (Leaks 5)) (figures 2 3 1 1 1) 1
      ≡ gives (Finished (Leaks 5)) (Ok (Some (Leaks 5))) (figures 2 3 1 1 1)
  pub no_table
      : left shots (Going 3 0 (Leaks 5)) (figures 2 3 1 1 1) 1
      ≡ gives (Finished (Leaks 5)) (Ok (Some (Leaks 5))) (figures 2 3 1 1 1)

-- a bad entry in or below a snapshot's table, and tables of no entry
pub record Faulty : Type 0 where
  pub bad_l1
      : left (with_bytes 2568 (bytes64 520)) (Going 1 1 Sound) (figures 2 2 1 1 0) 1
      ≡ gives (Going 1 2 (BadL1 1 1)) (Ok None) (figures 2 2 1 1 0)
  pub bad_l2
      : left (with_bytes 5656 (bytes64 2)) (Going 1 2 Sound) (figures 2 2 1 1 0) 1
      ≡ gives (Finished (BadL2 2 0 3)) (Ok (Some (BadL2 2 0 3))) (figures 2 2 1 1 1)
  pub bad-at-once
      : left (with_bytes 5656 (bytes64 2)) New noisy 9
      ≡ gives (Finished (BadL2 2 0 3)) (Ok (Some (BadL2 2 0 3))) (figures 2 2 1 1 1)
  -- the active table, and the disk, of none: snapshot 0's come first
  pub no-active
      : left (sets (with_bytes 24 (bytes64 0)) 36 (bytes32 0)) New noisy 1
      ≡ gives (Going 1 1 Sound) (Ok None) (low (1 ∷ 1 ∷ 1 ∷ 0 ∷ 1 ∷ 1 ∷ 1 ∷ 1 ∷ 0 ∷ 0 ∷ 1 ∷ 0 ∷ 0 ∷ 0 ∷ []))
  -- snapshot 0's of none: snapshot 1's come after the active ones
  pub no-snapshot
      : left (with_bytes 2056 (bytes32 0)) New noisy 2
      ≡ gives (Going 0 2 Sound) (Ok None) (low (1 ∷ 1 ∷ 1 ∷ 1 ∷ 1 ∷ 0 ∷ 1 ∷ 1 ∷ 1 ∷ 1 ∷ 1 ∷ 0 ∷ 0 ∷ 0 ∷ []))
  pub no-snapshot-last
      : left (with_bytes 2056 (bytes32 0)) (Going 0 2 Sound) (low (1 ∷ 1 ∷ 1 ∷ 1 ∷ 1 ∷ 0 ∷ 1 ∷ 1 ∷ 1 ∷ 1 ∷ 1 ∷ 0 ∷ 0 ∷ 0 ∷ [])) 1
      ≡ gives (Finished (MarkL1 0)) (Ok (Some (MarkL1 0))) (low (1 ∷ 1 ∷ 1 ∷ 1 ∷ 1 ∷ 0 ∷ 1 ∷ 2 ∷ 1 ∷ 1 ∷ 1 ∷ 1 ∷ 0 ∷ 0 ∷ []))

-- the image changes on the way
pub record Moved : Type 0 where
  -- an L2 entry that was taken is bad now: it is not named, and its mark, which would be wrong, is passed over
  pub unnamed
      : left (with_bytes 4104 (bytes64 4610)) (Going 0 2 Sound) (figures 1 1 1 1 0) 3
      ≡ gives (Finished Sound) (Ok (Some Sound)) (figures 2 3 1 1 1)
  pub unnamed-check : check [] (with_bytes 4104 (bytes64 4610)) 28 ≡ BadL2 0 1 1
  -- the snapshots are gone: their tables are passed over, and the counts judged by the figures
  pub gone
      : left (with_bytes 60 (bytes32 0)) (Going 1 1 Sound) (figures 2 2 1 1 0) 1
      ≡ gives (Finished (Leaks 2)) (Ok (Some (Leaks 2))) (figures 2 2 1 1 0)
  pub last-gone
      : left (with_bytes 60 (bytes32 1)) (Going 2 0 (Short 5)) (figures 2 2 1 1 0) 1
      ≡ gives (Finished (Short 5)) (Ok (Some (Short 5))) (figures 2 2 1 1 0)
  -- the active table has an entry more: it is taken before the snapshots'
  pub longer : left (with_bytes 36 (bytes32 3)) (Going 0 2 Sound) (figures 1 1 1 1 0) 1 ≡ gives (Going 0 3 Sound) (Ok None) (figures 1 1 1 1 0)
  -- or one less
  pub shorter
      : left (sets (with_bytes 36 (bytes32 1)) 24 (bytes64 32768)) (Going 0 1 Sound) (figures 1 1 0 0 0) 1
      ≡ gives (Going 1 1 Sound) (Ok None) (figures 2 2 0 0 0)
