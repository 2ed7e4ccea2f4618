-- Portions of a check of the bench image and of images with an L2 table and one thing changed: answers, states and scratches. Paper 02, T-12. It is
-- proved in proofs/Portions.antt.
-- Assumes nothing.
use Rattle.std.specs.Prelude.{ℕ, ◌-◌, ◌≡◌, List, [], ◌∷◌, ◌++◌, length, take, replicate, Err, Ok, Result, None, Option, Some}
use Rattle.std.proofs.lemmas.List.Edits.{sets}
use Rattle.endian.specs.Big.{bytes16, bytes32, bytes64}
use Rattle.units.specs.Plan.{Plan}
use Rattle.qcow2_spec.specs.References.{scratch_left}
use Rattle.qcow2_spec.specs.Check.{check}
use Rattle.qcow2_spec.specs.declared.Verdict.{Verdict}
use Rattle.qcow2_spec.specs.declared.Verdict.TheVariants.{Sound, Leaks, BadL1, BadL2, Shared, Short, MarkL1, MarkL2, Refused as RefusedCheck}
use Rattle.qcow2_portion.specs.State.{portion, scratch_portion}
use Rattle.qcow2_portion.specs.Cutting.{state_after, scratch_after}
use Rattle.qcow2_portion.specs.declared.CheckState.{CheckState}
use Rattle.qcow2_portion.specs.declared.CheckState.TheVariants.{New, Going, Finished}
use Rattle.qcow2_portion.specs.declared.Portion.{Portion}
use Rattle.bench_table.specs.Bench.{zeros, header, bench, bench_with}
use Rattle.bench_table.specs.Table.{written}
use Rattle.bench_table.specs.Shots.{common, own}

-- ---- what a portion does
-- the answer with the state that is handed back, and the scratch
pub record Left : Type 0 where
  pub answered : Portion
  pub scratch : List ℕ

-- a portion of at most `may` entries, with no backing file
abbrev pub left : List ℕ → CheckState → (scratch : List ℕ) → (may : ℕ) → Left
left s st z may = record { answered = portion [] s st z may; scratch = scratch_portion [] s st z may }

-- what it is expected to do
abbrev pub gives : CheckState → Result (Option Verdict) ℕ → (scratch : List ℕ) → Left
gives st a z = record { answered = record { state = st; answer = a }; scratch = z }

-- the bytes of figures below 256
abbrev pub low : List ℕ → List ℕ
low [] = []
low (f ∷ fs) = 0 ∷ f ∷ low fs

-- a scratch for 16 clusters as it may be before the first portion
abbrev pub noise : List ℕ
noise = replicate 32 7

-- the figures of cluster 0, of the tables and of the block, and those with the L2 table in cluster 4 and the data in cluster 5
abbrev pub fixed : List ℕ
fixed = low (1 ∷ 1 ∷ 1 ∷ 1 ∷ 0 ∷ 0 ∷ []) ++ zeros 20

abbrev pub six : List ℕ
six = low (1 ∷ 1 ∷ 1 ∷ 1 ∷ 1 ∷ 1 ∷ []) ++ zeros 20

-- ---- the images
-- the bench image with L1 entries a and b, and in cluster 4 an L2 table, of which entry 1 is e; these counts from cluster 4 on
unfoldable pub tabled : (counts a b e : List ℕ) → List ℕ
tabled counts a b e =
    header 9 65536 2 ++ (zeros 408
    ++ (bytes64 1024 ++ (zeros 504
    ++ (bytes16 1 ++ (bytes16 1 ++ (bytes16 1 ++ (bytes16 1 ++ (counts ++ (zeros (504 - length counts)
    ++ (a ++ (b ++ (zeros 496
    ++ (zeros 8 ++ (e ++ zeros 6128))))))))))))))

-- an entry of 0, and counts of 1 and of 2
abbrev pub none : List ℕ
none = zeros 8

abbrev pub once : List ℕ
once = bytes16 1 ++ bytes16 1

abbrev pub twice : List ℕ
twice = bytes16 2 ++ bytes16 2

-- the bench image after the whole write of five zeros (`Whole`), and the same with the table below L1 entry 0
unfoldable pub second : List ℕ
second = tabled once none (own 4) (own 5)

unfoldable pub other : List ℕ
other = tabled once (own 4) none (own 5)

-- ---- lines
-- a new state and the next on the bench image, which has two L1 entries
pub record Begun : Type 0 where
  -- none is taken: nothing changes
  pub none : left bench New noise 0 ≡ gives New (Ok None) noise
  pub none_going : left bench (Going 0 1 Sound) noise 0 ≡ gives (Going 0 1 Sound) (Ok None) noise
  pub none_ahead : left bench (Going 0 2 Sound) noise 0 ≡ gives (Going 0 2 Sound) (Ok None) noise
  -- the first clears its part of the scratch
  pub one : left bench New noise 1 ≡ gives (Going 0 1 Sound) (Ok None) fixed
  pub one_more : left bench (Going 0 1 Sound) fixed 1 ≡ gives (Finished Sound) (Ok (Some Sound)) fixed
  pub both : left bench New noise 2 ≡ gives (Finished Sound) (Ok (Some Sound)) fixed
  pub five : left bench New noise 5 ≡ gives (Finished Sound) (Ok (Some Sound)) fixed
  -- the bytes past two for each cluster stay
  pub rest : left bench New (noise ++ 8 ∷ 9 ∷ []) 1 ≡ gives (Going 0 1 Sound) (Ok None) (fixed ++ 8 ∷ 9 ∷ [])
  pub rest_going : left bench (Going 0 0 Sound) (noise ++ 8 ∷ []) 1 ≡ gives (Going 0 1 Sound) (Ok None) (noise ++ 8 ∷ [])

-- what was found stays, whatever it is
pub record Found : Type 0 where
  pub leaks : left bench (Going 0 0 (Leaks 5)) noise 1 ≡ gives (Going 0 1 (Leaks 5)) (Ok None) noise
  pub bad_l1 : left bench (Going 0 0 (BadL1 9 8)) noise 1 ≡ gives (Going 0 1 (BadL1 9 8)) (Ok None) noise
  pub bad_l2 : left bench (Going 0 0 (BadL2 9 8 7)) noise 1 ≡ gives (Going 0 1 (BadL2 9 8 7)) (Ok None) noise
  pub shared : left bench (Going 0 0 (Shared 9)) noise 1 ≡ gives (Going 0 1 (Shared 9)) (Ok None) noise
  pub short : left bench (Going 0 0 (Short 9)) noise 1 ≡ gives (Going 0 1 (Short 9)) (Ok None) noise
  pub mark_l1 : left bench (Going 0 0 (MarkL1 9)) noise 1 ≡ gives (Going 0 1 (MarkL1 9)) (Ok None) noise
  pub mark_l2 : left bench (Going 0 0 (MarkL2 9 8)) noise 1 ≡ gives (Going 0 1 (MarkL2 9 8)) (Ok None) noise
  pub refused : left bench (Going 0 0 (RefusedCheck 9)) noise 1 ≡ gives (Going 0 1 (RefusedCheck 9)) (Ok None) noise
  -- it is the verdict of the last portion
  pub leaks-told : left bench (Going 0 0 (Leaks 5)) noise 2 ≡ gives (Finished (Leaks 5)) (Ok (Some (Leaks 5))) noise
  pub refused-told : left bench (Going 0 1 (RefusedCheck 9)) noise 1 ≡ gives (Finished (RefusedCheck 9)) (Ok (Some (RefusedCheck 9))) noise

-- a finished state answers as before and changes nothing
pub record Ended : Type 0 where
  pub sound : left bench (Finished Sound) noise 1 ≡ gives (Finished Sound) (Ok (Some Sound)) noise
  pub leaks : left bench (Finished (Leaks 5)) noise 0 ≡ gives (Finished (Leaks 5)) (Ok (Some (Leaks 5))) noise
  pub bad : left bench (Finished (BadL2 7 8 9)) noise 9 ≡ gives (Finished (BadL2 7 8 9)) (Ok (Some (BadL2 7 8 9))) noise

-- a refused portion changes nothing
pub record Kept : Type 0 where
  pub no_room : left bench New (replicate 31 7) 1 ≡ gives New (Err 15) (replicate 31 7)
  pub no_room-none : left bench (Going 0 1 (Short 3)) [] 0 ≡ gives (Going 0 1 (Short 3)) (Err 15) []
  pub no_room-finished : left bench (Finished Sound) (replicate 31 7) 1 ≡ gives (Finished Sound) (Err 15) (replicate 31 7)
  pub no_header : left (take 511 bench) New noise 1 ≡ gives New (Err 1) noise
  pub no_header_going : left (take 511 bench) (Going 0 1 Sound) [] 0 ≡ gives (Going 0 1 Sound) (Err 1) []
  pub no_header-finished : left (take 511 bench) (Finished Sound) noise 1 ≡ gives (Finished Sound) (Err 1) noise
  pub no_bytes_lent : left (sets bench 8 (bytes64 104 ++ bytes32 1)) New noise 1 ≡ gives New (Err 19) noise
  pub bytes_lent : (portion (0 ∷ []) (sets bench 8 (bytes64 104 ++ bytes32 1)) New noise 1).answer ≡ (Ok None)

-- no L1 entry at all: the first portion that may take one is the last. The L1 table has no cluster then, and cluster 3 leaks
pub record Empty : Type 0 where
  pub none : left (bench_with 9 0 0) New noise 0 ≡ gives New (Ok None) noise
  pub one : left (bench_with 9 0 0) New noise 1 ≡ gives (Finished (Leaks 1)) (Ok (Some (Leaks 1))) (low (1 ∷ 1 ∷ 1 ∷ []) ++ zeros 26)

-- the image after the whole write of five bytes, by a way `after` of storing units
pub record Whole (after : Plan → ℕ → List ℕ → List ℕ) : Type 0 where
  pub written_is : written after (0 ∷ 0 ∷ 0 ∷ 0 ∷ 0 ∷ []) 1028 ≡ second

-- entries of 0 and of a table are taken; states that no check has reached
pub record Taken : Type 0 where
  pub one : left second New noise 1 ≡ gives (Going 0 1 Sound) (Ok None) fixed
  pub one_more : left second (Going 0 1 Sound) fixed 1 ≡ gives (Finished Sound) (Ok (Some Sound)) six
  pub both : left second New noise 2 ≡ gives (Finished Sound) (Ok (Some Sound)) six
  pub handed_on : state_after [] second (1 ∷ 0 ∷ 1 ∷ []) New noise ≡ Finished Sound
  pub handed_scratch : scratch_after [] second (1 ∷ 0 ∷ 1 ∷ []) New noise ≡ six
  -- as the check done at once
  pub checked : check [] second 32 ≡ Sound
  pub counted : scratch_left [] second noise ≡ six
  -- a figure has two bytes and stays at 65,535
  pub capped : left second (Going 0 1 Sound) (replicate 32 255) 1 ≡ gives (Finished (Short 0)) (Ok (Some (Short 0))) (replicate 32 255)
  pub carried
      : left second (Going 0 1 (Shared 9)) (zeros 8 ++ 0 ∷ 255 ∷ 255 ∷ 254 ∷ zeros 20) 1
      ≡ gives (Finished (Shared 9)) (Ok (Some (Shared 9))) (zeros 8 ++ 1 ∷ 0 ∷ 255 ∷ 255 ∷ zeros 20)
  pub of-two-bytes
      : left (tabled (once ++ bytes16 256) none (own 4) (own 5)) (Going 0 2 Sound) (take 12 six ++ 1 ∷ 0 ∷ zeros 18) 1
      ≡ gives (Finished Sound) (Ok (Some Sound)) (take 12 six ++ 1 ∷ 0 ∷ zeros 18)
  -- an index or a table that the image lacks: nothing is taken, and it is the last portion
  pub no_index : left second (Going 0 7 Sound) six 1 ≡ gives (Finished Sound) (Ok (Some Sound)) six
  pub no_table : left second (Going 9 0 Sound) six 1 ≡ gives (Finished Sound) (Ok (Some Sound)) six
  pub no_numbers : left second (Going 18446744073709551615 18446744073709551615 Sound) six 1 ≡ gives (Finished Sound) (Ok (Some Sound)) six

-- bad entries: the first is named when its L1 entry is taken, and counting goes on
pub record Bad : Type 0 where
  pub first : left (tabled once (bytes64 520) (own 4) (own 5)) New noise 1 ≡ gives (Going 0 1 (BadL1 0 0)) (Ok None) fixed
  pub first-told
      : left (tabled once (bytes64 520) (own 4) (own 5)) (Going 0 1 (BadL1 0 0)) fixed 1
      ≡ gives (Finished (BadL1 0 0)) (Ok (Some (BadL1 0 0))) six
  pub first-at-once
      : left (tabled once (bytes64 520) (own 4) (own 5)) New noise 2
      ≡ gives (Finished (BadL1 0 0)) (Ok (Some (BadL1 0 0))) six
  -- a bad L1 entry adds nothing, though it names a table
  pub second-bad
      : left (tabled once none (bytes64 2049) (own 5)) (Going 0 1 Sound) fixed 1
      ≡ gives (Finished (BadL1 0 1)) (Ok (Some (BadL1 0 1))) fixed
  pub both-bad
      : left (tabled once (bytes64 520) (bytes64 2049) (own 5)) New noise 2
      ≡ gives (Finished (BadL1 0 0)) (Ok (Some (BadL1 0 0))) fixed
  -- below a good one the good L2 entries count
  pub below
      : left (sets second 2072 (bytes64 2)) (Going 0 1 Sound) fixed 1
      ≡ gives (Finished (BadL2 0 1 3)) (Ok (Some (BadL2 0 1 3))) six
  pub below-first : left (sets other 2072 (bytes64 2)) New noise 1 ≡ gives (Going 0 1 (BadL2 0 0 3)) (Ok None) six

-- the image changes after the first portion: the last one judges its own bytes, and counts and marks by these and the scratch
pub record Changed : Type 0 where
  -- an entry that was taken is bad now: it is not named, and its mark, which would be wrong, is passed over
  pub unnamed : left (tabled once (bytes64 2049) (own 4) (own 5)) (Going 0 1 Sound) fixed 1 ≡ gives (Finished Sound) (Ok (Some Sound)) six
  pub unnamed-check : check [] (tabled once (bytes64 2049) (own 4) (own 5)) 32 ≡ BadL1 0 0
  -- the table that was taken below entry 0 is below entry 1 now, and counts twice
  pub before : left other New noise 1 ≡ gives (Going 0 1 Sound) (Ok None) six
  pub short
      : left second (Going 0 1 Sound) six 1
      ≡ gives (Finished (Short 4)) (Ok (Some (Short 4))) (low (1 ∷ 1 ∷ 1 ∷ 1 ∷ 2 ∷ 2 ∷ []) ++ zeros 20)
  -- so marks are wrong where the counts are 2 too; the leak of cluster 6 comes after
  pub mark
      : left (tabled (twice ++ bytes16 1) none (own 4) (own 5)) (Going 0 1 Sound) six 1
      ≡ gives (Finished (MarkL1 1)) (Ok (Some (MarkL1 1))) (low (1 ∷ 1 ∷ 1 ∷ 1 ∷ 2 ∷ 2 ∷ []) ++ zeros 20)
  pub mark_check : check [] (tabled (twice ++ bytes16 1) none (own 4) (own 5)) 32 ≡ Leaks 3
  pub mark-below
      : left (tabled twice none (own 4) (own 5)) (Going 0 1 Sound) (low (1 ∷ 1 ∷ 1 ∷ 1 ∷ 0 ∷ 1 ∷ []) ++ zeros 20) 1
      ≡ gives (Finished (MarkL2 1 1)) (Ok (Some (MarkL2 1 1))) (low (1 ∷ 1 ∷ 1 ∷ 1 ∷ 1 ∷ 2 ∷ []) ++ zeros 20)
  -- and right where they are clear
  pub no-mark
      : left (tabled twice none (common 4) (common 5)) (Going 0 1 Sound) six 1
      ≡ gives (Finished Sound) (Ok (Some Sound)) (low (1 ∷ 1 ∷ 1 ∷ 1 ∷ 2 ∷ 2 ∷ []) ++ zeros 20)
  pub no_mark_check : check [] (tabled twice none (common 4) (common 5)) 32 ≡ MarkL1 1
  -- a table comes below an entry that was taken: its clusters have a figure of 0
  pub mark_late : left other (Going 0 1 Sound) fixed 1 ≡ gives (Finished (MarkL1 0)) (Ok (Some (MarkL1 0))) fixed
  pub leaks
      : left (tabled once (common 4) none (common 5)) (Going 0 1 Sound) fixed 1
      ≡ gives (Finished (Leaks 2)) (Ok (Some (Leaks 2))) fixed
  -- sharing is judged by the bytes alone, whatever the figures are, and before them
  pub shared : left (tabled once (own 4) (own 4) (own 5)) (Going 0 1 Sound) fixed 1 ≡ gives (Finished (Shared 4)) (Ok (Some (Shared 4))) six
  pub shared-before
      : left (tabled once (own 4) (own 4) (own 5)) (Going 0 2 Sound) (replicate 32 255) 1
      ≡ gives (Finished (Shared 4)) (Ok (Some (Shared 4))) (replicate 32 255)
