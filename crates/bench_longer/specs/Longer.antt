-- The bench image with counts of 64 bits made longer: what extending stores there and on images with one thing changed, and what it leaves. Paper 02,
-- T-13. It is proved in proofs/Longer.antt.
-- Assumes nothing.
use Rattle.std.specs.Prelude.{ℕ, ◌≡◌, List, [], ◌∷◌, ◌++◌, take, drop}
use Rattle.std.proofs.lemmas.List.Edits.{sets}
use Rattle.endian.specs.Big.{bytes64}
use Rattle.units.specs.Units.{UnitStore, byte, entry}
use Rattle.units.specs.Plan.{Plan, plan_units}
use Rattle.qcow2_spec.specs.Check.{check}
use Rattle.qcow2_spec.specs.declared.Verdict.TheVariants.{Sound, Leaks}
use Rattle.bench_table.specs.Bench.{bench, one_bit, four_bits, eight_bits, wide_bits}
use Rattle.bench_table.specs.Table.{cost}
use Rattle.qcow2_longer.specs.Extend.{new_block, extend_plan}
use Rattle.qcow2_longer.specs.Numbers.{early, padded, two, three, with_two}

-- the refcount table in cluster 64 itself, where the second block goes; its entries are a block in cluster 2 and these
unfoldable pub over-table : List ℕ → List ℕ
over-table es = sets (sets three 48 (bytes64 32768)) 32768 (bytes64 1024 ++ es)

-- clusters of sevens are appended, and cluster 17 has a count in the last old block
unfoldable pub noisy : List ℕ
noisy = sets (padded 49 7) 1160 (bytes64 3)

-- k units of a list, from number i on
abbrev pub some : (i k : ℕ) → Plan → List UnitStore
some i k p = take k (drop i (plan_units p))

-- the list of units
pub record Lists : Type 0 where
  pub one_block : cost (extend_plan two early) ≡ 513
  pub same_block : cost (extend_plan (padded 48 0) early) ≡ 0
  pub all_made : cost (extend_plan (with_two 520 (bytes64 32768)) early) ≡ 0
  -- the block's own count, and the entry after the block
  pub own : some 6 3 (extend_plan two early) ≡ byte 32774 0 ∷ byte 32775 1 ∷ byte 32776 0 ∷ []
  pub last : some 511 3 (extend_plan two early) ≡ byte 33279 0 ∷ entry 520 32768 ∷ []
  pub next : some 512 3 (extend_plan three early) ≡ entry 520 32768 ∷ byte 65536 0 ∷ byte 65537 0 ∷ []
  -- the clearing unit
  pub cleared : some 0 2 (extend_plan (with_two 88 (bytes64 2)) early) ≡ entry 88 0 ∷ byte 32768 0 ∷ []
  pub cleared-cost : cost (extend_plan (with_two 88 (bytes64 2)) early) ≡ 514
  pub not-cleared : cost (extend_plan (sets (padded 48 0) 88 (bytes64 2)) early) ≡ 0
  -- other widths
  pub count-1 : take 2 (new_block one_bit) ≡ 1 ∷ 0 ∷ []
  pub count-4 : take 2 (new_block four_bits) ≡ 1 ∷ 0 ∷ []
  pub count-8 : take 2 (new_block eight_bits) ≡ 1 ∷ 0 ∷ []
  pub count-16 : take 3 (new_block bench) ≡ 0 ∷ 1 ∷ 0 ∷ []
  pub count-32 : take 5 (new_block wide_bits) ≡ 0 ∷ 0 ∷ 0 ∷ 1 ∷ 0 ∷ []
  -- over the refcount table itself, of whose entries one is 0 on entry and the next names its block: filling the first does not count for it
  pub on-entry : cost (extend_plan (over-table (bytes64 0 ++ bytes64 65536)) early) ≡ 513

-- what is left, by a way `after` of storing units
pub record Left (after : Plan → ℕ → List ℕ → List ℕ) : Type 0 where
  pub sound : check [] (after (extend_plan two early) 513 two) 130 ≡ Sound
  -- the appended bytes may be any; a count past the old N in the last old block was never looked at
  pub leak : check [] (after (extend_plan noisy early) 513 noisy) 130 ≡ Leaks 1
