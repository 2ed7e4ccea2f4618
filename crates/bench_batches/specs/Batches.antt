-- Batches on the bench image and on that image with an L2 table: the bytes of each phase, what may be stored together, and what planning call by call is
-- told. It is proved in proofs/Batches.antt.
-- Assumes nothing.
use Rattle.std.specs.Prelude.{ℕ, ◌+◌, ◌*◌, ◌≡◌, List, [], ◌∷◌, Err, Ok, Result}
use Rattle.std.proofs.lemmas.List.Edits.{sets}
use Rattle.endian.specs.Big.{bytes64}
use Rattle.units.specs.Units.{UnitStore}
use Rattle.units.specs.Plan.{Plan}
use Rattle.qcow2_spec.specs.Disk.{Request, write, discard, plan_of}
use Rattle.qcow2_spec.specs.Steps.{step_rows}
use Rattle.qcow2_batches.specs.Batch.{memory}
use Rattle.qcow2_batches.specs.Rows.{answered, rows_left}
use Rattle.qcow2_batches.specs.Told.{Told}
use Rattle.qcow2_batches.specs.declared.Planned.{Planned}
use Rattle.qcow2_batches.specs.declared.Planned.TheVariants.{Ends, Rows}
use Rattle.bench_table.specs.Bench.{zeros, bench, one_bit, marked}
use Rattle.bench_table.specs.Table.{written}

-- ---- the images and the calls
-- an image of no L2 table, with one in cluster 4 for guest clusters 64 to 127, of which 65 is in host cluster k; the counts are left
unfoldable pub linked : List ℕ → (k : ℕ) → List ℕ
linked s k = sets (sets s 1544 (bytes64 0x8000000000000800)) 2056 (bytes64 (0x8000000000000000 + 512 * k))

-- the bench image so, with the counts of both clusters
unfoldable pub tabled : (k : ℕ) → List ℕ
tabled k = sets (sets (linked bench k) 1032 (0 ∷ 1 ∷ [])) (1024 + 2 * k) (0 ∷ 1 ∷ [])

-- with an autoclear bit
unfoldable pub unclear : List ℕ
unclear = sets (tabled 5) 88 (bytes64 1)

-- the data in cluster 6, with counts of one bit: those of clusters 0 to 7 are one byte
unfoldable pub narrow : List ℕ
narrow = sets (linked one_bit 6) 1024 (95 ∷ [])

-- writes to guest cluster 65 and to the one before it
abbrev pub first : Request
first = write 33285 (1 ∷ 2 ∷ [])

abbrev pub second : Request
second = write 32768 (3 ∷ [])

-- to cluster 65 again, right after the bytes of the first
abbrev pub third : Request
third = write 33287 (4 ∷ [])

-- ---- batches
-- the rows of a batch: where the bytes begin, how many they are, of how many units, their phase
abbrev pub shown : List (List UnitStore) → List ℕ
shown = step_rows 0

-- `phases`: the units of a batch; `may`: it may be stored together
pub record Phases (store : Plan → ℕ → List ℕ → List ℕ) (phases : (backing s : List ℕ) → List Request → List (List UnitStore)) (may : (backing s : List ℕ) → List Request → Type 0) : Type 0 where
  pub tabled-is : written store (0 ∷ 0 ∷ 0 ∷ 0 ∷ 0 ∷ []) 1028 ≡ tabled 5
  -- a new table: both of its entries are stored with its bytes, a call in place between them or not, the L1 entry alone after them
  pub new_table :
      shown (phases [] bench (first ∷ third ∷ second ∷ []))
      ≡ 1032 ∷ 2 ∷ 1 ∷ 1 ∷ 2048 ∷ 512 ∷ 512 ∷ 1 ∷ 1034 ∷ 2 ∷ 1 ∷ 1 ∷ 2560 ∷ 512 ∷ 512 ∷ 1 ∷ 2056 ∷ 8 ∷ 1 ∷ 1
      ∷ 2567 ∷ 1 ∷ 1 ∷ 1
      ∷ 1036 ∷ 2 ∷ 1 ∷ 1 ∷ 3072 ∷ 512 ∷ 512 ∷ 1 ∷ 2048 ∷ 8 ∷ 1 ∷ 1
      ∷ 1544 ∷ 8 ∷ 1 ∷ 2 ∷ []
  pub new_table_may : may [] bench (first ∷ third ∷ second ∷ [])
  -- an old table: the new entry comes after the bytes of the new cluster, and those in place with them
  pub old_table :
      shown (phases [] (tabled 5) (first ∷ second ∷ []))
      ≡ 2565 ∷ 2 ∷ 2 ∷ 1 ∷ 1036 ∷ 2 ∷ 1 ∷ 1 ∷ 3072 ∷ 512 ∷ 512 ∷ 1 ∷ 2048 ∷ 8 ∷ 1 ∷ 2 ∷ []
  pub old_table_may : may [] (tabled 5) (first ∷ second ∷ [])
  -- a cluster is freed and a lower one taken, or it is freed after another is taken
  pub freed :
      shown (phases [] (tabled 6) (discard 65 ∷ second ∷ []))
      ≡ 1034 ∷ 2 ∷ 1 ∷ 1 ∷ 2560 ∷ 512 ∷ 512 ∷ 1 ∷ 2056 ∷ 8 ∷ 1 ∷ 2 ∷ 2048 ∷ 8 ∷ 1 ∷ 2 ∷ 1036 ∷ 2 ∷ 1 ∷ 3 ∷ []
  pub freed_may : may [] (tabled 6) (discard 65 ∷ second ∷ [])
  pub freed-last : may [] (tabled 5) (second ∷ discard 65 ∷ [])
  -- the freed one is taken, one that was taken is freed after another, or the two counts are in one byte
  pub taken-again : may [] (tabled 5) (discard 65 ∷ second ∷ []) → ⊥
  pub freed-again : may [] (tabled 5) (second ∷ discard 65 ∷ discard 64 ∷ []) → ⊥
  pub one_byte : may [] narrow (discard 65 ∷ second ∷ []) → ⊥
  -- what is filled in place may be freed
  pub filled : may [] (tabled 5) (first ∷ discard 65 ∷ [])
  -- the first call that stores anything clears; bytes of two calls that go on are one row
  pub clears : shown (phases [] unclear (write 65536 (1 ∷ []) ∷ first ∷ third ∷ [])) ≡ 88 ∷ 8 ∷ 1 ∷ 0 ∷ 2565 ∷ 3 ∷ 3 ∷ 1 ∷ []
  pub none : shown (phases [] unclear (discard 64 ∷ write 65536 (1 ∷ []) ∷ [])) ≡ []

-- ---- planning call by call
-- the answer to a request on the image s, of which k rows are held, and the rows that are left
abbrev pub answers : (s : List ℕ) → Request → (k : ℕ) → (rows : List ℕ) → Result Planned ℕ
answers s r k rows = answered s (plan_of [] s r) k rows

abbrev pub leaves : (s : List ℕ) → Request → (k : ℕ) → (rows : List ℕ) → List ℕ
leaves s r k rows = rows_left s (plan_of [] s r) k rows

-- how many rows each kind of call has, and how many numbers it needs for them
pub record Answers : Type 0 where
  pub clearing : answers (marked 3) first 0 (zeros 28) ≡ Ok (Rows 7)
  pub new_table : answers bench first 0 (zeros 27) ≡ Ok (Rows 6)
  pub no_room : answers bench first 0 (zeros 23) ≡ (Ok Ends)
  pub new_cluster : answers (tabled 5) second 0 (zeros 12) ≡ Ok (Rows 3)
  pub discarded : answers (tabled 5) (discard 65) 0 (zeros 8) ≡ Ok (Rows 2)
  pub in_place : answers (tabled 5) first 0 (zeros 4) ≡ Ok (Rows 1)
  pub no_bytes : answers (tabled 5) (write 0 []) 0 [] ≡ Ok (Rows 0)
  pub past_end : answers bench (write 65536 (1 ∷ [])) 0 [] ≡ Err 11
  -- beside held rows
  pub held : answers (tabled 5) (discard 65) 3 (zeros 20) ≡ Ok (Rows 5)
  pub held-room : answers (tabled 5) (discard 65) 3 (zeros 19) ≡ (Ok Ends)
  -- beside the row of a count that rises or falls: one that falls, one that rises, and a neighbour that rises
  pub rises_falls : answers (tabled 5) (discard 65) 1 (1034 ∷ 2 ∷ 1 ∷ 1 ∷ zeros 8) ≡ (Ok Ends)
  pub falls_falls : answers (tabled 5) (discard 65) 1 (1034 ∷ 2 ∷ 1 ∷ 3 ∷ zeros 8) ≡ Ok (Rows 3)
  pub falls_rises : answers (tabled 6) second 1 (1034 ∷ 2 ∷ 1 ∷ 3 ∷ zeros 12) ≡ (Ok Ends)
  pub beside : answers (tabled 6) second 1 (1032 ∷ 2 ∷ 1 ∷ 3 ∷ zeros 12) ≡ Ok (Rows 4)
  -- a row that is not held says nothing
  pub not-held : answers (tabled 6) second 0 (1034 ∷ 2 ∷ 1 ∷ 3 ∷ zeros 12) ≡ Ok (Rows 3)

-- the rows themselves
pub record Left : Type 0 where
  pub new_cluster : leaves (tabled 5) second 0 (zeros 13) ≡ 1036 ∷ 2 ∷ 1 ∷ 1 ∷ 3072 ∷ 512 ∷ 512 ∷ 1 ∷ 2048 ∷ 8 ∷ 1 ∷ 2 ∷ 0 ∷ []
  -- the held row says that the table is new: its entry is of phase 1
  pub ready : leaves (tabled 5) second 1 (2048 ∷ 512 ∷ 512 ∷ 1 ∷ zeros 12) ≡ 2048 ∷ 512 ∷ 512 ∷ 1 ∷ 1036 ∷ 2 ∷ 1 ∷ 1 ∷ 3072 ∷ 512 ∷ 512 ∷ 1 ∷ 2048 ∷ 8 ∷ 1 ∷ 1 ∷ []
  pub one-fits : leaves (tabled 5) (discard 65) 0 (zeros 7) ≡ 2056 ∷ 8 ∷ 1 ∷ 2 ∷ 0 ∷ 0 ∷ 0 ∷ []
  pub past_end : leaves bench (write 65536 (1 ∷ [])) 0 (7 ∷ 7 ∷ 7 ∷ 7 ∷ []) ≡ 7 ∷ 7 ∷ 7 ∷ 7 ∷ []
  -- two calls after one another, and what is in memory then
  pub both : Told [] unclear 0 (zeros 18) (first ∷ discard 65 ∷ []) 4 (88 ∷ 8 ∷ 1 ∷ 0 ∷ 2565 ∷ 2 ∷ 2 ∷ 1 ∷ 2056 ∷ 8 ∷ 1 ∷ 2 ∷ 1034 ∷ 2 ∷ 1 ∷ 3 ∷ 0 ∷ 0 ∷ [])
  pub in_memory : memory [] unclear (first ∷ discard 65 ∷ []) ≡ sets (sets (sets (tabled 5) 1034 (0 ∷ 0 ∷ [])) 2056 (bytes64 0)) 2565 (1 ∷ 2 ∷ [])
