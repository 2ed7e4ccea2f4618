-- Taking in clusters that were appended to an image: the numbers and the list of units. Paper 02, T-13. old: the bytes that the image had before.
-- All places and values are worked out from the image s as it was on entry.
-- Assumes nothing.
use Rattle.std.specs.Prelude.{ℕ, ◌+◌, ◌-◌, ◌*◌, ◌/◌, ◌%◌, Bool, true, not, ◌&&◌, ◌||◌, List, [], ◌∷◌, ◌++◌, ltb, eqb, length, take, drop, replicate, if◌then◌else◌}
use Rattle.choice.specs.Pick.{unless, all, ceil_div}
use Rattle.widths.specs.Width.{stored}
use Rattle.tally.specs.Tally.{run}
use Rattle.units.specs.Units.{UnitStore, entry, fill}
use Rattle.units.specs.Plan.{Plan, refused, units}
use Rattle.qcow2_spec.specs.Header.{least_length, cluster_size, width, per_block, blocks, table_at, table, block_at, good_block, header_number, backing_number, snapshot_number}
use Rattle.qcow2_spec.specs.Store.{clearing}

-- ---- the numbers
-- the old length is below 512, above n or no multiple of C
unfoldable pub bad_old : List ℕ → (old : ℕ) → Bool
bad_old s old = ltb old least_length || ltb (length s) old || not (eqb (old % cluster_size s) 0)

-- the old B: the blocks that the earlier bytes need
unfoldable pub old_blocks : List ℕ → (old : ℕ) → ℕ
old_blocks s old = ceil_div (old / cluster_size s) (per_block s)

-- the new blocks, from the old B up to B
unfoldable pub new_blocks : List ℕ → (old : ℕ) → List ℕ
new_blocks s old = run (old_blocks s old) (blocks s - old_blocks s old)

-- where new block i goes: the first cluster that it covers
unfoldable pub new_place : List ℕ → (i : ℕ) → ℕ
new_place s i = i * per_block s * cluster_size s

-- new block i is still to be made: its table entry is 0
unfoldable pub to_make : List ℕ → (i : ℕ) → Bool
to_make s i = eqb (block_at s i) 0

-- its table entry is 0 or its place
unfoldable pub good_new : List ℕ → (i : ℕ) → Bool
good_new s i = to_make s i || eqb (block_at s i) (new_place s i)

-- the table's entries below the old B name blocks in the longer image, those up to B keep the rule for new blocks, and the later ones are 0
unfoldable pub good_longer : List ℕ → (old : ℕ) → Bool
good_longer s old =
    all (good_block (cluster_size s) (length s)) (take (old_blocks s old) (table s))
    && all (good_new s) (new_blocks s old)
    && all (λ e. eqb e 0) (drop (blocks s) (table s))

-- 10 for the old length or an entry of the table, else 0
unfoldable pub longer_number : List ℕ → (old : ℕ) → ℕ
longer_number s old = if bad_old s old || not (good_longer s old) then 10 else 0

-- the number that extending is refused with, the first that applies; 0 where it is accepted. No bytes of a backing file are needed
unfoldable pub extend_number : List ℕ → (old : ℕ) → ℕ
extend_number s old =
    unless (header_number s) (λ k. k)
    (unless (longer_number s old) (λ k. k)
    (unless (backing_number true s) (λ k. k)
    (snapshot_number s)))

-- ---- the list
-- the bytes of a new block: its own count, the first, is 1, and all others are 0
unfoldable pub new_block : List ℕ → List ℕ
new_block s = stored (width s) (replicate (cluster_size s) 0) 0 1

-- new block i where it is still to be made: its bytes, then its table entry
unfoldable pub make_block : List ℕ → (i : ℕ) → List UnitStore
make_block s i = if to_make s i then fill (new_place s i) (new_block s) ++ entry (table_at s + 8 * i) (new_place s i) ∷ [] else []

-- all of them, one after another
unfoldable pub make_blocks : List ℕ → List ℕ → List UnitStore
make_blocks s [] = []
make_blocks s (i ∷ is) = make_block s i ++ make_blocks s is

-- the plan of taking in what follows the first old bytes
unfoldable pub extend_plan : List ℕ → (old : ℕ) → Plan
extend_plan s old = unless (extend_number s old) refused (clearing s (units (make_blocks s (new_blocks s old))))
