-- Demand 3 for batches: what holds of every series of them on a drive that keeps no order between two flushes. Proved in proofs/Series.antt.
-- Assumes nothing.
use Rattle.std.specs.Prelude.{ℕ, ◌*◌, ◌≤◌, ◌≡◌, Bool, List, [], ◌∷◌, length, take, Err, Ok, Result}
use Rattle.units.specs.Units.{apply_all}
use Rattle.units.specs.Plan.{Plan, refused, units, plan_units, stores_count}
use Rattle.units.specs.declared.Ended.{Ended}
use Rattle.units.specs.declared.Ended.TheVariants.{Finished, Stopped}
use Rattle.qcow2_spec.specs.Header.{cluster_size, clusters, disk_size}
use Rattle.qcow2_spec.specs.Guest.{guest_byte}
use Rattle.qcow2_spec.specs.Check.{check}
use Rattle.qcow2_spec.specs.Disk.{Request, plan_of, finished, SameDisk, Fed}
use Rattle.qcow2_spec.specs.Flush.{joined, drive_cut}
use Rattle.qcow2_spec.specs.Steps.{extents_in, brought}
use Rattle.qcow2_spec.specs.Series.{Healthy, Agrees, ClearedFirst, Bytes, BytesOf}
use Rattle.qcow2_batches.specs.Batch.{ran, memory, batch_phases, Allowed, left_batch}

-- how a call of a batch ends that may be stored in part: as one that is stopped
unfoldable pub cut_short : Plan → Result Ended ℕ
cut_short (refused k) = Err k
cut_short (units us) = Ok (Stopped 0)

-- and of one that is stored whole
unfoldable pub wholly : Plan → Result Ended ℕ
wholly (refused k) = Err k
wholly (units us) = Ok (Finished (length us))

-- the calls that are planned from the image s on find the plain disk `old`, each ends by itself as `how` has it, and the disk can then be `now`
unfoldable pub FedAll : (how : Plan → Result Ended ℕ) → (backing start s : List ℕ) (old : ℕ → ℕ) → List Request → (now : ℕ → ℕ) → Type 0
FedAll how backing start s old [] now = SameDisk (disk_size start) now old
FedAll how backing start s old (r ∷ rs) now =
    (next : ℕ → ℕ)
    × Fed (how (plan_of backing s r)) (stores_count (plan_units (plan_of backing s r))) (disk_size start) old (finished (cluster_size start) r old) next
    × FedAll how backing start (ran backing s r) next rs now

-- a batch on s, of which a units and the chosen ones were stored, has left t: each of its calls is old or new by itself, as a stopped one may be, and
-- stored whole it is what is in memory, and all are new
pub record BatchStep (backing start s : List ℕ) (old : ℕ → ℕ) (rs : List Request) (a : ℕ) (t : List ℕ) (now : ℕ → ℕ) : Type 0 where
  pub fed : FedAll cut_short backing start s old rs now
  pub agrees : Agrees backing start t now
  pub cleared : ClearedFirst s t
  pub whole : length (joined (batch_phases backing s rs)) ≤ a → (t ≡ memory backing s rs) × FedAll wholly backing start s old rs now

-- a batch of a series: what it asks, and how many units are stored for certain
pub record Batch : Type 0 where
  pub asks : List Request
  pub allowance : ℕ

-- the plain disk can be chosen after each batch of the series, whichever units the drive has stored at each cut
unfoldable pub BatchesHold : (backing start s : List ℕ) (disk : ℕ → ℕ) → List Batch → Type 0
BatchesHold backing start s disk [] = Unit {0}
BatchesHold backing start s disk (b ∷ bs) =
    Allowed backing s b.asks → (picks : List Bool)
    → (now : ℕ → ℕ)
    × BatchStep backing start s disk b.asks b.allowance (left_batch backing s b.asks b.allowance picks) now
    × BatchesHold backing start (left_batch backing s b.asks b.allowance picks) now bs

unfoldable pub AllBytesOf : List Request → Type 0
AllBytesOf [] = Unit {0}
AllBytesOf (r ∷ rs) = BytesOf r × AllBytesOf rs

unfoldable pub BatchBytes : List Batch → Type 0
BatchBytes [] = Unit {0}
BatchBytes (b ∷ bs) = AllBytesOf b.asks × BatchBytes bs

-- for every backing file, every first image that is sound or leaking and every series of batches, after each
abbrev pub BatchDemand3 : Type 0
BatchDemand3 =
    (backing s : List ℕ) → Bytes backing → Bytes s → Healthy (check backing s (2 * clusters s)) → (bs : List Batch) → BatchBytes bs
    → BatchesHold backing s s (guest_byte backing s 0) bs

-- whatever sectors of a phase a drive has stored, what it holds is what such a cut leaves
abbrev pub SectorsBatch : Type 0
SectorsBatch =
    (backing s : List ℕ) → Bytes backing → Bytes s → Healthy (check backing s (2 * clusters s)) → (rs : List Request) → AllBytesOf rs → Allowed backing s rs
    → (e : ℕ) (stored : ℕ → Bool) → (a : ℕ) × (picks : List Bool) × (drive_cut (batch_phases backing s rs) e stored s ≡ left_batch backing s rs a picks)

-- a store may bring the bytes of the image in memory to its file, phase by phase
abbrev pub BatchBrought : Type 0
BatchBrought =
    (backing s : List ℕ) → Bytes backing → Bytes s → Healthy (check backing s (2 * clusters s)) → (rs : List Request) → AllBytesOf rs → Allowed backing s rs
    → (e : ℕ) → apply_all (joined (take e (batch_phases backing s rs))) s ≡ brought (extents_in (take e (batch_phases backing s rs))) s (memory backing s rs)
