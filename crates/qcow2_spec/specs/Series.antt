-- Demand 3: what holds of every series of calls. Paper 01, "The plain disk and the series"; paper 02, T-05, T-11 and, for rough cuts, T-09; and on
-- a drive that keeps no order. All three are proved in proofs/Series.antt.
-- Assumes nothing.
use Rattle.std.specs.Prelude.{ℕ, suc, ◌+◌, ◌*◌, ◌≤◌, ◌<◌, ◌≡◌, ◌↔◌, ◌⊎◌, ◌≢◌, Bool, List, [], ◌∷◌, length, get_or, take, Err, Ok, Result}
use Rattle.choice.specs.Pick.{each}
use Rattle.units.specs.Units.{apply_all}
use Rattle.units.specs.Plan.{plan_units, stores_count, outcome, after}
use Rattle.units.specs.declared.Ended.{Ended}
use Rattle.units.specs.declared.Ended.TheVariants.{Finished, Stopped}
use Rattle.tally.specs.Tally.{occurrences}
use Rattle.qcow2_spec.specs.Header.{autoclear, cluster_size, clusters, disk_size, roots}
use Rattle.qcow2_spec.specs.Counts.{count_of}
use Rattle.qcow2_spec.specs.Guest.{guest_byte, reach, read_number, read_into}
use Rattle.qcow2_spec.specs.References.{references}
use Rattle.qcow2_spec.specs.Check.{check}
use Rattle.qcow2_spec.specs.declared.Verdict.{Verdict}
use Rattle.qcow2_spec.specs.declared.Verdict.TheVariants.{Sound, Leaks, BadL1, BadL2, Shared, Short, MarkL1, MarkL2, Refused as NotChecked}
use Rattle.qcow2_spec.specs.Disk.{Request, write, discard, repair, plan_of, finished, Fed}
use Rattle.qcow2_spec.specs.Rough.{after_rough}
use Rattle.qcow2_spec.specs.Flush.{epochs, joined, after_loose, drive_cut}
use Rattle.qcow2_spec.specs.Steps.{extents_in, brought}

-- sound or leaking
unfoldable pub Healthy : Verdict → Type 0
Healthy Sound = Unit {0}
Healthy (Leaks m) = Unit {0}
Healthy (BadL1 t i) = ⊥
Healthy (BadL2 t i j) = ⊥
Healthy (Shared k) = ⊥
Healthy (Short k) = ⊥
Healthy (MarkL1 i) = ⊥
Healthy (MarkL2 i j) = ⊥
Healthy (NotChecked k) = ⊥

-- a read of s, through the active L1 table or a snapshot's, that does not run past what it reaches is accepted; it gives the disk's bytes,
-- or those that the snapshot had in the series' first image; a check with scratch enough says sound or leaking;
-- the disk's size, the number of clusters and the image's length are still those of the series' first image
pub record Agrees (backing start s : List ℕ) (disk : ℕ → ℕ) : Type 0 where
  pub accepted : (t x len : ℕ) → t < roots start → x + len ≤ reach start t → read_number backing s t x len ≡ 0
  pub reads : (x : ℕ) (out : List ℕ) → x + length out ≤ disk_size start → read_into backing s 0 x out ≡ each disk x (length out)
  pub kept : (k x : ℕ) (out : List ℕ) → read_into backing s (suc k) x out ≡ read_into backing start (suc k) x out
  pub checks : (scratch : ℕ) → 2 * clusters start ≤ scratch → Healthy (check backing s scratch)
  pub same_size : disk_size s ≡ disk_size start
  pub same-clusters : clusters s ≡ clusters start
  pub same_length : length s ≡ length start

-- a check says sound, and a stored count is 0 exactly where the cluster has no reference
pub record Mended (backing start s : List ℕ) : Type 0 where
  pub sound : (scratch : ℕ) → 2 * clusters start ≤ scratch → check backing s scratch ≡ Sound
  pub free : (k : ℕ) → k < clusters start → (count_of s k ≡ 0) ↔ (occurrences k (references s) ≡ 0)

-- s is mended if the call was a repair that finished
unfoldable pub MendedBy : (backing : List ℕ) → Request → Result Ended ℕ → (start s : List ℕ) → Type 0
MendedBy backing (write x d) o start s = Unit {0}
MendedBy backing (discard g) o start s = Unit {0}
MendedBy backing (repair n) (Err k) start s = Unit {0}
MendedBy backing (repair n) (Ok (Stopped u)) start s = Unit {0}
MendedBy backing (repair n) (Ok (Finished u)) start s = Mended backing start s

-- a call of a series: what it asks, and its allowance of units
pub record Call : Type 0 where
  pub asks : Request
  pub allowance : ℕ

-- the image that a call on s leaves
unfoldable pub left : (backing s : List ℕ) → Call → List ℕ
left backing s c = after (plan_of backing s c.asks) c.allowance s

-- the same where the power fails inside a fill after these units: the chosen bytes of the fill are stored too
unfoldable pub left_rough : (backing s : List ℕ) → Call → List Bool → List ℕ
left_rough backing s c bytes = after_rough (plan_of backing s c.asks) c.allowance bytes s

-- the same on a drive that keeps no order between two flushes: of the units up to the next flush those chosen are stored too
unfoldable pub left_loose : (backing s : List ℕ) → Call → List Bool → List ℕ
left_loose backing s c picks = after_loose (plan_of backing s c.asks) c.allowance picks s

-- how a call on s ends
unfoldable pub ends : (backing s : List ℕ) → Call → Result Ended ℕ
ends backing s c = outcome (plan_of backing s c.asks) c.allowance

-- a call on s finds the plain disk `old` and leaves the image t, and the plain disk can then be `now`
pub record Step (backing start s : List ℕ) (old : ℕ → ℕ) (c : Call) (t : List ℕ) (now : ℕ → ℕ) : Type 0 where
  pub fed : Fed (ends backing s c) (stores_count (plan_units (plan_of backing s c.asks))) (disk_size start) old (finished (cluster_size start) c.asks old) now
  pub agrees : Agrees backing start t now
  pub mended : MendedBy backing c.asks (ends backing s c) start t

-- the plain disk can be chosen after each call of the series
unfoldable pub Holds : (backing start s : List ℕ) (disk : ℕ → ℕ) → List Call → Type 0
Holds backing start s disk [] = Unit {0}
Holds backing start s disk (c ∷ cs) = (now : ℕ → ℕ) × Step backing start s disk c (left backing s c) now × Holds backing start (left backing s c) now cs

-- the same for rough cuts, whichever bytes the drive has stored at each
unfoldable pub RoughHolds : (backing start s : List ℕ) (disk : ℕ → ℕ) → List Call → Type 0
RoughHolds backing start s disk [] = Unit {0}
RoughHolds backing start s disk (c ∷ cs) = (bytes : List Bool) → (now : ℕ → ℕ) × Step backing start s disk c (left_rough backing s c bytes) now × RoughHolds backing start (left_rough backing s c bytes) now cs

-- a call on s has left t: nothing is stored while an autoclear bit stands
unfoldable pub ClearedFirst : (s t : List ℕ) → Type 0
ClearedFirst s t = autoclear s ≢ 0 → (t ≡ s) ⊎ (autoclear t ≡ 0)

-- the same for cuts with no order, whichever units the drive has stored at each
unfoldable pub LooseHolds : (backing start s : List ℕ) (disk : ℕ → ℕ) → List Call → Type 0
LooseHolds backing start s disk [] = Unit {0}
LooseHolds backing start s disk (c ∷ cs) = (picks : List Bool) → (now : ℕ → ℕ) × Step backing start s disk c (left_loose backing s c picks) now × ClearedFirst s (left_loose backing s c picks) × LooseHolds backing start (left_loose backing s c picks) now cs

-- every number of the list is a byte
abbrev pub Bytes : List ℕ → Type 0
Bytes s = (i : ℕ) → get_or s i 0 < 256

unfoldable pub BytesOf : Request → Type 0
BytesOf (write x d) = Bytes d
BytesOf (discard g) = Unit {0}
BytesOf (repair n) = Unit {0}

unfoldable pub AllBytes : List Call → Type 0
AllBytes [] = Unit {0}
AllBytes (c ∷ cs) = BytesOf c.asks × AllBytes cs

-- for every backing file, whose bytes each call, reading and check is lent, every first image that is sound or leaking and every series
-- of calls, before the first call and after each
abbrev pub Demand3 : Type 0
Demand3 =
    (backing s : List ℕ) → Bytes backing → Bytes s → Healthy (check backing s (2 * clusters s)) → (calls : List Call) → AllBytes calls
    → Agrees backing s s (guest_byte backing s 0) × Holds backing s s (guest_byte backing s 0) calls

-- the same for every series of calls that are cut smoothly, roughly or not at all
abbrev pub RoughDemand3 : Type 0
RoughDemand3 =
    (backing s : List ℕ) → Bytes backing → Bytes s → Healthy (check backing s (2 * clusters s)) → (calls : List Call) → AllBytes calls
    → Agrees backing s s (guest_byte backing s 0) × RoughHolds backing s s (guest_byte backing s 0) calls

-- the same for every series of calls on a drive that keeps no order between two flushes
abbrev pub LooseDemand3 : Type 0
LooseDemand3 =
    (backing s : List ℕ) → Bytes backing → Bytes s → Healthy (check backing s (2 * clusters s)) → (calls : List Call) → AllBytes calls
    → Agrees backing s s (guest_byte backing s 0) × LooseHolds backing s s (guest_byte backing s 0) calls

-- whatever sectors of an epoch a drive has stored, what it holds is what a cut with no order leaves: no unit of a list lies over a sector's end
abbrev pub SectorsLoose : Type 0
SectorsLoose =
    (backing s : List ℕ) → Bytes backing → Bytes s → Healthy (check backing s (2 * clusters s)) → (r : Request) → BytesOf r → (e : ℕ) (stored : ℕ → Bool)
    → (a : ℕ)
    × (picks : List Bool)
    × (drive_cut (epochs s (plan_units (plan_of backing s r))) e stored s ≡ left_loose backing s (record { asks = r; allowance = a }) picks)

-- a store may bring the finished image's bytes to its file, epoch by epoch: no byte is stored in two epochs
abbrev pub ExtentsBrought : Type 0
ExtentsBrought =
    (backing s : List ℕ) → Bytes backing → Bytes s → Healthy (check backing s (2 * clusters s)) → (r : Request) → BytesOf r → (e : ℕ)
    → apply_all (joined (take e (epochs s (plan_units (plan_of backing s r))))) s
    ≡ brought (extents_in (take e (epochs s (plan_units (plan_of backing s r))))) s (apply_all (plan_units (plan_of backing s r)) s)
