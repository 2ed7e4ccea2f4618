-- What a write or a discard is found to be before anything is stored: a refusal or units, with every place and value given.
-- Assumes nothing.
use Rattle.std.specs.Prelude.{ℕ, ◌+◌, ◌^◌, ◌≤◌, ◌≡◌, List, [], ◌∷◌, ◌++◌, length, if◌then◌else◌, Result, Ok, Err, Option, Some, None}
use Rattle.endian.specs.Big.{splice}
use Rattle.widths.specs.Width.{Inside, number}
use Rattle.units.specs.Units.{UnitStore, count, entry, fill, cluster}
use Rattle.units.specs.Plan.{Plan, refused, units}
use Rattle.qcow2_spec.specs.Entries.{new_entry}
use Rattle.qcow2_spec.specs.Store.{backing_cluster}
use Rattle.qcow2_put.specs.Links.{Linked, table_units}
use Rattle.qcow2_jobs.specs.declared.finding.Job.{Job}
use Rattle.qcow2_jobs.specs.declared.finding.Job.TheVariants.{Bytes, Marked, New, Table}
use Rattle.qcow2_jobs.specs.declared.releasing.Freed.{Freed}
use Rattle.qcow2_jobs.specs.declared.releasing.Freed.TheVariants.{Entry, Both}

-- ---- a write of d from byte o of a cluster of c bytes on. What lies underneath shows in a new cluster, but not where the entry has a zero mark
abbrev pub job_units : Job → (c o : ℕ) → (under d : List ℕ) → List UnitStore
job_units (Bytes p) c o under d = fill (p + o) d
job_units (Marked a p) c o under d = fill p (cluster c o d) ++ entry a (new_entry p) ∷ []
job_units (New m r n a p) c o under d = (count (2 ^ r) n 1 ∷ fill p (if m then cluster c o d else splice under o d)) ++ entry a (new_entry p) ∷ []
job_units (Table p) c o under d = table_units p c (splice under o d)

abbrev pub job_plan : Result Job ℕ → (c o : ℕ) → (under d : List ℕ) → Plan
job_plan (Err k) c o under d = refused k
job_plan (Ok j) c o under d = units (job_units j c o under d)

-- its places lie in an image of n bytes
abbrev pub JobIn : (n c : ℕ) → Job → Type 0
JobIn n c (Bytes p) = p + c ≤ n
JobIn n c (Marked a p) = (a + 8 ≤ n) × (p + c ≤ n)
JobIn n c (New m r k a p) = Inside r n k × ((a + 8 ≤ n) × (p + c ≤ n))
JobIn n c (Table p) = Linked n p c

abbrev pub DecisionIn : (n c : ℕ) → Result Job ℕ → Type 0
DecisionIn n c (Err k) = Unit {0}
DecisionIn n c (Ok j) = JobIn n c j

-- the counts that it sets are 0 in the image s, and the entry of a new table lies in it
abbrev pub JobFresh : (s : List ℕ) → (c : ℕ) → Job → Type 0
JobFresh s c (Bytes p) = Unit {0}
JobFresh s c (Marked a p) = Unit {0}
JobFresh s c (New m r n a p) = number (2 ^ r) s n ≡ 0
JobFresh s c (Table p) = ((number (2 ^ p.order) s p.tablecount ≡ 0) × (number (2 ^ p.order) s p.datacount ≡ 0)) × ((p.table ≤ p.slot) × (p.slot + 8 ≤ p.table + c))

abbrev pub DecisionFresh : (s : List ℕ) → (c : ℕ) → Result Job ℕ → Type 0
DecisionFresh s c (Err k) = Unit {0}
DecisionFresh s c (Ok j) = JobFresh s c j

-- the decision for a guest cluster of the image s is the plan, whatever the data and the bytes of the backing file, and lies in the image
pub record Decides (s : List ℕ) (c guest : ℕ) (x : Result Job ℕ) (plan : (backing : List ℕ) → (o : ℕ) → List ℕ → Plan) : Type 0 where
  pub same : (backing : List ℕ) (o : ℕ) (d : List ℕ) → job_plan x c o (backing_cluster backing s guest) d ≡ plan backing o d
  pub inside : DecisionIn (length s) c x
  pub fresh : DecisionFresh s c x

-- ---- a discard
abbrev pub freed_units : Freed → List UnitStore
freed_units (Entry a x) = entry a x ∷ []
freed_units (Both a x r k v) = entry a x ∷ count (2 ^ r) k v ∷ []

abbrev pub release_plan : Result (Option Freed) ℕ → Plan
release_plan (Err k) = refused k
release_plan (Ok None) = units []
release_plan (Ok (Some f)) = units (freed_units f)

abbrev pub FreedIn : (n : ℕ) → Freed → Type 0
FreedIn n (Entry a x) = a + 8 ≤ n
FreedIn n (Both a x r k v) = (a + 8 ≤ n) × Inside r n k

abbrev pub ReleaseIn : (n : ℕ) → Result (Option Freed) ℕ → Type 0
ReleaseIn n (Err k) = Unit {0}
ReleaseIn n (Ok None) = Unit {0}
ReleaseIn n (Ok (Some f)) = FreedIn n f

pub record Releases (n : ℕ) (r : Result (Option Freed) ℕ) (plan : Plan) : Type 0 where
  pub same : release_plan r ≡ plan
  pub inside : ReleaseIn n r
