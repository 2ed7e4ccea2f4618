-- What holds of an image that is made longer: paper 02, T-13. A statement beside demand 3, which goes on from the longer image.
-- Proved in proofs/Series.antt.
-- Assumes nothing.
use Rattle.std.specs.Prelude.{ℕ, ◌*◌, ◌≤◌, ◌<◌, ◌≡◌, ◌≢◌, Bool, false, List, [], ◌∷◌, length, take, Err, Ok, Result}
use Rattle.units.specs.Units.{UnitStore, byte, entry, count, apply_all}
use Rattle.units.specs.Plan.{plan_units, outcome}
use Rattle.units.specs.declared.Ended.{Ended as Ending}
use Rattle.units.specs.declared.Ended.TheVariants.{Finished, Stopped}
use Rattle.qcow2_spec.specs.Header.{clusters, block_at, header_number, judge_lent}
use Rattle.qcow2_spec.specs.Guest.{guest_byte, read_number, read_into}
use Rattle.qcow2_spec.specs.Check.{check}
use Rattle.qcow2_spec.specs.Rough.{after_rough}
use Rattle.qcow2_spec.specs.Flush.{drive_cut}
use Rattle.qcow2_spec.specs.declared.Verdict.TheVariants.{Refused as NotChecked}
use Rattle.qcow2_spec.specs.Series.{Healthy, Agrees, Call, left_rough, ends, ClearedFirst, RoughHolds, Bytes, AllBytes}
use Rattle.qcow2_longer.specs.Extend.{bad_old, old_blocks, new_place, extend_number, extend_plan}

-- ---- a series
-- one turn: a run of extending with an allowance, or another call. bytes: those of the fill at a rough cut that are stored too; none at a smooth one
pub data Turn : Type 0 where
  extends : (allowance : ℕ) → (bytes : List Bool) → Turn
  calls : Call → (bytes : List Bool) → Turn

-- the image that it leaves of t
unfoldable pub turned : (backing : List ℕ) → (old : ℕ) → List ℕ → Turn → List ℕ
turned backing old t (extends a bytes) = after_rough (extend_plan t old) a bytes t
turned backing old t (calls c bytes) = left_rough backing t c bytes

-- what is left to store on t
unfoldable pub rest : (old : ℕ) → List ℕ → List UnitStore
rest old t = plan_units (extend_plan t old)

-- ---- what holds after each turn
-- every other call on t is refused with 10 and changes nothing
pub record Waiting (backing t : List ℕ) : Type 0 where
  pub number : (lent : Bool) → judge_lent lent t ≡ 10
  pub reads : (k x len : ℕ) → read_number backing t k x len ≡ 10
  pub checks : (scratch : ℕ) → check backing t scratch ≡ NotChecked 10
  pub answers : (c : Call) → ends backing t c ≡ Err 10
  pub unchanged : (c : Call) (bytes : List Bool) → left_rough backing t c bytes ≡ t

-- t is sound or leaking; it has the bytes that one uncut run gives; every read, of the disk or of a snapshot, answers and gives what it did on the
-- earlier bytes alone; and demand 3 goes on from t
pub record Longer (backing s : List ℕ) (old : ℕ) (t : List ℕ) : Type 0 where
  pub healthy : Healthy (check backing t (2 * clusters t))
  pub uncut : t ≡ apply_all (rest old s) s
  pub numbers : (k x len : ℕ) → read_number backing t k x len ≡ read_number backing (take old s) k x len
  pub reads : (k x : ℕ) (out : List ℕ) → read_into backing t k x out ≡ read_into backing (take old s) k x out
  pub goes_on : (cs : List Call) → AllBytes cs → Agrees backing t t (guest_byte backing t 0) × RoughHolds backing t t (guest_byte backing t 0) cs

-- by what is left to store
unfoldable pub Stage : (backing s : List ℕ) → (old : ℕ) → (t : List ℕ) → List UnitStore → Type 0
Stage backing s old t [] = Longer backing s old t
Stage backing s old t (u ∷ us) = Waiting backing t

-- extending is not refused on t, and either waits for the rest or is done
pub record Taken (backing s : List ℕ) (old : ℕ) (t : List ℕ) : Type 0 where
  pub accepted : extend_number t old ≡ 0
  pub stage : Stage backing s old t (rest old t)

-- how a turn on t ended: a run that is finished leaves nothing to store, one that is stopped leaves some
unfoldable pub EndsWith : Result Ending ℕ → (left : List UnitStore) → Type 0
EndsWith (Ok (Finished u)) left = left ≡ []
EndsWith (Ok (Stopped u)) left = left ≢ []
EndsWith (Err k) left = ⊥

-- and nothing is stored while an autoclear bit stands
unfoldable pub Ended : (backing : List ℕ) → (old : ℕ) → (t : List ℕ) → Turn → Type 0
Ended backing old t (extends a bytes) =
    EndsWith (outcome (extend_plan t old) a) (rest old (turned backing old t (extends a bytes))) × ClearedFirst t (turned backing old t (extends a bytes))
Ended backing old t (calls c bytes) = Unit {0}

-- before the first turn and after each, up to the one after which nothing is left to store
unfoldable pub TurnsHold : (backing s : List ℕ) → (old : ℕ) → (t : List ℕ) → List Turn → Type 0
TurnsHold backing s old t [] = Taken backing s old t
TurnsHold backing s old t (r ∷ rs) = Taken backing s old t × (rest old t ≢ [] → Ended backing old t r × TurnsHold backing s old (turned backing old t r) rs)

-- the first `old` bytes alone are sound or leaking, and the header has none of the numbers 1 to 9 and 18 for all of s, whatever the other bytes are:
-- for every series of runs with that old length, each with any allowance, cut smoothly or roughly or not at all, and of other calls between them
abbrev pub Extending : Type 0
Extending =
    (backing s : List ℕ) (old : ℕ) → Bytes backing → Bytes s → old ≤ length s → Healthy (check backing (take old s) (2 * clusters (take old s)))
    → header_number s ≡ 0 → (turns : List Turn) → TurnsHold backing s old s turns

-- ---- another old length
-- two old lengths between whose blocks every entry names its new block have the same plan: a run can be finished without being told the first one
abbrev pub SamePlan : Type 0
SamePlan =
    (s : List ℕ) (old later : ℕ) → bad_old s old ≡ false → bad_old s later ≡ false → old_blocks s old ≤ old_blocks s later
    → ((i : ℕ) → old_blocks s old ≤ i → i < old_blocks s later → block_at s i ≡ new_place s i)
    → extend_plan s old ≡ extend_plan s later

-- ---- a drive that keeps no order
-- a unit before the epochs of those after it: a byte joins the bytes that follow it
unfoldable pub ahead : UnitStore → List (List UnitStore) → List (List UnitStore)
ahead (byte a v) ((byte b w ∷ us) ∷ es) = (byte a v ∷ byte b w ∷ us) ∷ es
ahead (byte a v) ((entry b w ∷ us) ∷ es) = (byte a v ∷ []) ∷ (entry b w ∷ us) ∷ es
ahead (byte a v) ((count x b w ∷ us) ∷ es) = (byte a v ∷ []) ∷ (count x b w ∷ us) ∷ es
ahead (byte a v) ([] ∷ es) = (byte a v ∷ []) ∷ [] ∷ es
ahead (byte a v) [] = (byte a v ∷ []) ∷ []
ahead (entry a v) es = (entry a v ∷ []) ∷ es
ahead (count w a v) es = (count w a v ∷ []) ∷ es

-- a list in epochs, with a flush between two: each fill, and each other unit
unfoldable pub by_fills : List UnitStore → List (List UnitStore)
by_fills [] = []
by_fills (u ∷ us) = ahead u (by_fills us)

-- whatever sectors of such an epoch a drive has stored, what it holds is what a rough cut leaves
abbrev pub SectorsRough : Type 0
SectorsRough =
    (s : List ℕ) (old e : ℕ) (stored : ℕ → Bool) → (a : ℕ) × (bytes : List Bool) × (drive_cut (by_fills (rest old s)) e stored s ≡ after_rough (extend_plan s old) a bytes s)
