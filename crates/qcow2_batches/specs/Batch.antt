-- Several calls, planned one after another in memory and stored together in phases, with a flush between two.
-- Assumes nothing.
use Rattle.std.specs.Prelude.{ℕ, zero, suc, ◌≡◌, Bool, false, ◌||◌, List, [], ◌∷◌, ◌++◌, ltb, eqb, length, take, drop, if◌then◌else◌}
use Rattle.widths.specs.Width.{number}
use Rattle.units.specs.Units.{UnitStore, byte, entry, count, apply_all}
use Rattle.units.specs.Plan.{plan_units}
use Rattle.qcow2_spec.specs.Store.{clear_units}
use Rattle.qcow2_spec.specs.Disk.{Request, plan_of}
use Rattle.qcow2_spec.specs.Flush.{loosely}
use Rattle.qcow2_spec.specs.Steps.{Extent, join, extents, covers}

-- ---- a call's units by phase
-- one of the len bytes from at on lies in one of the extents
unfoldable pub meets : List Extent → (at len : ℕ) → Bool
meets ys at zero = false
meets ys at (suc len) = covers ys at || meets ys (suc at) len

-- the phase of a unit of a call on the image s; ready: the bytes that the batch has in phase 1 up to there. 1: bytes, counts that rise, and entries
-- in bytes that are new in the batch; 2: the other entries; 3: the other counts, which fall
unfoldable pub phase_of : (s : List ℕ) → (ready : List Extent) → UnitStore → ℕ
phase_of s ready (byte a v) = 1
phase_of s ready (entry a v) = if meets ready a 8 then 1 else 2
phase_of s ready (count w a v) = if ltb (number w s a) v then 1 else 3

-- the bytes of phase 1 once the unit is planned
unfoldable pub grown : (s : List ℕ) → (ready : List Extent) → UnitStore → List Extent
grown s ready u = if eqb (phase_of s ready u) 1 then join u ready else ready

-- the units of phase p of a list, in its order
unfoldable pub in_phase : (p : ℕ) → (s : List ℕ) → (ready : List Extent) → List UnitStore → List UnitStore
in_phase p s ready [] = []
in_phase p s ready (u ∷ us) = (if eqb (phase_of s ready u) p then u ∷ [] else []) ++ in_phase p s (grown s ready u) us

-- the same of a call's list on the image s, of which the clearing unit is phase 0
unfoldable pub call_phase : (p : ℕ) → (s : List ℕ) → (ready : List Extent) → List UnitStore → List UnitStore
call_phase zero s ready us = take (length (clear_units s)) us
call_phase (suc p) s ready us = in_phase (suc p) s ready (drop (length (clear_units s)) us)

-- the bytes of phase 1 once the call is planned
unfoldable pub ready_after : (s : List ℕ) → (ready : List Extent) → List UnitStore → List Extent
ready_after s ready us = extents (call_phase 1 s ready us) ++ ready

-- ---- a batch
-- the image in memory once a request is planned on s: the call is run to its end there
unfoldable pub ran : (backing s : List ℕ) → Request → List ℕ
ran backing s r = apply_all (plan_units (plan_of backing s r)) s

-- and once all of a batch are
unfoldable pub memory : (backing s : List ℕ) → List Request → List ℕ
memory backing s [] = s
memory backing s (r ∷ rs) = memory backing (ran backing s r) rs

-- the units of phase p of a batch that goes on from s with these requests
unfoldable pub batch_phase : (p : ℕ) → (backing s : List ℕ) → (ready : List Extent) → List Request → List UnitStore
batch_phase p backing s ready [] = []
batch_phase p backing s ready (r ∷ rs) =
    call_phase p s ready (plan_units (plan_of backing s r)) ++ batch_phase p backing (ran backing s r) (ready_after s ready (plan_units (plan_of backing s r))) rs

-- a batch on the image s in its phases, with a flush between two
unfoldable pub batch_phases : (backing s : List ℕ) → List Request → List (List UnitStore)
batch_phases backing s rs = batch_phase 0 backing s [] rs ∷ batch_phase 1 backing s [] rs ∷ batch_phase 2 backing s [] rs ∷ batch_phase 3 backing s [] rs ∷ []

-- some of the one extents meet some of the others
unfoldable pub clash : (ys zs : List Extent) → Bool
clash ys [] = false
clash ys (z ∷ zs) = meets ys z.at z.len || clash ys zs

-- a batch may be stored together if no byte is of phase 1 and of phase 3: no call takes a cluster that the batch has freed, nor frees one that it has taken
unfoldable pub Allowed : (backing s : List ℕ) → List Request → Type 0
Allowed backing s rs = clash (extents (batch_phase 1 backing s [] rs)) (extents (batch_phase 3 backing s [] rs)) ≡ false

-- what is left where the power fails after a units and of those up to the next flush the chosen ones are stored too
unfoldable pub left_batch : (backing s : List ℕ) → List Request → (a : ℕ) → (picks : List Bool) → List ℕ
left_batch backing s rs a picks = apply_all (loosely (batch_phases backing s rs) a picks) s
