-- What a store that plans calls into a batch is told, row by row: four numbers each, where the bytes begin, how many they are, of how many units, and
-- their phase. The caller holds the rows of the calls before; each call adds its own.
-- Assumes nothing.
use Rattle.std.specs.Prelude.{ℕ, zero, suc, ◌+◌, ◌*◌, ◌/◌, ◌≡◌, Bool, ◌&&◌, ◌||◌, List, [], ◌∷◌, ◌++◌, leb, ltb, eqb, length, get_or, take, drop, if◌then◌else◌, Err, Ok, Result}
use Rattle.units.specs.Units.{UnitStore}
use Rattle.units.specs.Plan.{Plan, refused, units}
use Rattle.qcow2_spec.specs.Steps.{Extent, whole, extents, step_rows, rows_put}
use Rattle.qcow2_batches.specs.Batch.{call_phase, clash}
use Rattle.qcow2_batches.specs.declared.Planned.{Planned}
use Rattle.qcow2_batches.specs.declared.Planned.TheVariants.{Ends, Rows}

-- the bytes of those of the first k rows, as far as there are any, that are of phase p
unfoldable pub rows_in : (p k : ℕ) → (rows : List ℕ) → List Extent
rows_in p zero rows = []
rows_in p (suc k) rows = (if leb 4 (length rows) && eqb (get_or rows 3 0) p then whole (get_or rows 0 0) (get_or rows 1 0) ∷ [] else []) ++ rows_in p k (drop 4 rows)

-- the rows of a call's list on the image s, phase by phase; ready: the bytes that the batch has in phase 1
unfoldable pub new_rows : (s : List ℕ) → (ready : List Extent) → List UnitStore → List ℕ
new_rows s ready us = step_rows 0 (call_phase 0 s ready us ∷ call_phase 1 s ready us ∷ call_phase 2 s ready us ∷ call_phase 3 s ready us ∷ [])

-- beside k held rows there is no room for the call's own, or a byte would be of phase 1 and of phase 3
unfoldable pub must_end : (s : List ℕ) → List UnitStore → (k : ℕ) → (rows : List ℕ) → Bool
must_end s us k rows =
    let ready = rows_in 1 k rows in
    ltb (length rows / 4) (k + length (new_rows s ready us) / 4)
    || clash (extents (call_phase 1 s ready us) ++ ready) (extents (call_phase 3 s ready us))
    || clash (extents (call_phase 1 s ready us)) (rows_in 3 k rows)

-- the answer to a call of plan p on the image s, of which k rows are held
unfoldable pub answered : (s : List ℕ) → Plan → (k : ℕ) → (rows : List ℕ) → Result Planned ℕ
answered s (refused n) k rows = Err n
answered s (units us) k rows = if must_end s us k rows then Ok Ends else Ok (Rows (k + length (new_rows s (rows_in 1 k rows) us) / 4))

-- after the held rows the new ones are put, as many as there is room for
unfoldable pub rows_after : (k : ℕ) → (rows new : List ℕ) → List ℕ
rows_after k rows new = take (4 * k) rows ++ rows_put (drop (4 * k) rows) new

-- the rows that are left; a refused call has none
unfoldable pub rows_left : (s : List ℕ) → Plan → (k : ℕ) → (rows : List ℕ) → List ℕ
rows_left s (refused n) k rows = rows
rows_left s (units us) k rows = rows_after k rows (new_rows s (rows_in 1 k rows) us)

-- a call of plan p on the image s, planned where k of the rows `out` are held, answered r and left the rows `now`
pub record Planning (s : List ℕ) (p : Plan) (k : ℕ) (out : List ℕ) (r : Result Planned ℕ) (now : List ℕ) : Type 0 where
  pub answer : r ≡ answered s p k out
  pub left : now ≡ rows_left s p k out
