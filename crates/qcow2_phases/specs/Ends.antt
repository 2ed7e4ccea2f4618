-- Whether rows that are held and those of one more call have a byte in phase 1 and in phase 3.
-- Assumes nothing.
use Rattle.std.specs.Prelude.{ℕ, ◌+◌, ◌*◌, ◌/◌, ◌≡◌, Bool, ◌||◌, List, ltb, length, take, drop, if◌then◌else◌}
use Rattle.units.specs.Units.{UnitStore}
use Rattle.qcow2_spec.specs.Steps.{Extent}
use Rattle.qcow2_batches.specs.Batch.{clash}
use Rattle.qcow2_batches.specs.Rows.{rows_in, new_rows, rows_after}
use Rattle.qcow2_batches.specs.declared.Planned.{Planned}
use Rattle.qcow2_batches.specs.declared.Planned.TheVariants.{Ends, Rows}

-- the bytes of all rows of phase p
abbrev pub in_rows : (p : ℕ) → List ℕ → List Extent
in_rows p rows = rows_in p (length rows / 4) rows

unfoldable pub torn : (held own : List ℕ) → Bool
torn held own = clash (in_rows 1 own) (in_rows 3 held) || clash (in_rows 1 held) (in_rows 3 own) || clash (in_rows 1 own) (in_rows 3 own)

-- the answer where k of the rows are held and n come after them, as many as there is room for
unfoldable pub plan_of : (rows : List ℕ) → (k n : ℕ) → Planned
plan_of rows k n = if ltb (length rows / 4) (k + n) || torn (take (4 * k) rows) (take (4 * n) (drop (4 * k) rows)) then Ends else Rows (k + n)

-- beside k of the rows `out` the n rows of a call's list on the image s were put, as many as there is room for: the rows are `now`
pub record Added (s : List ℕ) (us : List UnitStore) (k : ℕ) (out now : List ℕ) (n : ℕ) : Type 0 where
  pub many : length (new_rows s (rows_in 1 k out) us) ≡ 4 * n
  pub left : now ≡ rows_after k out (new_rows s (rows_in 1 k out) us)
