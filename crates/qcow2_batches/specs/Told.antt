-- What a store that plans requests call by call is told: they may be stored together, and its rows are the bytes to bring. Proved in proofs/Rows.antt.
-- Assumes nothing.
use Rattle.std.specs.Prelude.{ℕ, zero, suc, ◌*◌, ◌≤◌, ◌<◌, ◌≡◌, List, [], ◌∷◌, ◌++◌, take, Ok}
use Rattle.units.specs.Units.{apply_all}
use Rattle.qcow2_spec.specs.Header.{clusters}
use Rattle.qcow2_spec.specs.Check.{check}
use Rattle.qcow2_spec.specs.Disk.{Request, plan_of}
use Rattle.qcow2_spec.specs.Flush.{joined}
use Rattle.qcow2_spec.specs.Steps.{Extent, extents, covers, brought}
use Rattle.qcow2_spec.specs.Series.{Healthy, Bytes}
use Rattle.qcow2_batches.specs.Batch.{ran, memory, batch_phase, batch_phases, Allowed}
use Rattle.qcow2_batches.specs.Rows.{rows_in, answered, rows_left}
use Rattle.qcow2_batches.specs.Series.{AllBytesOf}
use Rattle.qcow2_batches.specs.declared.Planned.TheVariants.{Rows}

-- the requests, planned one after another from the image s on where k of the rows are held, are each told their rows, and leave `now`, of which n are held
unfoldable pub Told : (backing s : List ℕ) → (k : ℕ) → (rows : List ℕ) → List Request → (n : ℕ) → (now : List ℕ) → Type 0
Told backing s k rows [] n now = (n ≡ k) × (now ≡ rows)
Told backing s k rows (r ∷ rs) n now =
    (j : ℕ) × (answered s (plan_of backing s r) k rows ≡ Ok (Rows j)) × Told backing (ran backing s r) j (rows_left s (plan_of backing s r) k rows) rs n now

-- such requests may be stored together, and the rows of each phase are the bytes of the batch's units there
abbrev pub RowsBatch : Type 0
RowsBatch =
    (backing s rows : List ℕ) (rs : List Request) (n : ℕ) (now : List ℕ) → Told backing s 0 rows rs n now
    → Allowed backing s rs × ((p x : ℕ) → p < 4 → covers (rows_in p n now) x ≡ covers (extents (batch_phase p backing s [] rs)) x)

-- the bytes of the first k rows that are of a phase below e
unfoldable pub rows_below : (e k : ℕ) → (rows : List ℕ) → List Extent
rows_below zero k rows = []
rows_below (suc e) k rows = rows_below e k rows ++ rows_in e k rows

-- so a store that brings the bytes of its rows from the image in memory, phase by phase, has stored the batch's phases so far
abbrev pub StoreBrought : Type 0
StoreBrought =
    (backing s : List ℕ) → Bytes backing → Bytes s → Healthy (check backing s (2 * clusters s)) → (rs : List Request) → AllBytesOf rs
    → (rows : List ℕ) (n : ℕ) (now : List ℕ) → Told backing s 0 rows rs n now
    → (e : ℕ) → e ≤ 4 → brought (rows_below e n now) s (memory backing s rs) ≡ apply_all (joined (take e (batch_phases backing s rs))) s
