-- The rows of a write's and a discard's lists. Assumes nothing.
use Rattle.std.specs.Prelude.{if◌then◌else◌}
use Prim.Native.Nat.{ℕ, suc, ◌+◌, ◌^◌, ◌≤◌, ◌<◌}
use native.Mathlib.Omega.{arith}
use mathlib.Core.Path.{◌≡◌, refl, ap, ◌∙◌}
use mathlib.Core.Bool.{Bool, true, false}
use mathlib.Core.List.{List, [], ◌∷◌, ◌++◌, append-nil}
use lib.ListN.{length, replicate, length-replicate}
use Rattle.endian.specs.Big.{splice}
use Rattle.endian.proofs.Laws.{length-splice}
use Rattle.units.specs.Units.{UnitStore, entry, count, fill, cluster}
use Rattle.units.proofs.Laws.{length-cluster}
use Rattle.qcow2_spec.specs.Entries.{new_entry}
use Rattle.qcow2_spec.specs.Flush.{stores_entry, halves}
use Rattle.qcow2_spec.specs.Steps.{filled, join, extents, rows_of, step_rows}
use Rattle.qcow2_spec.proofs.Flush.{halves-entry, halves-table, halves-drop, halves-none}
use Rattle.qcow2_put.specs.declared.linking.Places.{Places}
use Rattle.qcow2_put.specs.Links.{table_units}
use Rattle.qcow2_jobs.specs.Jobs.{job_units, freed_units}
use Rattle.qcow2_jobs.specs.declared.finding.Job.{Job}
use Rattle.qcow2_jobs.specs.declared.finding.Job.TheVariants.{Bytes, Marked, New, Table}
use Rattle.qcow2_jobs.specs.declared.releasing.Freed.{Freed}
use Rattle.qcow2_jobs.specs.declared.releasing.Freed.TheVariants.{Entry, Both}
use Rattle.qcow2_rows.specs.Own.{count_row, entry_row, fill_row, table_rows, job_rows, freed_rows}
use Rattle.qcow2_rows.proofs.Extents.{Apart, none, next, extents-fill}

-- ---- a fill of n bytes, before units that no byte joins
pub extents-filled : (a n : ℕ) (bs : List ℕ) → length bs ≡ n → 0 < n → (us : List UnitStore) → Apart (extents us) → extents (fill a bs ++ us) ≡ filled a n ∷ extents us
extents-filled a n bs e h us w = extents-fill a bs (omega arith) us w ∙ ap (λ (m : ℕ). filled a m ∷ extents us) e

-- ---- a write of bytes alone
no_entry : (a : ℕ) (d : List ℕ) → stores_entry (fill a d) ≡ false
unfolding stores_entry fill
no_entry a [] = refl
no_entry a (b ∷ d) = no_entry (suc a) d

rows-bytes : (a n : ℕ) (d : List ℕ) → length d ≡ n → 0 < n → step_rows 1 (halves (fill a d)) ≡ fill_row a n 1
unfolding step_rows rows_of extents
rows-bytes a n d e h = rw (halves-none (fill a d) (no_entry a d), ← append-nil (fill a d), extents-filled a n d e h [] none)

-- ---- a whole cluster and its entry; a count before them
module _ (at p v c : ℕ) (bs : List ℕ) (e : length bs ≡ c) (h : 0 < c) where
  rows-marked : step_rows 1 (halves (fill p bs ++ entry at v ∷ [])) ≡ fill_row p c 1 ++ entry_row at 2
  unfolding step_rows rows_of extents join
  rows-marked = rw (halves-entry (fill p bs) at v, ← append-nil (fill p bs), extents-filled p c bs e h [] none)

  rows_new : (o n x : ℕ) → step_rows 1 (halves ((count (2 ^ o) n x ∷ fill p bs) ++ entry at v ∷ [])) ≡ count_row o n 1 ++ fill_row p c 1 ++ entry_row at 2
  unfolding step_rows rows_of extents join
  rows_new o n x = rw (halves-entry (count (2 ^ o) n x ∷ fill p bs) at v, ← append-nil (fill p bs), extents-filled p c bs e h [] none)

-- ---- a table too
rows-table : (p : Places) (c : ℕ) (bs : List ℕ) → length bs ≡ c → 0 < c → step_rows 1 (halves (table_units p c bs)) ≡ table_rows 2 p c
unfolding table_units step_rows rows_of extents join
rows-table p c bs f h =
    let w : UnitStore = entry p.slot (new_entry p.place) in
    let k : UnitStore = count (2 ^ p.order) p.datacount 1 in
    let z : List ℕ = replicate c 0 in
    let y = extents-filled p.place c bs f h (w ∷ []) next in
    let x = extents-filled p.table c z (length-replicate c 0) h (k ∷ fill p.place bs ++ w ∷ []) next in
    rw (halves-table (count (2 ^ p.order) p.tablecount 1 ∷ fill p.table z) (k ∷ fill p.place bs) w p.link (new_entry p.table), x, y)

-- what a new cluster holds
module _ (c o : ℕ) (under d : List ℕ) (e : length under ≡ c) (h : o + length d ≤ c) where
  pub length-under : length (splice under o d) ≡ c
  length-under = length-splice under o d (omega arith) ∙ e

  pub length_new : (m : Bool) → length (if m then cluster c o d else splice under o d) ≡ c
  length_new true = length-cluster c o d h
  length_new false = length-under

-- ---- a discard
rows-entry : (at v : ℕ) → step_rows 1 (halves (entry at v ∷ [])) ≡ entry_row at 2
unfolding step_rows rows_of extents join
rows-entry at v = rw (halves-entry [] at v)

rows_both : (at v o n x : ℕ) → step_rows 1 (halves (entry at v ∷ count (2 ^ o) n x ∷ [])) ≡ entry_row at 1 ++ count_row o n 2
unfolding step_rows rows_of extents join
rows_both at v o n x = rw (halves-drop at v (2 ^ o) n x)

-- ---- by what was found, in two epochs
pub rows_job : (job : Job) (c o len : ℕ) (under d : List ℕ) → length under ≡ c → length d ≡ len → o + len ≤ c → 0 < len → step_rows 1 (halves (job_units job c o under d)) ≡ job_rows 2 job c o len
rows_job (Bytes p) c o len u d f e h z = rows-bytes (p + o) len d e z
rows_job (Marked a p) c o len u d f e h z = rows-marked a p (new_entry p) c (cluster c o d) (length-cluster c o d (omega arith)) (omega arith)
rows_job (New m r n a p) c o len u d f e h z =
    rows_new a p (new_entry p) c (if m then cluster c o d else splice u o d) (length_new c o u d f (omega arith) m) (omega arith) r n 1
rows_job (Table p) c o len u d f e h z = rows-table p c (splice u o d) (length-under c o u d f (omega arith)) (omega arith)

pub rows-freed : (f : Freed) → step_rows 1 (halves (freed_units f)) ≡ freed_rows 2 1 2 f
rows-freed (Entry a x) = rows-entry a x
rows-freed (Both a x r k v) = rows_both a x r k v
