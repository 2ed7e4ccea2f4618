-- The phase of a table entry: 1 where the batch has new bytes of it, else 2.
-- Assumes nothing.
use Rattle.std.specs.Prelude.{ℕ, ◌/◌, ◌^◌, List, ◌∷◌, if◌then◌else◌}
use Rattle.widths.specs.Width.{span}
use Rattle.qcow2_spec.specs.Steps.{Extent, whole}
use Rattle.qcow2_put.specs.declared.linking.Places.{Places}
use Rattle.qcow2_jobs.specs.declared.finding.Job.{Job}
use Rattle.qcow2_jobs.specs.declared.finding.Job.TheVariants.{Bytes, Marked, New, Table}
use Rattle.qcow2_jobs.specs.declared.releasing.Freed.{Freed}
use Rattle.qcow2_jobs.specs.declared.releasing.Freed.TheVariants.{Entry, Both}
use Rattle.qcow2_batches.specs.Batch.{meets}

unfoldable pub shown_in : (ready : List Extent) → (at : ℕ) → ℕ
shown_in ready at = if meets ready at 8 then 1 else 2

-- the bytes of a new cluster of c bytes and its count, before those that were ready
abbrev pub with_new : (r n p c : ℕ) → (ready : List Extent) → List Extent
with_new r n p c ready = whole (n / 8) (span (2 ^ r)) ∷ whole p c ∷ ready

-- those of a new table too
abbrev pub with_table : Places → (c : ℕ) → (ready : List Extent) → List Extent
with_table p c ready = whole p.table c ∷ whole (p.tablecount / 8) (span (2 ^ p.order)) ∷ with_new p.order p.datacount p.place c ready

-- the phase of a write's last entry
abbrev pub last_phase : (ready : List Extent) → Job → (c : ℕ) → ℕ
last_phase ready (Bytes p) c = 2
last_phase ready (Marked a p) c = shown_in (whole p c ∷ ready) a
last_phase ready (New m r n a p) c = shown_in (with_new r n p c ready) a
last_phase ready (Table p) c = shown_in (with_table p c ready) p.link

-- and that of a discard's entry
abbrev pub freed_phase : (ready : List Extent) → Freed → ℕ
freed_phase ready (Entry a x) = shown_in ready a
freed_phase ready (Both a x r k v) = shown_in ready a
