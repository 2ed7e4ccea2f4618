-- Batches on the bench image, proved by computation.
-- Assumes nothing.
use Prim.Native.Nat.{ℕ}
use mathlib.Core.Path.{◌≡◌, refl, ap, subst, fun_ext, ◌∙◌}
use mathlib.Core.Bool.{false, true≢false}
use mathlib.Core.List.{List, [], ◌∷◌, ◌++◌}
use lib.ListN.{length}
use lib.Seq.{take-length}
use Rattle.units.specs.Units.{UnitStore, apply_all}
use Rattle.units.specs.Plan.{Plan, plan_units, after}
use Rattle.qcow2_spec.specs.Disk.{Request, plan_of}
use Rattle.qcow2_spec.specs.Steps.{Extent, join, extents, covers, rows_of, step_rows, rows_put}
use Rattle.qcow2_batches.specs.Batch.{meets, phase_of, grown, in_phase, call_phase, ready_after, ran, memory, batch_phase, batch_phases, clash, Allowed}
use Rattle.qcow2_batches.specs.Rows.{rows_in, new_rows, must_end, answered, rows_after, rows_left}
use Rattle.qcow2_batches.specs.Told.{Told}
use Rattle.bench_table.proofs.Quick.{quick, quick_ok}
use Rattle.bench_table.proofs.Table.{computing}
use Rattle.bench_batches.specs.Batches.{linked, tabled, unclear, narrow, Phases, Answers, Left}

-- ---- a batch whose calls are run quickly in memory
abbrev quick_ran : (backing s : List ℕ) → Request → List ℕ
quick_ran backing s r = quick (plan_of backing s r) (length (plan_units (plan_of backing s r))) s

quick_ran_lem : (backing s : List ℕ) (r : Request) → quick_ran backing s r ≡ ran backing s r
unfolding after ran
quick_ran_lem backing s r =
    let p = plan_of backing s r in
    quick_ok p (length (plan_units p)) s ∙ ap (λ (us : List UnitStore). apply_all us s) (take-length (plan_units p))

abbrev quick_phase : (p : ℕ) → (backing s : List ℕ) → (ready : List Extent) → List Request → List UnitStore
quick_phase p backing s ready [] = []
quick_phase p backing s ready (r ∷ rs) =
    call_phase p s ready (plan_units (plan_of backing s r)) ++ quick_phase p backing (quick_ran backing s r) (ready_after s ready (plan_units (plan_of backing s r))) rs

quick_phase_lem : (p : ℕ) (backing s : List ℕ) (ready : List Extent) (rs : List Request) → quick_phase p backing s ready rs ≡ batch_phase p backing s ready rs
unfolding batch_phase
quick_phase_lem p backing s ready [] = refl
quick_phase_lem p backing s ready (r ∷ rs) =
    let us = plan_units (plan_of backing s r) in
    let next = ready_after s ready us in
    ap (λ (vs : List UnitStore). call_phase p s ready us ++ vs)
    (quick_phase_lem p backing (quick_ran backing s r) next rs ∙ ap (λ (t : List ℕ). batch_phase p backing t next rs) (quick_ran_lem backing s r))

-- ---- the table
-- what a batch computes with, beside the bench table's
unfoldable batching : Unit {0}
unfolding computing plan_of join extents covers rows_of step_rows rows_put meets phase_of grown in_phase call_phase ready_after ran memory clash rows_in new_rows must_end answered rows_after rows_left Told linked tabled unclear narrow
batching = tt

-- the table's lines on batches by a way of storing and of giving the units of a phase
abbrev By : (Plan → ℕ → List ℕ → List ℕ) → ((p : ℕ) → (backing s : List ℕ) → List Extent → List Request → List UnitStore) → Type 0
By store phase =
    Phases store (λ b s rs. phase 0 b s [] rs ∷ phase 1 b s [] rs ∷ phase 2 b s [] rs ∷ phase 3 b s [] rs ∷ [])
    (λ b s rs. clash (extents (phase 1 b s [] rs)) (extents (phase 3 b s [] rs)) ≡ false)

quick_phases : By quick quick_phase
unfolding batching
quick_phases = record { tabled-is = refl; new_table = refl; new_table_may = refl; old_table = refl; old_table_may = refl; freed = refl; freed_may = refl; freed-last = refl; taken-again = true≢false; freed-again = true≢false; one_byte = true≢false; filled = refl; clears = refl; none = refl }

pub phases : Phases after batch_phases Allowed
unfolding batch_phases Allowed
phases =
    subst (λ (f : Plan → ℕ → List ℕ → List ℕ). By f batch_phase) (fun_ext (λ p. fun_ext (λ a. fun_ext (λ s. quick_ok p a s))))
    (subst (By quick) (fun_ext (λ p. fun_ext (λ b. fun_ext (λ s. fun_ext (λ ready. fun_ext (λ rs. quick_phase_lem p b s ready rs)))))) quick_phases)

pub answers : Answers
unfolding batching
answers = record { clearing = refl; new_table = refl; no_room = refl; new_cluster = refl; discarded = refl; in_place = refl; no_bytes = refl; past_end = refl; held = refl; held-room = refl; rises_falls = refl; falls_falls = refl; falls_rises = refl; beside = refl; not-held = refl }

pub left : Left
unfolding batching
left = record { new_cluster = refl; ready = refl; one-fits = refl; past_end = refl; both = (2, refl, (4, refl, (refl, refl))); in_memory = refl }
