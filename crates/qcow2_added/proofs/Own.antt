-- The rows of a call's own list, phase by phase. Assumes nothing.
use Rattle.std.specs.Prelude.{if◌then◌else◌}
use Prim.Native.Nat.{ℕ, zero, suc, ◌+◌, ◌/◌, ◌^◌, ◌≤◌, ◌<◌}
use native.Mathlib.Omega.{arith}
use mathlib.Core.Path.{◌≡◌, refl, sym, ap, ◌∙◌}
use mathlib.Core.Bool.{Bool, true, false, ◌&&◌, ◌||◌}
use mathlib.Core.List.{List, [], ◌∷◌, ◌++◌, append_assoc, append-nil}
use lib.Dec.{leb, ltb, eqb}
use lib.ListN.{length, get_or, replicate, length-replicate}
use borrow.Author.Tests.{le-leb, lt-ltb, leb-true, ltb-true}
use Rattle.choice.proofs.Tests.{and-true}
use Rattle.endian.specs.Big.{splice}
use Rattle.widths.specs.Width.{number, span}
use Rattle.units.specs.Units.{UnitStore, entry, count, fill, cluster}
use Rattle.units.proofs.Laws.{length-cluster}
use Rattle.qcow2_spec.specs.Entries.{new_entry}
use Rattle.qcow2_spec.specs.Header.{width}
use Rattle.qcow2_spec.specs.Counts.{count_at, count_of, set_count}
use Rattle.qcow2_spec.specs.Store.{clear_units}
use Rattle.qcow2_spec.specs.Check.{repair_units}
use Rattle.qcow2_spec.specs.Steps.{Extent, filled, whole, join, extents, covers, rows_of}
use Rattle.qcow2_put.specs.declared.linking.Places.{Places}
use Rattle.qcow2_put.specs.Links.{table_units}
use Rattle.qcow2_jobs.specs.Jobs.{job_units, JobFresh, freed_units}
use Rattle.qcow2_jobs.specs.declared.finding.Job.{Job}
use Rattle.qcow2_jobs.specs.declared.finding.Job.TheVariants.{Bytes, Marked, New, Table}
use Rattle.qcow2_jobs.specs.declared.releasing.Freed.{Freed}
use Rattle.qcow2_jobs.specs.declared.releasing.Freed.TheVariants.{Entry, Both}
use Rattle.qcow2_rows.specs.Own.{count_row, entry_row, fill_row, table_rows, job_rows, freed_rows}
use Rattle.qcow2_rows.proofs.Extents.{none, next}
use Rattle.qcow2_rows.proofs.Lists.{extents-filled, length-under, length_new}
use Rattle.qcow2_batches.specs.Batch.{meets}
use Rattle.qcow2_batches.specs.Rows.{new_rows}
use Rattle.qcow2_batches.proofs.Covers.{Alike, or_exchange, meets_here, meets_alike}
use Rattle.qcow2_phases.proofs.Phases.{Phases, phases_nil, phases_fill, phases_rise, phases_fall, phases_early, phases_late, rows_phases}
use Rattle.qcow2_shown.specs.Shown.{shown_in, with_new, with_table, last_phase, freed_phase}
use Rattle.qcow2_added.specs.Falls.{Falls}

-- the rows of the phases from 1 on
abbrev later : (b c d : List UnitStore) → List ℕ
later b c d = rows_of 1 (extents b) ++ (rows_of 2 (extents c) ++ rows_of 3 (extents d))

rows_are : {s : List ℕ} {ready : List Extent} {us b c d : List UnitStore} {new : List ℕ} → Phases s ready us b c d → later b c d ≡ new
    → new_rows s ready (clear_units s ++ us) ≡ rows_of 0 (extents (clear_units s)) ++ new
rows_are {s} f e = rows_phases f ∙ ap (λ (l : List ℕ). rows_of 0 (extents (clear_units s)) ++ l) e

-- ---- a list that ends with an entry
abbrev early : Bool → UnitStore → List UnitStore
early b u = if b then u ∷ [] else []

abbrev late : Bool → UnitStore → List UnitStore
late b u = if b then [] else u ∷ []

phases_last : (s : List ℕ) (ready : List Extent) (a v : ℕ) (b : Bool) → meets ready a 8 ≡ b → Phases s ready (entry a v ∷ []) (early b (entry a v)) (late b (entry a v)) []
phases_last s ready a v true e = phases_early a v e (phases_nil s _)
phases_last s ready a v false e = phases_late a v e (phases_nil s ready)

-- ---- a new cluster and its entry
module _ (s : List ℕ) (ready : List Extent) (c : ℕ) (h : 0 < c) where
  later_marked : (p a v : ℕ) (bs : List ℕ) → length bs ≡ c → (b : Bool) → later (fill p bs ++ early b (entry a v)) (late b (entry a v)) [] ≡ fill_row p c 1 ++ entry_row a (if b then 1 else 2)
  unfolding rows_of extents join
  later_marked p a v bs e true = rw (extents-filled p c bs e h (entry a v ∷ []) next)
  later_marked p a v bs e false = rw (extents-filled p c bs e h [] none)

  rows-marked : (p a v : ℕ) (bs : List ℕ) → length bs ≡ c → new_rows s ready (clear_units s ++ (fill p bs ++ entry a v ∷ [])) ≡ rows_of 0 (extents (clear_units s)) ++ (fill_row p c 1 ++ entry_row a (shown_in (whole p c ∷ ready) a))
  unfolding shown_in
  rows-marked p a v bs e = rows_are (phases_fill p bs c e (phases_last s (whole p c ∷ ready) a v _ refl)) (later_marked p a v bs e (meets (whole p c ∷ ready) a 8))

-- ---- its count before them
module _ (s : List ℕ) (ready : List Extent) (c : ℕ) (h : 0 < c) where
  alike_new : (r n p : ℕ) → Alike (whole p c ∷ whole (n / 8) (span (2 ^ r)) ∷ ready) (with_new r n p c ready)
  unfolding covers
  alike_new r n p x = or_exchange (leb p x && ltb x (p + c)) (leb (n / 8) x && ltb x (n / 8 + span (2 ^ r))) (covers ready x)

  later_new : (r n p a v : ℕ) (bs : List ℕ) → length bs ≡ c → (b : Bool) → later (count (2 ^ r) n 1 ∷ (fill p bs ++ early b (entry a v))) (late b (entry a v)) [] ≡ count_row r n 1 ++ fill_row p c 1 ++ entry_row a (if b then 1 else 2)
  unfolding rows_of extents join
  later_new r n p a v bs e true = rw (extents-filled p c bs e h (entry a v ∷ []) next)
  later_new r n p a v bs e false = rw (extents-filled p c bs e h [] none)

  rows_new : (r n p a v : ℕ) (bs : List ℕ) → length bs ≡ c → number (2 ^ r) s n ≡ 0
      → new_rows s ready (clear_units s ++ ((count (2 ^ r) n 1 ∷ fill p bs) ++ entry a v ∷ [])) ≡ rows_of 0 (extents (clear_units s)) ++ (count_row r n 1 ++ fill_row p c 1 ++ entry_row a (shown_in (with_new r n p c ready) a))
  unfolding shown_in
  rows_new r n p a v bs e z =
      let q = meets_alike _ (with_new r n p c ready) (alike_new r n p) a 8 in
      rows_are (phases_rise (2 ^ r) n 1 (omega (arith, z)) (phases_fill p bs c e (phases_last s (whole p c ∷ whole (n / 8) (span (2 ^ r)) ∷ ready) a v _ q))) (later_new r n p a v bs e (meets (with_new r n p c ready) a 8))

-- ---- a new table too
-- the entry of the new table lies in it
or_within : (S T P D C R : Bool) → (S ≡ true → T ≡ true) → (S || (P || (D || (T || (C || R))))) ≡ (T || (C || (D || (P || R))))
or_within true T P D C R f = rw (f refl)
or_within false true true D C R f = refl
or_within false true false true C R f = refl
or_within false true false false C R f = refl
or_within false false true true true R f = refl
or_within false false true true false R f = refl
or_within false false true false true R f = refl
or_within false false true false false R f = refl
or_within false false false true true R f = refl
or_within false false false true false R f = refl
or_within false false false false C R f = refl

or_past : (P D C R : Bool) → (P || (D || (true || (C || R)))) ≡ true
or_past true D C R = refl
or_past false true C R = refl
or_past false false C R = refl

module _ (s : List ℕ) (ready : List Extent) (p : Places) (c : ℕ) (h : 0 < c) (f : JobFresh s c (Table p)) where
  abbrev among : (a n x : ℕ) → Bool
  among a n x = leb a x && ltb x (a + n)

  -- what is ready before the entry of the new table
  abbrev before : List Extent
  before = whole p.place c ∷ whole (p.datacount / 8) (span (2 ^ p.order)) ∷ whole p.table c ∷ whole (p.tablecount / 8) (span (2 ^ p.order)) ∷ ready

  slot-ready : meets before p.slot 8 ≡ true
  unfolding covers
  slot-ready =
      meets_here before p.slot 8 p.slot (omega arith) (omega arith)
      (rw (le-leb p.table p.slot f.1.0, lt-ltb p.slot (p.table + c) (omega (arith, f.1.1))) (or_past (among p.place c p.slot) (among (p.datacount / 8) (span (2 ^ p.order)) p.slot) (among (p.tablecount / 8) (span (2 ^ p.order)) p.slot) (covers ready p.slot)))

  slot_in : (x : ℕ) → among p.slot 8 x ≡ true → among p.table c x ≡ true
  slot_in x e =
      let q = and-true (leb p.slot x) (ltb x (p.slot + 8)) e in
      let l = leb-true p.slot x q.0 in
      let u = ltb-true x (p.slot + 8) q.1 in
      rw (le-leb p.table x (omega (arith, f.1.0)), lt-ltb x (p.table + c) (omega (arith, f.1.1)))

  alike_table : Alike (whole p.slot 8 ∷ before) (with_table p c ready)
  unfolding covers
  alike_table x =
      or_within (among p.slot 8 x) (among p.table c x) (among p.place c x) (among (p.datacount / 8) (span (2 ^ p.order)) x) (among (p.tablecount / 8) (span (2 ^ p.order)) x) (covers ready x) (slot_in x)

  module _ (bs : List ℕ) (e : length bs ≡ c) where
    abbrev after_table : List UnitStore → List UnitStore
    after_table us = count (2 ^ p.order) p.datacount 1 ∷ (fill p.place bs ++ (entry p.slot (new_entry p.place) ∷ us))

    abbrev units_of_lem : List UnitStore → List UnitStore
    units_of_lem us =
        count (2 ^ p.order) p.tablecount 1 ∷ (fill p.table (replicate c 0) ++ after_table us)

    units_are : table_units p c bs ≡ units_of_lem (entry p.link (new_entry p.table) ∷ [])
    unfolding table_units
    units_are = rw (append_assoc)

    first-fill : (us : List UnitStore) → extents (fill p.table (replicate c 0) ++ after_table us) ≡ filled p.table c ∷ extents (after_table us)
    unfolding extents join
    first-fill us = extents-filled p.table c (replicate c 0) (length-replicate c 0) h (after_table us) next

    later_table : (b : Bool) → later (units_of_lem (early b (entry p.link (new_entry p.table)))) (late b (entry p.link (new_entry p.table))) [] ≡ table_rows (if b then 1 else 2) p c
    unfolding rows_of extents join
    later_table true = let l : List UnitStore = entry p.link (new_entry p.table) ∷ [] in rw (first-fill l, extents-filled p.place c bs e h (entry p.slot (new_entry p.place) ∷ l) next)
    later_table false = rw (first-fill [], extents-filled p.place c bs e h (entry p.slot (new_entry p.place) ∷ []) next)

    phases_table : (b : Bool) → meets (with_table p c ready) p.link 8 ≡ b
        → Phases s ready (units_of_lem (entry p.link (new_entry p.table) ∷ [])) (units_of_lem (early b (entry p.link (new_entry p.table)))) (late b (entry p.link (new_entry p.table))) []
    phases_table b q =
        phases_rise _ _ _ (omega (arith, f.0.0)) (phases_fill p.table (replicate c 0) c (length-replicate c 0)
        (phases_rise _ _ _ (omega (arith, f.0.1)) (phases_fill p.place bs c e
        (phases_early p.slot _ slot-ready (phases_last s _ p.link _ b (meets_alike _ (with_table p c ready) alike_table p.link 8 ∙ q))))))

    rows-table : new_rows s ready (clear_units s ++ table_units p c bs) ≡ rows_of 0 (extents (clear_units s)) ++ table_rows (shown_in (with_table p c ready) p.link) p c
    unfolding shown_in
    rows-table = ap (λ (us : List UnitStore). new_rows s ready (clear_units s ++ us)) units_are ∙ rows_are (phases_table _ refl) (later_table (meets (with_table p c ready) p.link 8))

-- ---- by what was found
pub rows_job : (s : List ℕ) (ready : List Extent) (job : Job) (c o len : ℕ) (under d : List ℕ) → JobFresh s c job → length under ≡ c → length d ≡ len → o + len ≤ c → 0 < len
    → new_rows s ready (clear_units s ++ job_units job c o under d) ≡ rows_of 0 (extents (clear_units s)) ++ job_rows (last_phase ready job c) job c o len
unfolding rows_of extents
rows_job s ready (Bytes p) c o len u d w f e h z =
    ap (λ (us : List UnitStore). new_rows s ready (clear_units s ++ us)) (sym (append-nil (fill (p + o) d)))
    ∙ rows_are (phases_fill (p + o) d len e (phases_nil s _)) (rw (extents-filled (p + o) len d e z [] none))
rows_job s ready (Marked a p) c o len u d w f e h z = rows-marked s ready c (omega arith) p a (new_entry p) (cluster c o d) (length-cluster c o d (omega arith))
rows_job s ready (New m r n a p) c o len u d w f e h z = rows_new s ready c (omega arith) r n p a (new_entry p) (if m then cluster c o d else splice u o d) (length_new c o u d f (omega arith) m) w
rows_job s ready (Table p) c o len u d w f e h z = rows-table s ready p c (omega arith) w (splice u o d) (length-under c o u d f (omega arith))

-- ---- a discard: its count does not rise
pub rows-freed : (s : List ℕ) (ready : List Extent) (f : Freed) → Falls s f
    → new_rows s ready (clear_units s ++ freed_units f) ≡ rows_of 0 (extents (clear_units s)) ++ freed_rows (freed_phase ready f) (freed_phase ready f) 3 f
unfolding shown_in rows_of extents join
rows-freed s ready (Entry a x) w = rows_are (phases_last s ready a x _ refl) (go (meets ready a 8))
  where
    go : (b : Bool) → later (early b (entry a x)) (late b (entry a x)) [] ≡ entry_row a (if b then 1 else 2)
    go true = refl
    go false = refl
rows-freed s ready (Both a x r k v) w = go (meets ready a 8) refl
  where
    go : (b : Bool) → meets ready a 8 ≡ b → new_rows s ready (clear_units s ++ (entry a x ∷ count (2 ^ r) k v ∷ [])) ≡ rows_of 0 (extents (clear_units s)) ++ (entry_row a (if b then 1 else 2) ++ count_row r k 3)
    go true e = rows_are (phases_early a x e (phases_fall (2 ^ r) k v w (phases_nil s _))) refl
    go false e = rows_are (phases_late a x e (phases_fall (2 ^ r) k v w (phases_nil s _))) refl

-- ---- a repair: no count is below its figure
phases_counts : (s fs : List ℕ) (ready : List Extent) (i k : ℕ) → ((j : ℕ) → i ≤ j → j < i + k → get_or fs j 0 ≤ count_of s j) → Phases s ready (repair_units s fs i k) [] [] (repair_units s fs i k)
unfolding repair_units set_count count_of
phases_counts s fs ready i zero h = phases_nil s ready
phases_counts s fs ready i (suc k) h = go (eqb (count_of s i) (get_or fs i 0)) (phases_counts s fs ready (suc i) k (λ j l m. h j (omega arith) (omega arith)))
  where
    go : (b : Bool) → Phases s ready (repair_units s fs (suc i) k) [] [] (repair_units s fs (suc i) k)
        → Phases s ready ((if b then [] else set_count s i (get_or fs i 0) ∷ []) ++ repair_units s fs (suc i) k) [] [] ((if b then [] else set_count s i (get_or fs i 0) ∷ []) ++ repair_units s fs (suc i) k)
    go true r = r
    go false r = phases_fall (width s) (count_at s i) (get_or fs i 0) (h i (omega arith) (omega arith)) r

pub rows-repair : (s fs : List ℕ) (ready : List Extent) (k : ℕ) → ((j : ℕ) → j < k → get_or fs j 0 ≤ count_of s j)
    → new_rows s ready (clear_units s ++ repair_units s fs 0 k) ≡ rows_of 0 (extents (clear_units s)) ++ rows_of 3 (extents (repair_units s fs 0 k))
unfolding rows_of extents
rows-repair s fs ready k h = rows_are (phases_counts s fs ready 0 k (λ j l m. h j (omega arith))) refl
