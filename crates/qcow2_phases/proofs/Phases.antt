-- A call's units by phase, one kind after the other. Assumes nothing.
use Prim.Native.Nat.{ℕ, suc, ◌+◌, ◌/◌, ◌≤◌, ◌<◌}
use native.Mathlib.Omega.{arith}
use mathlib.Core.Path.{◌≡◌, refl, sym, ap, ◌∙◌}
use mathlib.Core.Bool.{Bool, true, false, ◌&&◌, ◌||◌}
use mathlib.Core.List.{List, [], ◌∷◌, ◌++◌, append-nil}
use lib.Dec.{leb, ltb}
use lib.ListN.{length}
use lib.Seq.{take-append_seam, drop-append_seam}
use borrow.Author.Tests.{lt-ltb, le-ltb, ltb-true, leb-true, eq-eqb}
use Rattle.widths.specs.Width.{number, span}
use Rattle.units.specs.Units.{UnitStore, byte, entry, count, fill}
use Rattle.qcow2_spec.specs.Store.{clear_units}
use Rattle.qcow2_spec.specs.Steps.{Extent, filled, whole, join, extents, rows_of, step_rows, covers}
use Rattle.qcow2_spec.proofs.Extents.{covers-join, holds}
use Rattle.qcow2_batches.specs.Batch.{meets, phase_of, grown, in_phase, call_phase}
use Rattle.qcow2_batches.specs.Rows.{new_rows}
use Rattle.qcow2_batches.proofs.Covers.{Alike, or_exchange, in_alike}

-- the units of each phase from 1 on
pub record Phases (s : List ℕ) (ready : List Extent) (us one two three : List UnitStore) : Type 0 where
  pub ones : in_phase 1 s ready us ≡ one
  pub twos : in_phase 2 s ready us ≡ two
  pub threes : in_phase 3 s ready us ≡ three

-- ---- only what is covered counts
phases_alike : {s : List ℕ} {ys zs : List Extent} {us b c d : List UnitStore} → Alike ys zs → Phases s ys us b c d → Phases s zs us b c d
phases_alike {s} {ys} {zs} {us} h f =
    record { ones = sym (in_alike 1 s ys zs h us) ∙ f.ones; twos = sym (in_alike 2 s ys zs h us) ∙ f.twos; threes = sym (in_alike 3 s ys zs h us) ∙ f.threes }

-- ---- no unit, and one more
pub phases_nil : (s : List ℕ) (ready : List Extent) → Phases s ready [] [] [] []
unfolding in_phase
phases_nil s ready = record { ones = refl; twos = refl; threes = refl }

module _ {s : List ℕ} {ready : List Extent} {us b c d : List UnitStore} where
  phases_byte : (a v : ℕ) → Phases s (join (byte a v) ready) us b c d → Phases s ready (byte a v ∷ us) (byte a v ∷ b) c d
  unfolding in_phase phase_of grown
  phases_byte a v f = record { ones = ap (λ (l : List UnitStore). byte a v ∷ l) f.ones; twos = f.twos; threes = f.threes }

  pub phases_rise : (w a v : ℕ) → number w s a < v → Phases s (whole (a / 8) (span w) ∷ ready) us b c d → Phases s ready (count w a v ∷ us) (count w a v ∷ b) c d
  unfolding in_phase phase_of grown join
  phases_rise w a v h f = record { ones = rw (lt-ltb (number w s a) v h) (ap (λ (l : List UnitStore). count w a v ∷ l) f.ones); twos = rw (lt-ltb (number w s a) v h) f.twos; threes = rw (lt-ltb (number w s a) v h) f.threes }

  pub phases_fall : (w a v : ℕ) → v ≤ number w s a → Phases s ready us b c d → Phases s ready (count w a v ∷ us) b c (count w a v ∷ d)
  unfolding in_phase phase_of grown
  phases_fall w a v h f = record { ones = rw (le-ltb (number w s a) v h) f.ones; twos = rw (le-ltb (number w s a) v h) f.twos; threes = rw (le-ltb (number w s a) v h) (ap (λ (l : List UnitStore). count w a v ∷ l) f.threes) }

  pub phases_early : (a v : ℕ) → meets ready a 8 ≡ true → Phases s (whole a 8 ∷ ready) us b c d → Phases s ready (entry a v ∷ us) (entry a v ∷ b) c d
  unfolding in_phase phase_of grown join
  phases_early a v h f = record { ones = rw h (ap (λ (l : List UnitStore). entry a v ∷ l) f.ones); twos = rw h f.twos; threes = rw h f.threes }

  pub phases_late : (a v : ℕ) → meets ready a 8 ≡ false → Phases s ready us b c d → Phases s ready (entry a v ∷ us) b (entry a v ∷ c) d
  unfolding in_phase phase_of grown
  phases_late a v h f = record { ones = rw h f.ones; twos = rw h (ap (λ (l : List UnitStore). entry a v ∷ l) f.twos); threes = rw h f.threes }

-- ---- a fill
-- the first byte of n + 1, and the others
join-next : (a v n : ℕ) (ready : List Extent) (x : ℕ) → covers (whole a (suc n) ∷ ready) x ≡ covers (join (byte a v) (filled (suc a) n ∷ ready)) x
unfolding join covers
join-next a v n ready x = rw (eq-eqb (suc a) (suc a) refl)

alike_next : (a v n : ℕ) (ready : List Extent) → Alike (whole (suc a) n ∷ join (byte a v) ready) (whole a (suc n) ∷ ready)
unfolding covers
alike_next a v n ready x =
    rw (covers-join (byte a v) ready x) (or_exchange (leb (suc a) x && ltb x (suc a + n)) (holds (byte a v) x) (covers ready x)) ∙ sym (join-next a v n ready x ∙ covers-join (byte a v) (filled (suc a) n ∷ ready) x)

alike_none : (a : ℕ) (ready : List Extent) → Alike ready (whole a 0 ∷ ready)
unfolding covers
alike_none a ready x = go (leb a x) refl (ltb x (a + 0)) refl
  where
    go : (t : Bool) → leb a x ≡ t → (u : Bool) → ltb x (a + 0) ≡ u → covers ready x ≡ ((t && u) || covers ready x)
    go true e true f = absurd (omega (arith, leb-true a x e, ltb-true x (a + 0) f))
    go true e false f = refl
    go false e u f = refl

pub phases_fill : {s : List ℕ} {ready : List Extent} {us b c d : List UnitStore} (a : ℕ) (bs : List ℕ) (n : ℕ) → length bs ≡ n → Phases s (whole a n ∷ ready) us b c d → Phases s ready (fill a bs ++ us) (fill a bs ++ b) c d
unfolding fill
phases_fill {ready = ready} a [] n e f = phases_alike (λ x. sym (alike_none a ready x)) (rw (← e) at f)
phases_fill {ready = ready} a (v ∷ bs) n e f = phases_byte a v (phases_fill {ready = join (byte a v) ready} (suc a) bs (length bs) refl (phases_alike (λ x. sym (alike_next a v (length bs) ready x)) (rw (← e) at f)))

-- ---- the rows of a list after the clearing unit
pub rows_phases : {s : List ℕ} {ready : List Extent} {us b c d : List UnitStore} → Phases s ready us b c d
    → new_rows s ready (clear_units s ++ us) ≡ rows_of 0 (extents (clear_units s)) ++ (rows_of 1 (extents b) ++ (rows_of 2 (extents c) ++ rows_of 3 (extents d)))
unfolding new_rows step_rows call_phase
rows_phases {s} {ready} {us} f = rw (take-append_seam (clear_units s) us, drop-append_seam (clear_units s) us, f.ones, f.twos, f.threes, append-nil)
