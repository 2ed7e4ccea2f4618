-- Where a call's list is flushed, and what a power cut leaves on a drive that keeps no order between two flushes.
-- Assumes nothing.
use Rattle.std.specs.Prelude.{ℕ, zero, suc, ◌+◌, ◌-◌, ◌/◌, Bool, true, false, ◌&&◌, List, [], ◌∷◌, ◌++◌, leb, length, get_or, take, drop, if◌then◌else◌}
use Rattle.choice.specs.Pick.{each}
use Rattle.units.specs.Units.{UnitStore, byte, entry, count, apply_all}
use Rattle.units.specs.Plan.{Plan, plan_units}
use Rattle.qcow2_spec.specs.Store.{clear_units}

-- ---- where the flushes stand
-- the list stores a table entry
unfoldable pub stores_entry : List UnitStore → Bool
stores_entry [] = false
stores_entry (byte a v ∷ us) = stores_entry us
stores_entry (entry a v ∷ us) = true
stores_entry (count w a v ∷ us) = stores_entry us

-- the list ends with a table entry or a count
unfoldable pub ends_whole : List UnitStore → Bool
ends_whole [] = false
ends_whole (byte a v ∷ []) = false
ends_whole (entry a v ∷ []) = true
ends_whole (count w a v ∷ []) = true
ends_whole (u ∷ v ∷ us) = ends_whole (v ∷ us)

-- the units of a list before its flush: all but the last, which links, shows or frees what the others have made ready.
-- A list with no entry, of bytes or of counts alone, needs no flush
unfoldable pub flush_at : List UnitStore → ℕ
flush_at us = if stores_entry us && ends_whole us then length us - 1 else length us

-- the two sides of that flush
unfoldable pub halves : List UnitStore → List (List UnitStore)
halves us = take (flush_at us) us ∷ drop (flush_at us) us ∷ []

-- a call's list on the image s in epochs, with a flush between two: the clearing unit, the units up to the last, the last. Any may be empty
unfoldable pub epochs : List ℕ → List UnitStore → List (List UnitStore)
epochs s us = take (length (clear_units s)) us ∷ halves (drop (length (clear_units s)) us)

-- the units of several epochs
unfoldable pub joined : List (List UnitStore) → List UnitStore
joined [] = []
joined (us ∷ es) = us ++ joined es

-- ---- what a cut leaves
-- the units of a list that are chosen, in the list's order
unfoldable pub picked : List Bool → List UnitStore → List UnitStore
picked [] us = []
picked (c ∷ cs) [] = []
picked (true ∷ cs) (u ∷ us) = u ∷ picked cs us
picked (false ∷ cs) (u ∷ us) = picked cs us

-- what is stored of a list in epochs: its first a units, and of those that go on there up to the next flush the chosen ones
unfoldable pub loosely : List (List UnitStore) → ℕ → List Bool → List UnitStore
loosely [] a cs = []
loosely (us ∷ es) a cs = if leb (length us) a then us ++ loosely es (a - length us) cs else take a us ++ picked cs (drop a us)

-- the image that such a cut leaves
unfoldable pub after_loose : Plan → ℕ → List Bool → List ℕ → List ℕ
after_loose p a cs s = apply_all (loosely (epochs s (plan_units p)) a cs) s

-- ---- sectors: what such a drive does
-- the sectors of 512 bytes that are stored hold the bytes of `new`, the others those of `old`
unfoldable pub drive : (stored : ℕ → Bool) → (old new : List ℕ) → List ℕ
drive stored old new = each (λ x. if stored (x / 512) then get_or new x 0 else get_or old x 0) 0 (length old)

-- what a drive holds of a list in epochs if the power fails in epoch number e: the ones before it whole, and of that one these sectors
unfoldable pub drive_cut : List (List UnitStore) → (e : ℕ) → (stored : ℕ → Bool) → List ℕ → List ℕ
drive_cut [] e stored s = s
drive_cut (us ∷ es) zero stored s = drive stored s (apply_all us s)
drive_cut (us ∷ es) (suc e) stored s = drive_cut es e stored (apply_all us s)
