-- What a discard is found to be. Assumes nothing.
use Rattle.std.specs.Prelude.{if◌then◌else◌, Err, Ok, Result, Option, Some, None}
use Prim.Native.Nat.{ℕ, ◌+◌, ◌-◌, ◌/◌, ◌^◌, ◌≤◌}
use mathlib.Core.Path.{◌≡◌, sym, ◌∙◌}
use mathlib.Core.Bool.{Bool, true, false, ◌&&◌}
use mathlib.Core.List.{List, [], ◌∷◌}
use lib.Dec.{eqb}
use borrow.Author.Tests.{eq-eqb, ne_eqb}
use Rattle.units.specs.Units.{entry}
use Rattle.units.specs.Plan.{Plan, refused, units}
use Rattle.widths.specs.Width.{Inside}
use Rattle.qcow2_spec.specs.Header.{version, cluster_size, width, backed}
use Rattle.qcow2_spec.specs.Entries.{place}
use Rattle.qcow2_spec.specs.Counts.{count_at, count_of, set_count}
use Rattle.qcow2_spec.specs.Store.{cleared_entry, discard_slot, discard_way}
use Rattle.qcow2_spec.specs.Opened.{Opened}
use Rattle.qcow2_spec.specs.declared.Geometry.{Geometry}
use Rattle.qcow2_spec.specs.declared.Way.{Way}
use Rattle.qcow2_spec.specs.declared.Way.TheVariants.{NoTable, Slot}
use Rattle.qcow2_jobs.specs.Jobs.{Releases}
use Rattle.qcow2_jobs.specs.declared.releasing.Freed.{Freed}
use Rattle.qcow2_jobs.specs.declared.releasing.Freed.TheVariants.{Entry, Both}

module _ (s : List ℕ) (m at x : ℕ) where
  -- cluster k's count is 0, or falls
  module _ (k : ℕ) where
    abbrev falling : Plan
    falling = if eqb (count_of s k) 0 then refused 16 else units (entry at x ∷ set_count s k (count_of s k - 1) ∷ [])

    pub uncounted : count_of s k ≡ 0 → Releases m (Err 16) falling
    uncounted z = record { same = rw (eq-eqb (count_of s k) 0 z); inside = tt }

    pub falls : (r p n : ℕ) → 2 ^ r ≡ width s → p ≡ count_at s k → n ≡ count_of s k → (n ≡ 0 → ⊥) → at + 8 ≤ m → Inside r m p → Releases m (Ok (Some (Both at x r p (n - 1)))) falling
    unfolding set_count
    falls r p n w f c z a b = record { same = rw (← c, ne_eqb n 0 z, ← f, w); inside = (a, b) }

-- the entry that is left
pub cleared-is : (g : Geometry) (s : List ℕ) → Opened g s → (x : ℕ) → x ≡ (if g.backed then 1 else 0) → x ≡ cleared_entry s
unfolding cleared_entry
cleared-is g s o x e = rw (e, o.is-backed)

-- whether there is a zero mark to leave
pub lacks_is : (g : Geometry) (s : List ℕ) → Opened g s → (t : Bool) → t ≡ (g.backed && eqb g.version 2) → t ≡ (backed s && eqb (version s) 2)
lacks_is g s o t e = rw (e, o.is-backed, o.is-version)

-- the entry e at a place: there is no zero mark to leave; it is cleared already, without a place, or with one
module _ (s : List ℕ) (m at e : ℕ) where
  pub markless : (backed s && eqb (version s) 2) ≡ true → Releases m (Err 20) (discard_way s (Ok (Slot at e)))
  unfolding discard_way
  markless b = record { same = rw b; inside = tt }

  module _ (b : (backed s && eqb (version s) 2) ≡ false) (x : ℕ) (q : x ≡ cleared_entry s) where
    pub idle : e ≡ x → Releases m (Ok None) (discard_way s (Ok (Slot at e)))
    unfolding discard_way discard_slot
    idle z = record { same = rw (b, eq-eqb e (cleared_entry s) (z ∙ q)); inside = tt }

    module _ (z : e ≡ x → ⊥) where
      apart : eqb e (cleared_entry s) ≡ false
      apart = ne_eqb e (cleared_entry s) (λ f. z (f ∙ sym q))

      pub emptied : place e ≡ 0 → at + 8 ≤ m → Releases m (Ok (Some (Entry at x))) (discard_way s (Ok (Slot at e)))
      unfolding discard_way discard_slot
      emptied p h = record { same = rw (b, apart, eq-eqb (place e) 0 p, q); inside = h }

      pub given_up : (r : Result (Option Freed) ℕ) (k : ℕ) → (place e ≡ 0 → ⊥) → k ≡ place e / cluster_size s → Releases m r (falling s m at x k) → Releases m r (discard_way s (Ok (Slot at e)))
      unfolding discard_way discard_slot
      given_up r k p f h = record { same = rw (b, apart, ne_eqb (place e) 0 p, ← f, ← q) h.same; inside = h.inside }

-- there is no L2 table
module _ (g : Geometry) (s : List ℕ) (o : Opened g s) (m : ℕ) where
  pub tableless : g.backed ≡ true → Releases m (Err 20) (discard_way s (Ok NoTable))
  unfolding discard_way
  tableless h = record { same = rw (← o.is-backed, h); inside = tt }

  pub nothing : g.backed ≡ false → Releases m (Ok None) (discard_way s (Ok NoTable))
  unfolding discard_way
  nothing h = record { same = rw (← o.is-backed, h); inside = tt }

-- by the way
module _ (s : List ℕ) (m : ℕ) (w : Way) where
  pub discard_as : (r : Result (Option Freed) ℕ) (v : Way) → w ≡ v → Releases m r (discard_way s (Ok v)) → Releases m r (discard_way s (Ok w))
  discard_as r v q h = record { same = rw q h.same; inside = h.inside }
