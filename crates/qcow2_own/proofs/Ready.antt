-- The way of a write or a discard lies in the image. Assumes nothing.
use Rattle.std.specs.Prelude.{Err, Ok, Result}
use Prim.Native.Nat.{ℕ, ◌/◌, ◌<◌}
use mathlib.Core.Path.{◌≡◌, sym, subst}
use mathlib.Core.Bool.{◌&&◌}
use mathlib.Core.List.{List}
use lib.ListN.{length}
use Rattle.choice.proofs.Tests.{if_elim}
use Rattle.qcow2_spec.specs.Header.{cluster_size, per_table, root_size}
use Rattle.qcow2_spec.specs.Entries.{good_l1, common}
use Rattle.qcow2_spec.specs.Guest.{l1_entry, way}
use Rattle.qcow2_spec.specs.Store.{own_slot, own_way}
use Rattle.qcow2_spec.specs.Opened.{Active}
use Rattle.qcow2_spec.specs.Ready.{Ready}
use Rattle.qcow2_spec.specs.declared.Geometry.{Geometry}
use Rattle.qcow2_spec.specs.declared.Way.{Way}
use Rattle.qcow2_spec.specs.declared.Way.TheVariants.{NoTable, Slot}
use Rattle.qcow2_guest.proofs.Ready.{way-ready}

module _ (g : Geometry) (s : List ℕ) (guest : ℕ) where
  slot-ready : (w : Result Way ℕ) → Ready g s w guest → Ready g s (own_slot w) guest
  unfolding own_slot
  slot-ready (Err k) r = tt
  slot-ready (Ok NoTable) r = r
  slot-ready (Ok (Slot a e)) r = if_elim (λ (w : Result Way ℕ). Ready g s w guest) (common e) _ _ (λ b. tt) (λ b. r)

  own-ready : Active g s → guest / per_table s < root_size s 0 → Ready g s (own_way s guest) guest
  unfolding own_way
  own-ready a h =
      if_elim (λ (w : Result Way ℕ). Ready g s w guest) (good_l1 (cluster_size s) (length s) (l1_entry s 0 guest) && common (l1_entry s 0 guest)) _ _ (λ b. tt)
      (λ b. slot-ready (way s 0 guest) (way-ready g s a guest h))

  -- the code's way
  pub found-ready : (w : Result Way ℕ) → w ≡ own_way s guest → Active g s → guest / per_table s < root_size s 0 → Ready g s w guest
  found-ready w e a h = subst (λ (v : Result Way ℕ). Ready g s v guest) (sym e) (own-ready a h)
