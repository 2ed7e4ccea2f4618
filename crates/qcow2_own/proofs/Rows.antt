-- The way of a write or a discard by the test of its L1 entry.
-- Assumes nothing.
use Rattle.std.specs.Prelude.{Err}
use Prim.Native.Nat.{ℕ, ◌/◌, ◌^◌, ◌<◌}
use mathlib.Core.Path.{◌≡◌}
use mathlib.Core.Bool.{true, false}
use mathlib.Core.List.{List}
use lib.ListN.{length}
use Rattle.qcow2_spec.specs.Header.{per_table, root_size}
use Rattle.qcow2_spec.specs.Entries.{good_l1, common}
use Rattle.qcow2_spec.specs.Guest.{l1_entry, way}
use Rattle.qcow2_spec.specs.Store.{own_slot, own_way}
use Rattle.qcow2_spec.specs.Opened.{Active}
use Rattle.qcow2_spec.specs.declared.Geometry.{Geometry}
use Rattle.qcow2_own.specs.Common.{common_row}

module _ (s : List ℕ) (guest : ℕ) where
  pub own-common : common_row s guest ≡ true → Err 22 ≡ own_way s guest
  unfolding common_row own_way
  own-common h = rw h

  pub own-other : common_row s guest ≡ false → own_slot (way s 0 guest) ≡ own_way s guest
  unfolding common_row own_way
  own-other h = rw h

module _ (g : Geometry) (s : List ℕ) (a : Active g s) (guest : ℕ) where
  -- of the active table, the guest cluster has an entry in the geometry's
  pub row-root : guest / per_table s < root_size s 0 → guest / per_table s < root_size s g.root
  row-root h = rw a.1 h

  -- its L1 entry e, whose test gave a Bool
  module _ (e : ℕ) (q : e ≡ l1_entry s g.root guest) where
    pub row-good : good_l1 (2 ^ g.bits) (length s) e ≡ true → common e ≡ common_row s guest
    unfolding common_row
    row-good h =
        let r : e ≡ l1_entry s 0 guest = rw a.1 at q in
        rw (← r, ← a.0.is-cluster, h)

    pub row-bad : good_l1 (2 ^ g.bits) (length s) e ≡ false → false ≡ common_row s guest
    unfolding common_row
    row-bad h =
        let r : e ≡ l1_entry s 0 guest = rw a.1 at q in
        rw (← r, ← a.0.is-cluster, h)
