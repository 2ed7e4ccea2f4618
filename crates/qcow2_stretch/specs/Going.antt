-- A run by the entries of L1 table root, and by the entries of an L2 table.
-- Assumes nothing.
use Rattle.std.specs.Prelude.{ℕ, ◌+◌, ◌-◌, ◌%◌, ◌^◌, ◌≤◌, ◌<◌, ◌≡◌, true, false, not, List, eqb, length, Option, Some, None, Result, Ok, Err, if◌then◌else◌}
use Rattle.qcow2_spec.specs.Header.{cluster_size}
use Rattle.qcow2_spec.specs.Entries.{place, good_l1}
use Rattle.qcow2_spec.specs.Guest.{reach, l1_entry}
use Rattle.qcow2_spec.specs.Runs.{goes_on}
use Rattle.qcow2_spec.specs.declared.Geometry.{Geometry}
use Rattle.qcow2_guest.specs.Rows.{row_left}

-- of the bytes that are left from x + i on, r go on alike from x, and the next does not
pub record Goes (s : List ℕ) (root x i left r : ℕ) : Type 0 where
  pub most : r ≤ left
  pub on : (j : ℕ) → j < r → goes_on s root x (i + j) ≡ true
  pub ends : r < left → goes_on s root x (i + r) ≡ false

-- the place of the L2 table below the L1 entry of a guest cluster, if there is one
unfoldable pub row_of : List ℕ → (root guest : ℕ) → Result (Option ℕ) ℕ
row_of s root guest =
    if not (good_l1 (cluster_size s) (length s) (l1_entry s root guest)) then Err 12 else
    if eqb (place (l1_entry s root guest)) 0 then Ok None else
    Ok (Some (place (l1_entry s root guest)))

-- the bytes that are left from x + i on start a guest cluster and have one L1 entry
pub record Ahead (g : Geometry) (s : List ℕ) (x i left : ℕ) : Type 0 where
  pub some : 0 < left
  pub fits : x + (i + left) ≤ reach s g.root
  pub start : (x + i) % 2 ^ g.bits ≡ 0
  pub row : left ≤ row_left (2 ^ g.bits) (2 ^ (g.bits - 3)) (x + i)
