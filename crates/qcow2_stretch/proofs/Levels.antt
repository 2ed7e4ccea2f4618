-- What lies below an L1 entry.
-- Assumes nothing.
use Rattle.std.specs.Prelude.{if◌then◌else◌, Option, Some, None, Err, Ok, Result}
use Prim.Native.Nat.{ℕ, ◌+◌, ◌-◌, ◌/◌, ◌%◌, ◌^◌, ◌≤◌, ◌<◌}
use native.Mathlib.Omega.{arith}
use mathlib.Core.Path.{◌≡◌, refl, sym, ◌∙◌}
use mathlib.Core.Bool.{Bool, true, false, not}
use mathlib.Core.List.{List}
use borrow.Author.Tests.{ne_eqb}
use lib.Dec.{eqb}
use lib.ListN.{length}
use Rattle.qcow2_spec.specs.Header.{cluster_size, per_table}
use Rattle.qcow2_spec.specs.Entries.{place, good_place, good_l1}
use Rattle.qcow2_spec.specs.Guest.{l1_entry, l2_way, way, way_gives, located}
use Rattle.qcow2_spec.specs.Runs.{moved, same_found, goes_on}
use Rattle.qcow2_spec.specs.Opened.{Opened}
use Rattle.qcow2_spec.specs.declared.Geometry.{Geometry}
use Rattle.qcow2_spec.specs.declared.Found.{Found}
use Rattle.qcow2_spec.specs.declared.Found.TheVariants.{Host, Zeros, Absent}
use Rattle.qcow2_spec.specs.declared.Way.{Way}
use Rattle.qcow2_spec.specs.declared.Way.TheVariants.{NoTable}
use Rattle.qcow2_spec.proofs.Facts.{facts}
use Rattle.qcow2_spec.proofs.Refers.{placed1}
use Rattle.qcow2_plain.specs.Plain.{bare, plain}
use Rattle.qcow2_plain.proofs.Plain.{plain-parts, plain_row, other_row}
use Rattle.qcow2_guest.specs.Rows.{Below, row_left}
use Rattle.qcow2_guest.proofs.Bytes.{same_row}
use Rattle.qcow2_stretch.specs.Going.{Goes, row_of}

-- ---- by the tests of the L1 entry e
module _ (g : Geometry) (s : List ℕ) (o : Opened g s) (guest e : ℕ) (q : e ≡ l1_entry s g.root guest) where
  pub is-empty : e ≡ 0 → Ok None ≡ row_of s g.root guest
  unfolding row_of good_l1 good_place place
  is-empty z = rw (← q, z)

  pub is_tableat : plain (2 ^ g.bits) (length s) e ≡ true → Ok (Some (bare e)) ≡ row_of s g.root guest
  unfolding row_of
  is_tableat h =
      let p = plain_row g.bits (length s) e o.low o.short h in
      let f : place e ≡ 0 → ⊥ = λ z. omega (arith, p.1, z, (plain-parts g.bits (length s) e h).some) in
      rw (← q, ← o.is-cluster, p.0, ne_eqb (place e) 0 f, p.1)

  pub is-bad : plain (2 ^ g.bits) (length s) e ≡ false → (e ≡ 0 → ⊥) → Err 12 ≡ row_of s g.root guest
  unfolding row_of
  is-bad h z = rw (← q, ← o.is-cluster, other_row (2 ^ g.bits) (length s) e h z)

-- ---- the way of a guest cluster
module _ (s : List ℕ) (root guest : ℕ) where
  abbrev e : ℕ
  e = l1_entry s root guest

  abbrev row_by : (a b : Bool) → Result (Option ℕ) ℕ
  row_by a b = if not a then Err 12 else if b then Ok None else Ok (Some (place e))

  abbrev way_by : (a b : Bool) → Result Way ℕ
  way_by a b = if not a then Err 12 else if b then Ok NoTable else l2_way s (place e) (guest % per_table s)

  way_of_bad : (k : ℕ) → Err k ≡ row_of s root guest → way s root guest ≡ Err k
  unfolding row_of way
  way_of_bad k = go (good_l1 (cluster_size s) (length s) e) (eqb (place e) 0)
    where
      go : (a b : Bool) → Err k ≡ row_by a b → way_by a b ≡ Err k
      go false b y = cc
      go true true y = cc
      go true false y = cc

  way_of_empty : Ok None ≡ row_of s root guest → way s root guest ≡ Ok NoTable
  unfolding row_of way
  way_of_empty = go (good_l1 (cluster_size s) (length s) e) (eqb (place e) 0)
    where
      go : (a b : Bool) → Ok None ≡ row_by a b → way_by a b ≡ Ok NoTable
      go false b y = cc
      go true true y = refl
      go true false y = cc

  way_of_table : (t : ℕ) → Ok (Some t) ≡ row_of s root guest → ((way s root guest ≡ l2_way s t (guest % per_table s)) × (t ≡ place e)) × (good_l1 (cluster_size s) (length s) e ≡ true)
  unfolding row_of way
  way_of_table t = go (good_l1 (cluster_size s) (length s) e) (eqb (place e) 0)
    where
      go : (a b : Bool) → Ok (Some t) ≡ row_by a b → ((way_by a b ≡ l2_way s t (guest % per_table s)) × (t ≡ place e)) × (a ≡ true)
      go false b y = cc
      go true true y = cc
      go true false y = let z : t ≡ place e = cc in ((rw z, z), refl)

-- ---- the bytes with one L1 entry
module _ (g : Geometry) (s : List ℕ) (o : Opened g s) (x n : ℕ) (h : n ≤ row_left (2 ^ g.bits) (2 ^ (g.bits - 3)) x) where
  rows_same : (w : Result (Option ℕ) ℕ) → w ≡ row_of s g.root (x / 2 ^ g.bits) → (j : ℕ) → j < n → w ≡ row_of s g.root ((x + j) / cluster_size s)
  unfolding row_of
  rows_same w e j l = let d : w ≡ row_of s g.root (x / cluster_size s) = rw o.is-cluster at e in d ∙ rw (same_row g s o x n h j l)

  pub bad-found : (k : ℕ) → Err k ≡ row_of s g.root (x / 2 ^ g.bits) → (j : ℕ) → j < n → located s g.root (x + j) ≡ Err k
  unfolding located way_gives
  bad-found k e j l = rw (way_of_bad s g.root ((x + j) / cluster_size s) k (rows_same (Err k) e j l))

  pub empty-found : Ok None ≡ row_of s g.root (x / 2 ^ g.bits) → (j : ℕ) → j < n → located s g.root (x + j) ≡ Ok Absent
  unfolding located way_gives
  empty-found e j l = rw (way_of_empty s g.root ((x + j) / cluster_size s) (rows_same (Ok None) e j l))

  pub table_below : (t : ℕ) → Ok (Some t) ≡ row_of s g.root (x / 2 ^ g.bits) → 0 < n → Below s g.root t x n
  table_below t e p =
      let z = way_of_table s g.root ((x + 0) / cluster_size s) t (rows_same (Ok (Some t)) e 0 p) in
      record {
        inside = rw z.0.1 (placed1 s (facts s o.accepted) _ z.1).inside;
        ways = λ j l. (way_of_table s g.root ((x + j) / cluster_size s) t (rows_same (Ok (Some t)) e j l)).0.0;
      }

-- ---- all bytes of a row, or none
pub absent_still : (f : Result Found ℕ) (i : ℕ) → same_found (Ok Absent) (moved f i) ≡ same_found (Ok Absent) f
unfolding same_found
absent_still (Ok (Host h)) i = refl
absent_still (Ok Zeros) i = refl
absent_still (Ok Absent) i = refl
absent_still (Err k) i = refl

pub refused_still : (k : ℕ) (f : Result Found ℕ) (i : ℕ) → same_found (Err k) (moved f i) ≡ same_found (Err k) f
unfolding same_found
refused_still k (Ok (Host h)) i = refl
refused_still k (Ok Zeros) i = refl
refused_still k (Ok Absent) i = refl
refused_still k (Err m) i = refl

module _ (s : List ℕ) (root x i left : ℕ) (f e : Result Found ℕ) (d : f ≡ located s root x) (same : (j : ℕ) → j < left → located s root (x + i + j) ≡ e) (still : (j : ℕ) → same_found e (moved f j) ≡ same_found e f) where
  goes_if : (j : ℕ) → j < left → goes_on s root x (i + j) ≡ same_found e f
  unfolding goes_on
  goes_if j l = let a : x + (i + j) ≡ x + i + j = omega arith in rw (a, same j l, ← d) (still (i + j))

  pub whole_row : (r : ℕ) (t : Bool) → t ≡ same_found e f → r ≡ (if t then left else 0) → Goes s root x i left r
  whole_row r true b q = record { most = omega arith; on = λ j l. goes_if j (omega arith) ∙ sym b; ends = λ l. absurd (omega arith) }
  whole_row r false b q = record { most = omega arith; on = λ j l. absurd (omega arith); ends = λ l. rw q (goes_if 0 (omega arith) ∙ sym b) }
