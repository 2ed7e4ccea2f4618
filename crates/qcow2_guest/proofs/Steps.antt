-- The way by its tests, and where a byte lies by its way, in the code's terms.
-- Assumes nothing.
use Rattle.std.specs.Prelude.{Err, Ok, Result}
use Prim.Native.Nat.{ℕ, ◌+◌, ◌-◌, ◌*◌, ◌/◌, ◌%◌, ◌^◌, ◌≤◌, ◌<◌}
use native.Mathlib.Omega.{arith}
use mathlib.Core.Path.{◌≡◌}
use mathlib.Core.Bool.{Bool, true, false}
use mathlib.Core.List.{List}
use borrow.Author.Tests.{eq-eqb, ne_eqb}
use lib.ListN.{length}
use Rattle.endian.specs.Big.{be64, part}
use Rattle.qcow2_spec.specs.Header.{cluster_size, per_table, root_size}
use Rattle.qcow2_spec.specs.Entries.{place, good_l1}
use Rattle.qcow2_spec.specs.Guest.{l1_entry_at, l1_entry, entry_way, l2_way, way, way_gives, located}
use Rattle.qcow2_spec.specs.Opened.{Opened}
use Rattle.qcow2_spec.specs.declared.Geometry.{Geometry}
use Rattle.qcow2_spec.specs.declared.Way.{Way}
use Rattle.qcow2_spec.specs.declared.Way.TheVariants.{NoTable}
use Rattle.qcow2_spec.proofs.Facts.{facts}
use Rattle.qcow2_spec.proofs.Refers.{placed1}

module _ (g : Geometry) (s : List ℕ) (o : Opened g s) where
  -- where the L1 entry of a guest cluster stands
  pub row_in : (guest : ℕ) → guest / per_table s < root_size s g.root → g.l1at + 8 * (guest / 2 ^ (g.bits - 3)) + 8 ≤ length s
  row_in guest h = rw (o.is_l1at, o.is-per) (omega (arith, o.l1_fits))

  pub row-entry : (guest : ℕ) → be64 s (g.l1at + 8 * (guest / 2 ^ (g.bits - 3))) ≡ l1_entry s g.root guest
  unfolding l1_entry l1_entry_at
  row-entry guest = rw (o.is_l1at, o.is-per)

  -- entry i of the L2 table at t, which is a part of the image
  pub table-entry : (t guest i : ℕ) → i ≡ guest % 2 ^ (g.bits - 3)
      → entry_way g.version (2 ^ g.bits) (length s) (t + 8 * i) (be64 (part s t (2 ^ g.bits)) (8 * i)) ≡ l2_way s t (guest % per_table s)
  unfolding l2_way
  table-entry t guest i e = rw (e, o.is-version, o.is-cluster, o.is-per)

  -- the L1 entry e of a guest cluster, whose test gave b
  module _ (guest e : ℕ) (q : e ≡ l1_entry s g.root guest) where
    tested : (b : Bool) → good_l1 (2 ^ g.bits) (length s) e ≡ b → good_l1 (cluster_size s) (length s) (l1_entry s g.root guest) ≡ b
    tested b h = rw (← o.is-cluster, ← q) h

    pub way-bad : good_l1 (2 ^ g.bits) (length s) e ≡ false → Err 12 ≡ way s g.root guest
    unfolding way
    way-bad h = rw (tested false h)

    module _ (h : good_l1 (2 ^ g.bits) (length s) e ≡ true) where
      pub table_in : place e + cluster_size s ≤ length s
      table_in = rw q (placed1 s (facts s o.accepted) (l1_entry s g.root guest) (tested true h)).inside

      pub way-none : place e ≡ 0 → Ok NoTable ≡ way s g.root guest
      unfolding way
      way-none z = let t : place (l1_entry s g.root guest) ≡ 0 = rw (← q) z in rw (tested true h, eq-eqb (place (l1_entry s g.root guest)) 0 t)

      pub way-some : (place e ≡ 0 → ⊥) → l2_way s (place e) (guest % per_table s) ≡ way s g.root guest
      unfolding way
      way-some z = let t : place (l1_entry s g.root guest) ≡ 0 → ⊥ = rw (← q) z in rw (tested true h, ne_eqb (place (l1_entry s g.root guest)) 0 t, q)

  -- byte x of the disk, in guest cluster q at the end of way w
  pub located-at : (x q r : ℕ) (w : Result Way ℕ) → q ≡ x / 2 ^ g.bits → r ≡ x % 2 ^ g.bits → way s g.root q ≡ w → way_gives w r ≡ located s g.root x
  unfolding located
  located-at x q r w d e h = rw (← o.is-cluster, ← d, ← e, h)
