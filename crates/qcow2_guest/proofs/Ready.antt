-- The way to a guest cluster lies in the image.
-- Assumes nothing.
use Rattle.std.specs.Prelude.{Err, Ok, Result}
use Prim.Native.Nat.{ℕ, ◌+◌, ◌*◌, ◌/◌, ◌%◌, ◌≤◌, ◌<◌}
use native.Mathlib.Nat.{mod-lt, mul-div_cancel}
use native.Mathlib.Omega.{arith}
use mathlib.Core.Path.{◌≡◌, ap, subst, ◌∙◌}
use mathlib.Core.Bool.{true, not}
use mathlib.Core.List.{List}
use borrow.Author.Tests.{not-false}
use lib.Dec.{eqb}
use lib.ListN.{length}
use Rattle.choice.proofs.Tests.{if_elim}
use Rattle.endian.specs.Big.{be64, part}
use Rattle.qcow2_spec.specs.Header.{version, cluster_size, disk_size, per_table, root_size}
use Rattle.qcow2_spec.specs.Entries.{place, good_l1, good_l2, compressed}
use Rattle.qcow2_spec.specs.Guest.{reach, l1_entry_at, l1_entry, entry_way, l2_way, way}
use Rattle.qcow2_spec.specs.Opened.{Opened, Active}
use Rattle.qcow2_spec.specs.declared.Geometry.{Geometry}
use Rattle.qcow2_spec.specs.declared.Way.{Way}
use Rattle.qcow2_spec.specs.declared.Way.TheVariants.{NoTable, Slot}
use Rattle.qcow2_spec.proofs.Facts.{facts, c_pos, e_pos}
use Rattle.qcow2_spec.proofs.Refers.{placed1}
use Rattle.qcow2_spec.proofs.Ways.{in_root}
use Rattle.qcow2_spec.specs.Ready.{Slotted, Ready}

-- a way through any L1 table that lies in the image
abbrev pub Lies : Geometry → List ℕ → Result Way ℕ → (guest : ℕ) → Type 0
Lies g s (Err k) guest = Unit {0}
Lies g s (Ok NoTable) guest = l1_entry_at s g.root guest + 8 ≤ length s
Lies g s (Ok (Slot a e)) guest = Slotted g s a e

module _ (g : Geometry) (s : List ℕ) (o : Opened g s) where
  -- a byte of the disk has an L1 entry
  pub reached : (x : ℕ) → x < reach s g.root → x / cluster_size s / per_table s < root_size s g.root
  reached x h = in_root s (facts s o.accepted) g.root x h

  -- and so has a guest cluster that starts on it
  pub reached-cluster : (guest : ℕ) → guest * cluster_size s < reach s g.root → guest / per_table s < root_size s g.root
  reached-cluster guest h = rw (mul-div_cancel guest (c_pos s (facts s o.accepted))) at (reached (guest * cluster_size s) h)

  -- what is found on the way lies in the image
  pub way_lies : (guest : ℕ) → guest / per_table s < root_size s g.root → Lies g s (way s g.root guest) guest
  unfolding way l2_way entry_way l1_entry_at
  way_lies guest h =
      if_elim R (not (good_l1 (cluster_size s) (length s) (l1_entry s g.root guest))) _ _ (λ b. tt)
      (λ b. if_elim R (eqb (place (l1_entry s g.root guest)) 0) _ _ (λ z. omega (arith, o.l1_fits))
      (λ z. if_elim R (compressed e) _ _ (λ c. tt)
      (λ c. if_elim R (not (good_l2 (version s) (cluster_size s) (length s) e)) _ _ (λ d. tt)
      (λ d. record { opened = o; inside = inside (not-false _ b); good = not-false _ d }))))
    where
      R : Result Way ℕ → Type 0
      R w = Lies g s w guest

      e : ℕ
      e = be64 (part s (place (l1_entry s g.root guest)) (cluster_size s)) (8 * (guest % per_table s))

      inside : good_l1 (cluster_size s) (length s) (l1_entry s g.root guest) ≡ true → place (l1_entry s g.root guest) + 8 * (guest % per_table s) + 8 ≤ length s
      inside b =
          let f = facts s o.accepted in
          omega (arith, (placed1 s f (l1_entry s g.root guest) b).inside, o.eight, mod-lt guest (e_pos s f))

-- of the active table
module _ (g : Geometry) (s : List ℕ) (a : Active g s) where
  pub active_size : g.size ≡ disk_size s
  unfolding reach
  active_size = a.0.is-size ∙ ap (reach s) a.1

  -- as storing asks for it
  pub way-ready : (guest : ℕ) → guest / per_table s < root_size s 0 → Ready g s (way s 0 guest) guest
  way-ready guest h =
      let r : guest / per_table s < root_size s g.root = rw a.1 h in
      go (way s 0 guest) (subst (λ (t : ℕ). Lies g s (way s t guest) guest) a.1 (way_lies g s a.0 guest r))
    where
      go : (w : Result Way ℕ) → Lies g s w guest → Ready g s w guest
      go (Err k) l = tt
      go (Ok NoTable) l = subst (λ (t : ℕ). l1_entry_at s t guest + 8 ≤ length s) a.1 l
      go (Ok (Slot b e)) l = l
