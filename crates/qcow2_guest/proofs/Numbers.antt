-- The number of a read: of the ways that it takes, and of its range.
-- Assumes nothing.
use Prim.Native.Nat.{ℕ, zero, suc, ◌+◌, ◌-◌, ◌*◌, ◌/◌, ◌^◌, ◌≤◌, ◌<◌}
use native.Mathlib.Nat.{div-lt_iff_lt-mul, div-le_self, mod-lt, div-add-mod', not-suc-le-zero}
use native.Mathlib.Omega.{arith}
use mathlib.Core.Path.{◌≡◌, refl}
use mathlib.Core.List.{List}
use borrow.Author.Tests.{eq-eqb, ne_eqb, lt-ltb, le-ltb, lt-leb}
use lib.ListN.{length}
use Rattle.choice.proofs.Tests.{if_zero}
use Rattle.qcow2_spec.specs.Header.{cluster_size, per_table, roots, root_size}
use Rattle.qcow2_spec.specs.Guest.{reach, ways_number, outside, touched, guest_bytes, range_number, range_into}
use Rattle.qcow2_spec.specs.Opened.{Opened}
use Rattle.qcow2_spec.specs.declared.Geometry.{Geometry}
use Rattle.qcow2_spec.proofs.Facts.{facts, c_pos, e_pos}
use Rattle.qcow2_spec.proofs.Ways.{inside, reach_in}

-- ---- the guest clusters that a range touches
pub div_mono : (C x y : ℕ) → 0 < C → x ≤ y → x / C ≤ y / C
div_mono C x y p h =
    let f : x / C < y / C + 1 = (div-lt_iff_lt-mul p).1 (omega (arith, div-add-mod' y C, mod-lt y p)) in omega arith

pub touched_none : (C x : ℕ) → touched C x 0 ≡ 0
unfolding touched
touched_none C x = refl

pub touched-some : (C x len : ℕ) → 0 < len → touched C x len ≡ (x + (len - 1)) / C + 1 - x / C
unfolding touched
touched-some C x zero h = absurd (not-suc-le-zero h)
touched-some C x (suc l) h = let e : suc l - 1 ≡ l = omega arith in rw e

pub touched-most : (C x len : ℕ) → x / C + touched C x len ≤ x + len
unfolding touched
touched-most C x zero = omega (arith, div-le_self x C)
touched-most C x (suc l) = omega (arith, div-le_self x C, div-le_self (x + l) C)

touched-below : (C x len m : ℕ) → 0 < C → x + len ≤ m * C → x / C + touched C x len ≤ m
unfolding touched
touched-below C x zero m p h =
    let f : x / C < m + 1 = (div-lt_iff_lt-mul p).1 (omega arith) in omega arith
touched-below C x (suc l) m p h =
    let f : (x + l) / C < m = (div-lt_iff_lt-mul p).1 (omega arith) in omega (arith, div_mono C x (x + l) p (omega arith))

-- ---- a range on the disk
module _ (g : Geometry) (s : List ℕ) (o : Opened g s) where
  -- a guest cluster that the L1 table reaches
  pub row_of : (guest : ℕ) → guest < root_size s g.root * per_table s → guest / per_table s < root_size s g.root
  row_of guest h = (div-lt_iff_lt-mul (e_pos s (facts s o.accepted))).1 h

  module _ (x len : ℕ) where
    pub number_offset : g.size < x → range_number s g.root x len ≡ 11
    unfolding range_number outside
    number_offset h = rw (lt-leb (roots s) g.root o.there, ← o.is-size, lt-ltb g.size x h)

    pub number_range : x ≤ g.size → g.size - x < len → range_number s g.root x len ≡ 11
    unfolding range_number outside
    number_range h n = rw (lt-leb (roots s) g.root o.there, ← o.is-size, le-ltb g.size x h, lt-ltb (g.size - x) len n)

    pub number-ways : x ≤ g.size → len ≤ g.size - x → range_number s g.root x len ≡ ways_number s g.root (x / 2 ^ g.bits) (touched (2 ^ g.bits) x len)
    unfolding range_number outside
    number-ways h n = rw (lt-leb (roots s) g.root o.there, ← o.is-size, le-ltb g.size x h, le-ltb (g.size - x) len n, o.is-cluster)

    -- the L1 table reaches each guest cluster that the range touches
    pub range_in : x + len ≤ g.size → x / 2 ^ g.bits + touched (2 ^ g.bits) x len ≤ root_size s g.root * per_table s
    range_in h =
        let f = facts s o.accepted in
        rw o.is-cluster (touched-below (cluster_size s) x len (root_size s g.root * per_table s) (c_pos s f) (omega (arith, reach_in s f g.root, o.is-size)))

    -- an accepted range lies on the disk
    pub number_fits : range_number s g.root x len ≡ 0 → x + len ≤ reach s g.root
    unfolding range_number
    number_fits e = (inside s (facts s o.accepted) g.root x len (if_zero (outside s g.root x len) 10 _ e).0).1

-- ---- what a read leaves in its output
module _ (backing s : List ℕ) (r x : ℕ) (out : List ℕ) where
  pub into_refused : (range_number s r x (length out) ≡ 0 → ⊥) → range_into backing s r x out ≡ out
  unfolding range_into
  into_refused h = rw (ne_eqb (range_number s r x (length out)) 0 h)

  pub into_done : range_number s r x (length out) ≡ 0 → range_into backing s r x out ≡ guest_bytes backing s r x (length out)
  unfolding range_into
  into_done h = rw (eq-eqb (range_number s r x (length out)) 0 h)
