-- The plan of a write and of a discard by the request, once the header is accepted. Assumes nothing.
use Rattle.std.specs.Prelude.{Result, Err}
use Prim.Native.Nat.{ℕ, ◌+◌, ◌-◌, ◌*◌, ◌/◌, ◌%◌, ◌^◌, ◌≤◌, ◌<◌}
use native.Mathlib.Nat.{div-add-mod', mod-lt, mul-le-mul_right}
use native.Mathlib.Omega.{arith}
use mathlib.Core.Path.{◌≡◌, refl}
use mathlib.Core.Bool.{true, false, ◌||◌}
use mathlib.Core.List.{List, []}
use borrow.Author.Tests.{ltb-false, le-leb, lt-leb, eq-eqb, ne_eqb}
use lib.Dec.{ltb}
use lib.ListN.{length}
use lib.Pow.{pow_pos}
use Rattle.choice.specs.Pick.{ceil_div}
use Rattle.choice.proofs.Tests.{or-false}
use Rattle.units.specs.Plan.{refused, units}
use Rattle.qcow2_spec.specs.declared.Geometry.{Geometry}
use Rattle.qcow2_spec.specs.declared.Way.{Way}
use Rattle.qcow2_spec.specs.Header.{cluster_size, disk_size, per_table, roots, root_size}
use Rattle.qcow2_spec.specs.Opened.{Active}
use Rattle.qcow2_spec.specs.Guest.{reach, outside}
use Rattle.qcow2_spec.specs.Store.{clearing, own_way, write_way, write_list, discard_way, discard_list}
use Rattle.qcow2_guest.proofs.Ready.{active_size, reached, reached-cluster}
use Rattle.qcow2_own.specs.Past.{past_write}

module _ (g : Geometry) (s : List ℕ) (o : Active g s) where
  size : g.size ≡ disk_size s
  size = active_size g s o

  -- ---- a write of len bytes at x: they lie inside the disk and one guest cluster
  module _ (x len : ℕ) where
    past_is : past_write g.size (2 ^ g.bits) x len ≡ (outside s 0 x len || ltb (cluster_size s - x % cluster_size s) len)
    unfolding past_write outside reach
    past_is = rw (lt-leb (roots s) 0 (omega (arith, o.0.there)), size, o.0.is-cluster)

    module _ (h : past_write g.size (2 ^ g.bits) x len ≡ false) where
      tests : (x ≤ g.size) × ((len ≤ g.size - x) × (len ≤ 2 ^ g.bits - x % 2 ^ g.bits))
      unfolding past_write
      tests =
          let p = or-false (ltb g.size x || ltb (g.size - x) len) _ h in
          let q = or-false (ltb g.size x) _ p.0 in
          (ltb-false _ _ q.0, (ltb-false _ _ q.1, ltb-false _ _ p.1))

      pub fits : x % 2 ^ g.bits + len ≤ 2 ^ g.bits
      fits = omega (arith, tests.1.1, mod-lt x (pow_pos g.bits))

      -- its guest cluster starts inside the disk
      pub starts : (len ≡ 0 → ⊥) → x / 2 ^ g.bits * 2 ^ g.bits < g.size
      starts n = omega (arith, tests, div-add-mod' x (2 ^ g.bits))

      -- a byte of the disk has an entry in the active L1 table
      pub has_row : (len ≡ 0 → ⊥) → x / cluster_size s / per_table s < root_size s 0
      has_row n = rw o.1 at (reached g s o.0 x (omega (arith, tests, o.0.is-size)))

    -- d is what is to be written, over any backing file
    module _ (backing d : List ℕ) (e : length d ≡ len) where
      pub write-past : past_write g.size (2 ^ g.bits) x len ≡ true → clearing s (write_list backing s x d) ≡ refused 11
      unfolding write_list clearing
      write-past h = rw (e, ← past_is, h)

      pub write-none : past_write g.size (2 ^ g.bits) x len ≡ false → len ≡ 0 → clearing s (write_list backing s x d) ≡ units []
      unfolding write_list clearing
      write-none h z = rw (e, ← past_is, h, eq-eqb len 0 z)

      pub write-some : (y q : ℕ) (v : Result Way ℕ) → past_write g.size (2 ^ g.bits) x len ≡ false → (len ≡ 0 → ⊥) → y ≡ x / 2 ^ g.bits → q ≡ x % 2 ^ g.bits → v ≡ own_way s y
          → clearing s (write_list backing s x d) ≡ clearing s (write_way backing s v y q d)
      unfolding write_list
      write-some y q v h n f r k = rw (e, ← past_is, h, ne_eqb len 0 n, ← o.0.is-cluster, ← f, ← r, ← k)

      -- the way is refused with k
      pub write-refused : (y k : ℕ) → past_write g.size (2 ^ g.bits) x len ≡ false → (len ≡ 0 → ⊥) → y ≡ x / 2 ^ g.bits → Err k ≡ own_way s y → clearing s (write_list backing s x d) ≡ refused k
      unfolding write_way clearing
      write-refused y k h n f q = write-some y _ (Err k) h n f refl q

  -- ---- a discard: the guest cluster starts inside the disk
  module _ (guest : ℕ) where
    pub discard-past : ceil_div g.size (2 ^ g.bits) ≤ guest → clearing s (discard_list s guest) ≡ refused 11
    unfolding discard_list clearing
    discard-past h = rw (le-leb (disk_size s) (guest * cluster_size s) past)
      where
        past : disk_size s ≤ guest * cluster_size s
        past =
            let m = mul-le-mul_right (2 ^ g.bits) h in
            let b = mod-lt (g.size + (2 ^ g.bits - 1)) (pow_pos g.bits) in
            rw (← o.0.is-cluster, ← size) (omega (arith, m, b, div-add-mod' (g.size + (2 ^ g.bits - 1)) (2 ^ g.bits), pow_pos g.bits))

    module _ (h : guest < ceil_div g.size (2 ^ g.bits)) where
      inside : guest * cluster_size s < g.size
      inside =
          let m = mul-le-mul_right (2 ^ g.bits) h in
          rw (← o.0.is-cluster) (omega (arith, m, div-add-mod' (g.size + (2 ^ g.bits - 1)) (2 ^ g.bits), pow_pos g.bits))

      pub has_row-cluster : guest / per_table s < root_size s 0
      has_row-cluster = rw o.1 at (reached-cluster g s o.0 guest (omega (arith, inside, o.0.is-size)))

      pub discard-some : (v : Result Way ℕ) → v ≡ own_way s guest → clearing s (discard_list s guest) ≡ clearing s (discard_way s v)
      unfolding discard_list
      discard-some v k = rw (lt-leb (disk_size s) (guest * cluster_size s) (rw size at inside), ← k)

      pub discard-refused : (k : ℕ) → Err k ≡ own_way s guest → clearing s (discard_list s guest) ≡ refused k
      unfolding discard_way clearing
      discard-refused k q = discard-some (Err k) q
