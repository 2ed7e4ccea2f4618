-- The places of a write where there is no L2 table. Assumes nothing.
use Prim.Native.Nat.{ℕ, ◌+◌, ◌-◌, ◌*◌, ◌/◌, ◌%◌, ◌^◌, ◌≤◌, ◌<◌}
use native.Mathlib.Nat.{mod-lt}
use native.Mathlib.Omega.{arith}
use mathlib.Core.Path.{◌≡◌}
use mathlib.Core.List.{List}
use lib.ListN.{length}
use Rattle.qcow2_spec.specs.Header.{cluster_size, clusters, per_table}
use Rattle.qcow2_spec.specs.Counts.{count_at}
use Rattle.qcow2_spec.specs.Guest.{l1_entry_at}
use Rattle.qcow2_spec.specs.Opened.{Opened}
use Rattle.qcow2_spec.specs.declared.Geometry.{Geometry}
use Rattle.qcow2_spec.proofs.Facts.{e_pos, count_in, cluster_in}
use Rattle.qcow2_put.specs.Links.{Linked, places}
use Rattle.qcow2_put.specs.declared.linking.Places.{Places}
use Rattle.qcow2_counts.proofs.Sizes.{sizes}

module _ (g : Geometry) (s : List ℕ) (o : Opened g s) (x : ℕ) where
  -- the place of guest cluster x's L1 entry in the active table, and its index in an L2 table
  pub link_is : g.root ≡ 0 → (q : ℕ) → q ≡ x / 2 ^ (g.bits - 3) → g.l1at + 8 * q ≡ l1_entry_at s 0 x
  unfolding l1_entry_at
  link_is z q e = rw (e, o.is-per, o.is_l1at, z)

  pub slot_in : 8 * (x % 2 ^ (g.bits - 3)) + 8 ≤ 2 ^ g.bits
  slot_in = rw (o.is-per, o.is-cluster) (omega (arith, o.eight, mod-lt x (e_pos s (sizes g s o).all)))

  module _ (t k : ℕ) where
    pub places_are : (r v w c z m : ℕ) → r ≡ g.order → c ≡ 2 ^ g.bits → v ≡ count_at s t → w ≡ count_at s k → z ≡ x % 2 ^ (g.bits - 3) → m ≡ l1_entry_at s 0 x
        → ◌≡◌ {A = Places} (record { order = r; tablecount = v; table = t * c; datacount = w; place = k * c; slot = t * c + 8 * z; link = m }) (places s x t k)
    unfolding places
    places_are r v w c z m q n a b e f = rw (q, n, a, b, e, f, o.is-order, o.is-cluster, o.is-per)

    pub places_in : l1_entry_at s 0 x + 8 ≤ length s → t < g.clusters → k < g.clusters → Linked (length s) (places s x t k) (2 ^ g.bits)
    unfolding places
    places_in h i j =
        let f = (sizes g s o).all in
        let l : t < clusters s = omega (arith, o.is-clusters) in
        let m : k < clusters s = omega (arith, o.is-clusters) in
        let e : 8 * (x % per_table s) + 8 ≤ 2 ^ g.bits = rw o.is-per at slot_in in
        let a : t * cluster_size s + 2 ^ g.bits ≤ length s = rw o.is-cluster (cluster_in s f t l) in
        let b : k * cluster_size s + 2 ^ g.bits ≤ length s = rw o.is-cluster (cluster_in s f k m) in
        record {
          tablecounted = count_in s f t l;
          tabled = a;
          counted = count_in s f k m;
          inside = b;
          entered = omega arith;
          linked = h;
          short = o.short;
        }
