-- What a way that lies in the image gives. Assumes nothing.
use Rattle.std.specs.Prelude.{Ok}
use Prim.Native.Nat.{ℕ, ◌+◌, ◌/◌, ◌^◌, ◌≤◌, ◌<◌}
use native.Mathlib.Nat.{div-lt_iff_lt-mul}
use native.Mathlib.Omega.{arith}
use mathlib.Core.Path.{◌≡◌, subst}
use mathlib.Core.List.{List}
use lib.Pow.{pow_pos}
use lib.ListN.{length}
use Rattle.qcow2_spec.specs.Header.{version, cluster_size}
use Rattle.qcow2_spec.specs.Entries.{place}
use Rattle.qcow2_spec.specs.Guest.{l1_entry_at}
use Rattle.qcow2_spec.specs.declared.Geometry.{Geometry}
use Rattle.qcow2_spec.specs.declared.Way.{Way}
use Rattle.qcow2_spec.specs.declared.Way.TheVariants.{NoTable, Slot}
use Rattle.qcow2_spec.proofs.Facts.{placed, good_place2, c_pos, c_in}
use Rattle.qcow2_spec.specs.Ready.{Slotted, Ready}
use Rattle.qcow2_counts.proofs.Sizes.{sizes}

-- an entry that is good names a cluster of the image
pub record Placed (g : Geometry) (s : List ℕ) (p : ℕ) : Type 0 where
  pub inside : p + 2 ^ g.bits ≤ length s
  pub cluster : p / 2 ^ g.bits < g.clusters

pub placed_at : (g : Geometry) (s : List ℕ) (a e : ℕ) → Slotted g s a e → Placed g s (place e)
placed_at g s a e o =
    let f = (sizes g s o.opened).all in
    let h = placed (cluster_size s) (length s) e (c_pos s f) (c_in s f) (good_place2 (version s) (cluster_size s) (length s) e o.good) in
    let i : place e + 2 ^ g.bits ≤ length s = rw o.opened.is-cluster h.inside in
    record { inside = i; cluster = (div-lt_iff_lt-mul (pow_pos g.bits)).1 (omega (arith, o.opened.whole, pow_pos g.bits)) }

module _ (g : Geometry) (s : List ℕ) (w : Way) (x : ℕ) (r : Ready g s (Ok w) x) where
  pub ready-slot : (a e : ℕ) → w ≡ Slot a e → Slotted g s a e
  ready-slot a e q = subst (λ (y : Way). Ready g s (Ok y) x) q r

  pub ready-none : w ≡ NoTable → l1_entry_at s 0 x + 8 ≤ length s
  ready-none q = subst (λ (y : Way). Ready g s (Ok y) x) q r
