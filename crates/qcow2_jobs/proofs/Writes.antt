-- What a write is found to be. Assumes nothing.
use Rattle.std.specs.Prelude.{Err, Ok, Result}
use Prim.Native.Nat.{ℕ, ◌+◌, ◌-◌, ◌*◌, ◌^◌, ◌≤◌, ◌<◌}
use native.Mathlib.Nat.{mod-lt}
use native.Mathlib.Omega.{arith}
use mathlib.Core.Path.{◌≡◌, ◌∙◌}
use mathlib.Core.Bool.{Bool, true, false}
use mathlib.Core.List.{List}
use lib.ListN.{length}
use borrow.Author.Tests.{eqb-true, eq-eqb, ne_eqb, le-leb, lt-leb}
use Rattle.endian.specs.Big.{splice}
use Rattle.choice.proofs.Runs.{first-low, first-high}
use Rattle.choice.proofs.Found.{first_passes}
use Rattle.widths.specs.Width.{Inside}
use Rattle.qcow2_spec.specs.Header.{clusters, width}
use Rattle.qcow2_spec.specs.Entries.{place, zero_mark}
use Rattle.qcow2_spec.specs.Counts.{count_at, count_of, set_count, free_at, free_from}
use Rattle.qcow2_spec.specs.Store.{allot, backing_cluster, new_bytes, write_slot, write_new, write_table, write_way}
use Rattle.qcow2_spec.specs.Opened.{Opened}
use Rattle.qcow2_spec.specs.Ready.{Slotted}
use Rattle.qcow2_spec.specs.declared.Geometry.{Geometry}
use Rattle.qcow2_spec.specs.declared.Way.{Way}
use Rattle.qcow2_spec.specs.declared.Way.TheVariants.{NoTable, Slot}
use Rattle.qcow2_spec.proofs.Facts.{e_pos}
use Rattle.qcow2_put.specs.Links.{Linked, places, table_units}
use Rattle.qcow2_jobs.specs.Jobs.{Decides}
use Rattle.qcow2_put.specs.declared.linking.Places.{Places}
use Rattle.qcow2_jobs.specs.declared.finding.Job.{Job}
use Rattle.qcow2_jobs.specs.declared.finding.Job.TheVariants.{Bytes, Marked, New, Table}
use Rattle.qcow2_counts.proofs.Sizes.{sizes, inside-at}
use Rattle.qcow2_jobs.proofs.Slots.{placed_at}

-- where a free cluster is
pub free-most : (s : List ℕ) → free_from s 0 ≤ clusters s
unfolding free_from
free-most s = omega (arith, first-high (free_at s) 0 (clusters s - 0))

pub free-least : (s : List ℕ) (i : ℕ) → i ≤ free_from s i
unfolding free_from
free-least s i = first-low (free_at s) i (clusters s - i)

pub free-zero : (s : List ℕ) (i k : ℕ) → k ≡ free_from s i → k < clusters s → count_of s k ≡ 0
unfolding free_from free_at
free-zero s i k e h =
    let l : i ≤ k = rw e (first-low (free_at s) i (clusters s - i)) in
    rw e (eqb-true _ _ (first_passes (free_at s) i (clusters s - i) (omega (arith, e))))

module _ (g : Geometry) (s : List ℕ) (o : Opened g s) (x : ℕ) where
  -- a new cluster k for guest cluster x, whose entry e stands at a place, or none
  module _ (at k e : ℕ) where
    pub full : g.clusters ≤ k → Decides s (2 ^ g.bits) x (Err 14) (λ b i d. write_new s at k (new_bytes b s x e i d))
    unfolding write_new
    full h = record { same = λ b i d. rw (le-leb (clusters s) k (rw o.is-clusters at h)); inside = tt; fresh = tt }

    pub newly : (m : Bool) (n c : ℕ) → m ≡ zero_mark e → k < g.clusters → count_of s k ≡ 0 → at + 8 ≤ length s → n ≡ count_at s k → Inside g.order (length s) n → c ≡ 2 ^ g.bits
        → Decides s (2 ^ g.bits) x (Ok (New m g.order n at (k * c))) (λ b i d. write_new s at k (new_bytes b s x e i d))
    unfolding write_new new_bytes allot set_count count_of
    newly m n c q h z a f i l =
        record { same = λ b j d. rw (lt-leb (clusters s) k (rw o.is-clusters at h), q, f, l, o.is-cluster, o.is-width); inside = (i, (a, rw (← l) (inside-at g s o k c h l))); fresh = rw (f, o.is-width) z }

  -- a new L2 table t and a new cluster k, or none
  module _ (t k : ℕ) where
    pub full-table : g.clusters ≤ k → Decides s (2 ^ g.bits) x (Err 14) (λ b i d. write_table s x t k (splice (backing_cluster b s x) i d))
    unfolding write_table
    full-table h = record { same = λ b i d. rw (le-leb (clusters s) k (rw o.is-clusters at h)); inside = tt; fresh = tt }

    pub tabled : (p : Places) → k < g.clusters → count_of s t ≡ 0 → count_of s k ≡ 0 → p ≡ places s x t k → Linked (length s) p (2 ^ g.bits)
        → Decides s (2 ^ g.bits) x (Ok (Table p)) (λ b i d. write_table s x t k (splice (backing_cluster b s x) i d))
    unfolding write_table table_units allot set_count places width count_of
    tabled p h y z e l =
        record {
          same = λ b i d. rw (lt-leb (clusters s) k (rw o.is-clusters at h), e, o.is-cluster);
          inside = l;
          fresh = rw (e, o.is-cluster) ((y, z), (omega arith, omega (arith, o.eight, mod-lt x (e_pos s (sizes g s o).all))));
        }

-- the entry e of guest cluster x stands at a place
module _ (g : Geometry) (s : List ℕ) (at e : ℕ) (o : Slotted g s at e) (x : ℕ) where
  pub slot_new : (r : Result Job ℕ) → place e ≡ 0 → Decides s (2 ^ g.bits) x r (λ b i d. write_new s at (free_from s 0) (new_bytes b s x e i d))
      → Decides s (2 ^ g.bits) x r (λ b. write_slot b s x at e)
  unfolding write_slot
  slot_new r z h = record { same = λ b i d. rw (eq-eqb (place e) 0 z) (h.same b i d); inside = h.inside; fresh = h.fresh }

  module _ (p : ℕ) (f : p ≡ place e) (z : p ≡ 0 → ⊥) where
    pub slot-marked : zero_mark e ≡ true → Decides s (2 ^ g.bits) x (Ok (Marked at p)) (λ b. write_slot b s x at e)
    unfolding write_slot
    slot-marked m =
        record { same = λ b i d. rw (ne_eqb (place e) 0 (λ q. z (f ∙ q)), m, f, o.opened.is-cluster); inside = (o.inside, rw f (placed_at g s at e o).inside); fresh = tt }

    pub slot-bytes : zero_mark e ≡ false → Decides s (2 ^ g.bits) x (Ok (Bytes p)) (λ b. write_slot b s x at e)
    unfolding write_slot
    slot-bytes m = record { same = λ b i d. rw (ne_eqb (place e) 0 (λ q. z (f ∙ q)), m, f); inside = rw f (placed_at g s at e o).inside; fresh = tt }

-- by the way w to guest cluster x
module _ (s : List ℕ) (c : ℕ) (w : Way) (x : ℕ) where
  pub write-none : (r : Result Job ℕ) → w ≡ NoTable → Decides s c x r (λ b i d. write_table s x (free_from s 0) (free_from s (free_from s 0 + 1)) (splice (backing_cluster b s x) i d))
      → Decides s c x r (λ b. write_way b s (Ok w) x)
  unfolding write_way
  write-none r q h = record { same = λ b i d. rw q (h.same b i d); inside = h.inside; fresh = h.fresh }

  pub write-there : (r : Result Job ℕ) (p e : ℕ) → w ≡ Slot p e → Decides s c x r (λ b. write_slot b s x p e) → Decides s c x r (λ b. write_way b s (Ok w) x)
  unfolding write_way
  write-there r p e q h = record { same = λ b i d. rw q (h.same b i d); inside = h.inside; fresh = h.fresh }
