-- A cluster that a call of a batch takes: its count and its bytes are of phase 1, and the batch has not freed it. Assumes nothing.
use Prim.Native.Nat.{ℕ, suc, ◌+◌, ◌*◌, ◌≤◌, ◌<◌}
use native.Mathlib.Decide.{ℕ_discrete}
use native.Mathlib.Omega.{arith}
use mathlib.Core.Path.{◌≡◌, refl, ap, ◌∙◌, subst}
use mathlib.Core.Logic.{◌≢◌}
use mathlib.Core.Bool.{true, ◌||◌}
use mathlib.Core.List.{List, [], ◌∷◌}
use lib.ListN.{length}
use borrow.Author.Tests.{le-leb, lt-ltb}
use Rattle.cuts.proofs.Cell.{mem}
use Rattle.cuts.proofs.Meta.{cnt, refs_of}
use Rattle.cuts.proofs.Step.{free-not-0}
use Rattle.cuts.proofs.Run.{Store, fill}
use Rattle.cuts.proofs.Call.{count_store}
use Rattle.units.specs.Units.{UnitStore, byte}
use Rattle.units.specs.Units.{fill as fill_u}
use Rattle.qcow2_spec.specs.Header.{cluster_size, clusters, width}
use Rattle.qcow2_spec.specs.Counts.{set_count, count_at, count_of}
use Rattle.qcow2_spec.specs.Store.{allot}
use Rattle.qcow2_spec.specs.Disk.{Request}
use Rattle.qcow2_spec.specs.Steps.{Extent, extents, covers}
use Rattle.qcow2_spec.proofs.Facts.{Facts}
use Rattle.qcow2_spec.proofs.Geo.{geo, code}
use Rattle.qcow2_spec.proofs.Kept.{cnt_own}
use Rattle.qcow2_spec.proofs.Sectors.{spot, wide}
use Rattle.qcow2_spec.proofs.Extents.{holds, covers-join, Disjoint}
use Rattle.qcow2_spec.proofs.Units.{Like, also, like_whole, count_like, count_aside}
use Rattle.qcow2_batches.specs.Batch.{in_phase}
use Rattle.qcow2_batches.proofs.Covers.{Alike, true-or, or_right, covers-left}
use Rattle.qcow2_batches.proofs.Sorted.{Sorted, first, sorted_fill, rises, sorted_in}
use Rattle.qcow2_batches.proofs.State.{State}
use Rattle.qcow2_batches.proofs.Added.{cell_byte, count_same, count-covers}

-- a fill covers its bytes
fill-covers : (at : ℕ) (bs : List ℕ) (z : ℕ) → at ≤ z → z < at + length bs → covers (extents (fill_u at bs)) z ≡ true
unfolding extents fill_u spot wide
fill-covers at [] z l h = absurd (omega arith)
fill-covers at (b ∷ bs) z l h = covers-join (byte at b) _ z ∙ go (ℕ_discrete z at) (λ k. fill-covers (suc at) bs z k (omega arith))
  where
    go : Dec (z ≡ at) → (suc at ≤ z → covers (extents (fill_u (suc at) bs)) z ≡ true) → (holds (byte at b) z || covers (extents (fill_u (suc at) bs)) z) ≡ true
    go (yes e) r = true-or (holds (byte at b) z) _ (rw (le-leb at z l, lt-ltb z (at + 1) (omega arith)) refl)
    go (no n) r = or_right (holds (byte at b) z) _ (r (omega arith))

pub allot-covers : (s : List ℕ) (c : ℕ) (bs : List ℕ) (o : ℕ) → o < length bs → covers (extents (allot s c bs)) (c * cluster_size s + o) ≡ true
unfolding allot extents
allot-covers s c bs o h = covers-join (set_count s c 1) _ _ ∙ or_right (holds (set_count s c 1) _) _ (fill-covers (c * cluster_size s) bs _ (omega arith) (omega arith))

module _ (backing img : List ℕ) (all : List Request) (s : List ℕ) (fs : Facts s) (p0 p1 p2 p3 : List UnitStore)
    (st : State backing img all (geo s) (code s) s p0 p1 p2 p3) (ready : List Extent) (al : Alike ready (extents p1)) where
  abbrev x : ℕ → ℕ → ℕ
  x = mem (cluster_size s) s

  abbrev mi : ℕ → ℕ → ℕ
  mi = mem (cluster_size s) img

  module _ (c : ℕ) (c_n : c < clusters s) (zero-count : cnt (geo s) x c ≡ 0) where
    pub taken_free : refs_of (geo s) (code s) x c ≡ 0
    taken_free = omega (arith, zero-count, st.batch.planned.fine.sound.inv.covered c c_n)

    pub taken-some : c ≢ 0
    taken-some = free-not-0 (geo s) (code s) st.ok x st.batch.planned.fine.sound c taken_free

    module _ (bs : List ℕ) (len : length bs ≡ cluster_size s) where
      -- as the image in memory and as the first image has its count's place
      pub taken_now : Like (cluster_size s) (allot s c bs) (count_store (geo s) x c 1 ∷ fill c 0 bs)
      unfolding allot
      taken_now = also (λ t. count_like s fs c 1 c_n t) (count_aside s fs st.batch.planned.fine.sound c 1 c_n) (like_whole (cluster_size s) (c * cluster_size s) c bs refl len taken-some)

      pub taken_like : Like (cluster_size s) (allot s c bs) (count_store (geo s) mi c 1 ∷ fill c 0 bs)
      taken_like = subst (λ (u : Store). Like (cluster_size s) (allot s c bs) (u ∷ fill c 0 bs)) (count_same backing img all s fs p0 p1 p2 p3 st ready al c 1 c_n) taken_now

    pub taken_sorted : (bs : List ℕ) (later : List Extent) → Sorted s later (allot s c bs) (allot s c bs) [] []
    unfolding allot set_count count_of
    taken_sorted bs later = first (rises s later (width s) (count_at s c) 1 (omega (arith, zero-count, cnt_own s fs c c_n))) (sorted_fill s _ (c * cluster_size s) bs)

    -- the count is one of its units
    pub taken-covers : (bs : List ℕ) → covers (extents (allot s c bs)) (cell_byte backing img all s fs p0 p1 p2 p3 st ready al c) ≡ true
    unfolding allot
    taken-covers bs = covers-left (set_count s c 1 ∷ []) _ _ (count-covers backing img all s fs p0 p1 p2 p3 st ready al c 1 c_n)

    -- so its count is none of phase 3's
    pub taken_spared : {us a b d : List UnitStore} → Sorted s ready us a b d → Disjoint (in_phase 1 s ready us) p3
        → covers (extents a) (cell_byte backing img all s fs p0 p1 p2 p3 st ready al c) ≡ true → st.dead c → ⊥
    taken_spared sorts free h dead =
        free (cell_byte backing img all s fs p0 p1 p2 p3 st ready al c) (ap (λ (vs : List UnitStore). covers (extents vs) (cell_byte backing img all s fs p0 p1 p2 p3 st ready al c)) (sorted_in sorts).0 ∙ h) (st.lowered c c_n dead)
