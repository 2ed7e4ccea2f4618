-- One more call of a batch that stores nothing, or repairs: counts fall to the references. Assumes nothing.
use Rattle.std.specs.Prelude.{if◌then◌else◌}
use Prim.Native.Nat.{ℕ, zero, suc, ◌+◌, ◌≤◌, ◌<◌}
use native.Mathlib.Omega.{arith}
use mathlib.Core.Path.{◌≡◌, sym, subst}
use mathlib.Core.Logic.{◌⊎◌, inl, inr}
use mathlib.Core.Bool.{Bool, true, false}
use mathlib.Core.List.{List, [], ◌∷◌, ◌++◌}
use lib.Dec.{eqb}
use lib.ListN.{get_or}
use Rattle.cuts.proofs.Cell.{mem}
use Rattle.cuts.proofs.Meta.{cnt, refs_of}
use Rattle.cuts.proofs.Run.{Store, apply_all}
use Rattle.cuts.proofs.Run.{none as each_none}
use Rattle.cuts.proofs.Call.{cnt_small}
use Rattle.batches.proofs.Repairs.{Fall, fall_units, lowered, Covers, no_more, one_more}
use Rattle.batches.proofs.Batch.{Call}
use Rattle.batches.proofs.Mend.{mend}
use Rattle.units.specs.Units.{UnitStore}
use Rattle.units.specs.Units.{apply_all as apply_all_u}
use Rattle.qcow2_spec.specs.Header.{cluster_size, clusters, width}
use Rattle.qcow2_spec.specs.Counts.{count_at, count_of, set_count}
use Rattle.qcow2_spec.specs.References.{figures_of}
use Rattle.qcow2_spec.specs.Check.{repair_units}
use Rattle.qcow2_spec.specs.Disk.{Request, repair}
use Rattle.qcow2_spec.specs.Steps.{Extent, extents, covers}
use Rattle.qcow2_spec.proofs.Facts.{Facts}
use Rattle.qcow2_spec.proofs.Geo.{geo, code}
use Rattle.qcow2_spec.proofs.Kept.{cnt_own}
use Rattle.qcow2_spec.proofs.Verdicts.{figure_own}
use Rattle.qcow2_spec.proofs.Units.{Like, none, like_append, like_all}
use Rattle.qcow2_batches.proofs.Covers.{Alike, covers-left, covers-right}
use Rattle.qcow2_batches.proofs.Sorted.{Sorted, ends, third, falls}
use Rattle.qcow2_batches.proofs.State.{Past, m0, State}
use Rattle.qcow2_batches.proofs.Added.{Added, add, unseen, cell_byte, count_likes, count-covers}

module _ (backing img : List ℕ) (all : List Request) (s : List ℕ) (fs : Facts s) (p0 p1 p2 p3 : List UnitStore)
    (st : State backing img all (geo s) (code s) s p0 p1 p2 p3) (ready : List Extent) (al : Alike ready (extents p1)) where
  -- no unit
  pub nothing_added : (r : Request) → Added backing img all s fs p0 p1 p2 p3 st ready al r []
  unfolding apply_all_u apply_all fall_units lowered
  nothing_added r =
      add backing img all s fs p0 p1 p2 p3 st ready al r [] [] [] [] st.role st.dead [] [] [] ends none none none
      (mend (geo s) (code s) st.ok (m0 backing img all) img st.begun (Past backing img all (geo s) (code s)) st.role [] st.dead st.r st.l st.f s st.batch.planned no_more)
      (λ t i n e. inl e) (λ k n d. inl d) (unseen none each_none)

  -- ---- the counts that a repair sets
  abbrev units_of : List Fall → List Store
  units_of = fall_units (geo s) (code s) st.ok (m0 backing img all) img st.begun st.role

  abbrev dead_after : List Fall → (ℕ → Type 0) → ℕ → Type 0
  dead_after = lowered (geo s) (code s) st.ok (m0 backing img all) img st.begun st.role

  -- the units us are counts that fall, each to no less than the references, and cover the counts of the clusters that are lowered
  record Falling (us : List UnitStore) : Type 1 where
    list : List Fall
    like : Like (cluster_size s) us (units_of list)
    enough : Covers (geo s) (code s) st.ok (m0 backing img all) img st.begun st.role (mem (cluster_size s) s) list
    sorted : (later : List Extent) → Sorted s later us [] [] us
    lowers : (dead : ℕ → Type 0) (k : ℕ) → dead_after list dead k → dead k ⊎ (covers (extents us) (cell_byte backing img all s fs p0 p1 p2 p3 st ready al k) ≡ true)

  -- none
  none_falls : Falling []
  unfolding fall_units lowered
  none_falls = record { list = []; like = none; enough = no_more; sorted = λ later. ends; lowers = λ dead k d. inl d }

  -- one, and others
  module _ (c : ℕ) (l : c < clusters s) (us : List UnitStore) (h : Falling us) where
    abbrev v : ℕ
    v = get_or (figures_of s) c 0

    one_falls : Falling (set_count s c v ∷ us)
    unfolding fall_units lowered set_count count_of
    one_falls =
        record {
          list = record { cluster = c; value = v } ∷ h.list;
          like = like_append (count_likes backing img all s fs p0 p1 p2 p3 st ready al c v l) h.like;
          enough = one_more {a = record { cluster = c; value = v }} l (omega (arith, is, covered, cnt_small (geo s) (code s) st.ok (m0 backing img all) (mem (cluster_size s) s) c)) (omega (arith, is)) h.enough;
          sorted = λ later. third (falls s later (width s) (count_at s c) v below) (h.sorted later);
          lowers = λ dead k d. among dead k (h.lowers (λ n. dead n ⊎ (n ≡ c)) k d);
        }
      where
        is : v ≡ refs_of (geo s) (code s) (mem (cluster_size s) s) c
        is = figure_own s fs st.batch.planned.fine.sound c l

        covered : refs_of (geo s) (code s) (mem (cluster_size s) s) c ≤ cnt (geo s) (mem (cluster_size s) s) c
        covered = st.batch.planned.fine.sound.inv.covered c l

        below : v ≤ count_of s c
        below = omega (arith, is, covered, cnt_own s fs c l)

        among : (dead : ℕ → Type 0) (k : ℕ) → (dead k ⊎ (k ≡ c)) ⊎ (covers (extents us) (cell_byte backing img all s fs p0 p1 p2 p3 st ready al k) ≡ true)
            → dead k ⊎ (covers (extents (set_count s c v ∷ us)) (cell_byte backing img all s fs p0 p1 p2 p3 st ready al k) ≡ true)
        among dead k (inl (inl d)) = inl d
        among dead k (inl (inr e)) = inr (rw e (covers-left (set_count s c v ∷ []) us _ (count-covers backing img all s fs p0 p1 p2 p3 st ready al c v l)))
        among dead k (inr e) = inr (covers-right (set_count s c v ∷ []) us _ e)

  -- those of the n clusters from c on whose counts are not the references
  all_falls : (n c : ℕ) → c + n ≤ clusters s → Falling (repair_units s (figures_of s) c n)
  unfolding repair_units
  all_falls zero c h = none_falls
  all_falls (suc n) c h = go (eqb (count_of s c) (get_or (figures_of s) c 0)) (all_falls n (suc c) (omega arith))
    where
      go : (b : Bool) → Falling (repair_units s (figures_of s) (suc c) n) → Falling ((if b then [] else set_count s c (get_or (figures_of s) c 0) ∷ []) ++ repair_units s (figures_of s) (suc c) n)
      go true r = r
      go false r = one_falls c (omega arith) _ r

  pub mended-added : (n : ℕ) → Added backing img all s fs p0 p1 p2 p3 st ready al (repair n) (repair_units s (figures_of s) 0 (clusters s))
  mended-added n =
      add backing img all s fs p0 p1 p2 p3 st ready al (repair n) us [] [] us st.role (dead_after h.list st.dead) [] [] (units_of h.list) (h.sorted ready) none none h.like
      (subst
      (λ (t : List ℕ). Call (geo s) (code s) st.ok (m0 backing img all) img st.begun (Past backing img all (geo s) (code s)) st.role st.role st.dead (dead_after h.list st.dead) [] [] (units_of h.list) s t)
      (sym (like_all h.like s))
      (mend (geo s) (code s) st.ok (m0 backing img all) img st.begun (Past backing img all (geo s) (code s)) st.role h.list st.dead st.r st.l st.f s st.batch.planned h.enough))
      (λ t i k e. inl e) (λ k l d. h.lowers st.dead k d) (unseen none each_none)
    where
      us : List UnitStore
      us = repair_units s (figures_of s) 0 (clusters s)

      h : Falling us
      h = all_falls (clusters s) 0 (omega arith)
