-- One more call of a batch: a write into a new cluster, below a table that is there. Assumes nothing.
use Prim.Native.Nat.{ℕ, ◌+◌, ◌*◌, ◌/◌, ◌%◌, ◌≤◌, ◌<◌}
use native.Mathlib.Decide.{ℕ_discrete}
use native.Mathlib.Omega.{arith}
use mathlib.Core.Path.{◌≡◌, refl, sym, ◌∙◌, subst}
use mathlib.Core.Logic.{inl, ◌≢◌}
use mathlib.Core.Bool.{true}
use mathlib.Core.List.{List, [], ◌∷◌, ◌++◌}
use lib.ListN.{length}
use Rattle.cuts.proofs.Cell.{mem}
use Rattle.cuts.proofs.Meta.{cnt, tab}
use Rattle.cuts.proofs.Run.{Store, apply, apply_all, apply_append, fill, Each, none, also}
use Rattle.cuts.proofs.Call.{Ok, count_store, entry_store}
use Rattle.batches.proofs.Mixture.{datum}
use Rattle.batches.proofs.Steps.{assign, before, among}
use Rattle.batches.proofs.Batch.{Call}
use Rattle.batches.proofs.Alloc.{alloc, hidden, was_table}
use Rattle.units.specs.Units.{UnitStore, entry}
use Rattle.units.specs.Units.{apply_all as apply_all_u}
use Rattle.qcow2_spec.specs.Header.{cluster_size, clusters, per_table}
use Rattle.qcow2_spec.specs.Entries.{new_entry}
use Rattle.qcow2_spec.specs.Store.{allot}
use Rattle.qcow2_spec.specs.Disk.{Request, write}
use Rattle.qcow2_spec.specs.Steps.{Extent, extents, covers}
use Rattle.qcow2_spec.proofs.Facts.{Facts}
use Rattle.qcow2_spec.proofs.Geo.{nr, geo, code}
use Rattle.qcow2_spec.proofs.Extents.{Disjoint}
use Rattle.qcow2_spec.proofs.Kind.{D, Owned, Whole, Numbered, numbered}
use Rattle.qcow2_spec.proofs.Units.{Like, Off, like_append, like_all, like_covers, like_entry, off_new}
use Rattle.qcow2_spec.proofs.Units.{none as like_none}
use Rattle.qcow2_batches.specs.Batch.{in_phase}
use Rattle.qcow2_batches.proofs.Covers.{Alike, covers-left}
use Rattle.qcow2_batches.proofs.Sorted.{Sorted, After, sorted_then}
use Rattle.qcow2_batches.proofs.State.{Past, m0, State}
use Rattle.qcow2_batches.proofs.Added.{Added, add, unseen, Entered, entered}
use Rattle.qcow2_batches.proofs.Taken.{taken_free, taken_now, taken_like, taken_sorted, taken-covers, taken_spared}

module _ (backing img : List ℕ) (all : List Request) (s : List ℕ) (fs : Facts s) (p0 p1 p2 p3 : List UnitStore)
    (st : State backing img all (geo s) (code s) s p0 p1 p2 p3) (ready : List Extent) (al : Alike ready (extents p1)) where
  abbrev x : ℕ → ℕ → ℕ
  x = mem (cluster_size s) s

  abbrev mi : ℕ → ℕ → ℕ
  mi = mem (cluster_size s) img

  module _ (y : ℕ) (d : List ℕ) (a c : ℕ) (bs : List ℕ) (own : Owned backing s fs (y / cluster_size s) a)
      (bare : D backing s fs (y / cluster_size s) ≡ 0) (c_n : c < clusters s) (zero-count : cnt (geo s) x c ≡ 0) (whole : Whole backing s fs y d bs) where
    abbrev i : ℕ
    i = nr 0 (y / cluster_size s / per_table s)

    abbrev j : ℕ
    j = y / cluster_size s % per_table s

    abbrev us : List UnitStore
    us = allot s c bs ++ entry a (new_entry (c * cluster_size s)) ∷ []

    num : Numbered backing s fs (y / cluster_size s)
    num = numbered backing s fs _ own.in_root

    old : Dec (tab (geo s) (code s) mi i ≡ 0)
    old = ℕ_discrete (tab (geo s) (code s) mi i) 0

    abbrev u : Store
    u = entry_store (geo s) (tab (geo s) (code s) x i) j (new_entry (c * cluster_size s))

    -- the cluster's own units lie in no table
    away : (z : ℕ) → covers (extents (allot s c bs)) z ≡ true → z / cluster_size s ≢ tab (geo s) (code s) x i
    unfolding entry_store
    away =
        like_covers (λ (w : ℕ). w ≢ tab (geo s) (code s) x i) (taken_now backing img all s fs p0 p1 p2 p3 st ready al c c_n zero-count bs whole.len)
        (go (off_new s fs st.batch.planned.fine.sound i num.in_roots j c 1 (new_entry (c * cluster_size s)) bs c_n (taken_free backing img all s fs p0 p1 p2 p3 st ready al c c_n zero-count) own.table own.lone))
      where
        go : Off (count_store (geo s) x c 1 ∷ fill c 0 bs) (u ∷ []) → Each (λ (v : Store). v.w ≢ tab (geo s) (code s) x i) (count_store (geo s) x c 1 ∷ fill c 0 bs)
        go (also h none) = h

    ha : Like (cluster_size s) (allot s c bs) (count_store (geo s) mi c 1 ∷ fill c 0 bs)
    ha = taken_like backing img all s fs p0 p1 p2 p3 st ready al c c_n zero-count bs whole.len

    step : (later : List Extent) × After ready (allot s c bs) later
        × ((vs a' b' c' : List UnitStore) → Sorted s later vs a' b' c' → Sorted s ready (allot s c bs ++ vs) (allot s c bs ++ a') ([] ++ b') ([] ++ c'))
    step = sorted_then (taken_sorted backing img all s fs p0 p1 p2 p3 st ready al c c_n zero-count bs ready)

    en : Entered backing img all s fs p0 p1 p2 p3 st ready al i j a (new_entry (c * cluster_size s)) (new_entry (c * cluster_size s)) step.0 old
    en = entered backing img all s fs p0 p1 p2 p3 st ready al i j a (new_entry (c * cluster_size s)) (new_entry (c * cluster_size s)) num.in_roots num.in_table own.table own.at refl (allot s c bs) away step.0 step.1 old

    sorts : Sorted s ready us (allot s c bs ++ en.e) en.f []
    sorts = step.2 _ _ _ _ en.sorted

    spared : Disjoint (in_phase 1 s ready us) p3 → st.dead c → ⊥
    spared free = taken_spared backing img all s fs p0 p1 p2 p3 st ready al c c_n zero-count sorts free (covers-left (allot s c bs) en.e _ (taken-covers backing img all s fs p0 p1 p2 p3 st ready al c c_n zero-count bs))

    -- the image that the machinery speaks of
    abbrev last : List ℕ
    last = apply (cluster_size s) u (apply_all (cluster_size s) (fill c 0 bs) (apply (cluster_size s) (count_store (geo s) mi c 1) s))

    is_last : apply_all_u us s ≡ last
    unfolding apply_all
    is_last =
        like_all (like_append ha (like_entry s fs a _ j _ _ own.at num.in_table refl own.table)) s
        ∙ apply_append (cluster_size s) (count_store (geo s) mi c 1 ∷ fill c 0 bs) (u ∷ []) s

    module _ (kept : Ok (geo s) (code s) (m0 backing img all) (apply_all_u us s)) (now : Past backing img all (geo s) (code s) (mem (cluster_size s) (apply_all_u us s)))
        (free : Disjoint (in_phase 1 s ready us) p3) where
      fine_last : Ok (geo s) (code s) (m0 backing img all) last
      fine_last = subst (Ok (geo s) (code s) (m0 backing img all)) is_last kept

      now_last : Past backing img all (geo s) (code s) (mem (cluster_size s) last)
      now_last = subst (λ (t : List ℕ). Past backing img all (geo s) (code s) (mem (cluster_size s) t)) is_last now

      l_a : 0 + length bs ≤ cluster_size s
      l_a = omega (arith, whole.len)

      pub new_added : Added backing img all s fs p0 p1 p2 p3 st ready al (write y d) us
      new_added =
          add backing img all s fs p0 p1 p2 p3 st ready al (write y d) us (allot s c bs ++ en.e) en.f [] (assign st.role c (datum i j)) st.dead
          ((count_store (geo s) mi c 1 ∷ fill c 0 bs) ++ before old u) (among old u) [] sorts (like_append ha en.firsts) en.seconds like_none
          (subst (Call (geo s) (code s) st.ok (m0 backing img all) img st.begun (Past backing img all (geo s) (code s)) st.role (assign st.role c (datum i j)) st.dead st.dead _ _ _ s) (sym is_last)
          (alloc (geo s) (code s) st.ok (m0 backing img all) img st.begun (Past backing img all (geo s) (code s)) st.role st.dead st.r st.l st.f s st.batch.planned i j num.in_roots num.in_table num.active c bs c_n zero-count (spared free) l_a whole.small own.table own.lone bare fine_last now_last old))
          (λ t k n e. inl (was_table (geo s) (code s) st.ok (m0 backing img all) img st.begun (Past backing img all (geo s) (code s)) st.role st.dead st.r st.l st.f s st.batch.planned i j num.in_roots num.in_table num.active c bs c_n zero-count (spared free) l_a whole.small own.table own.lone bare fine_last now_last t k e (ℕ_discrete t c)))
          (λ k n e. inl e)
          (unseen (like_append ha en.firsts) (hidden (geo s) (code s) st.ok (m0 backing img all) img st.begun (Past backing img all (geo s) (code s)) st.role st.dead st.r st.l st.f s st.batch.planned i j num.in_roots num.in_table num.active c bs c_n zero-count (spared free) l_a whole.small own.table own.lone bare fine_last now_last old))
