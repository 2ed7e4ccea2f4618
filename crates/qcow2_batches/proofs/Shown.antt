-- One more call of a batch: data go to the place under a zero mark. Assumes nothing.
use Prim.Native.Nat.{ℕ, ◌+◌, ◌*◌, ◌/◌, ◌%◌, ◌≤◌, ◌<◌}
use native.Mathlib.Decide.{ℕ_discrete}
use native.Mathlib.Omega.{arith}
use mathlib.Core.Path.{◌≡◌, sym, ap, ◌∙◌, subst}
use mathlib.Core.Logic.{inl, ◌≢◌}
use mathlib.Core.Bool.{true}
use mathlib.Core.List.{List, [], ◌∷◌, ◌++◌}
use lib.ListN.{length, replicate}
use Rattle.cuts.proofs.Cell.{Small, mem}
use Rattle.cuts.proofs.Meta.{tab}
use Rattle.cuts.proofs.Run.{Store, apply, apply_all, apply_append, fill, Each, each_append}
use Rattle.cuts.proofs.Run.{also as each_also}
use Rattle.cuts.proofs.Step.{dat_in}
use Rattle.cuts.proofs.Call.{Ok, SameGuest, entry_store}
use Rattle.cuts.proofs.Write.{small_around}
use Rattle.batches.proofs.Lists.{picked-whole}
use Rattle.batches.proofs.Prepared.{prepared_start}
use Rattle.batches.proofs.Unseen.{Hidden, hidden_cut}
use Rattle.batches.proofs.Steps.{before, among}
use Rattle.batches.proofs.Batch.{Call, marked-fill}
use Rattle.batches.proofs.Places.{home}
use Rattle.batches.proofs.Marks.{value}
use Rattle.batches.proofs.Enter.{enter_early}
use Rattle.batches.proofs.Unmark.{filled, unmarked}
use Rattle.units.specs.Units.{UnitStore, entry, cluster}
use Rattle.units.specs.Units.{apply_all as apply_all_u, fill as fill_u}
use Rattle.units.proofs.Laws.{length-cluster}
use Rattle.qcow2_spec.specs.Header.{cluster_size, clusters, per_table}
use Rattle.qcow2_spec.specs.Entries.{new_entry}
use Rattle.qcow2_spec.specs.Disk.{Request, write}
use Rattle.qcow2_spec.specs.Steps.{Extent, extents, covers}
use Rattle.qcow2_spec.proofs.Facts.{Facts}
use Rattle.qcow2_spec.proofs.Geo.{nr, geo, code}
use Rattle.qcow2_spec.proofs.Kind.{Span, Owned, T, D, M, Numbered, numbered}
use Rattle.qcow2_spec.proofs.Units.{Like, none, like_append, like_all, like_covers, like_whole, cluster_around, off_slot, Off, like_entry}
use Rattle.qcow2_batches.proofs.Covers.{Alike}
use Rattle.qcow2_batches.proofs.Sorted.{Sorted, After, sorted_then, sorted_fill}
use Rattle.qcow2_batches.proofs.State.{Past, past_same, m0, State}
use Rattle.qcow2_batches.proofs.Added.{unseen, Added, add, Entered, entered}

module _ (backing img : List ℕ) (all : List Request) (s : List ℕ) (fs : Facts s) (p0 p1 p2 p3 : List UnitStore)
    (st : State backing img all (geo s) (code s) s p0 p1 p2 p3) (ready : List Extent) (al : Alike ready (extents p1)) where
  module _ (x : ℕ) (d : List ℕ) (a at : ℕ) (sp : Span backing s fs x d) (ow : Owned backing s fs (x / cluster_size s) a) (some : D backing s fs (x / cluster_size s) ≢ 0)
      (marked : M backing s fs (x / cluster_size s) ≢ 0) (is : at ≡ D backing s fs (x / cluster_size s) * cluster_size s)
      (kept : Ok (geo s) (code s) (m0 backing img all) (apply_all_u (fill_u at (cluster (cluster_size s) (x % cluster_size s) d) ++ entry a (new_entry at) ∷ []) s))
      (now : Past backing img all (geo s) (code s) (mem (cluster_size s) (apply_all_u (fill_u at (cluster (cluster_size s) (x % cluster_size s) d) ++ entry a (new_entry at) ∷ []) s)))
      (was : Past backing img all (geo s) (code s) (mem (cluster_size s) s)) where
    abbrev i : ℕ
    i = nr 0 (x / cluster_size s / per_table s)

    abbrev j : ℕ
    j = x / cluster_size s % per_table s

    abbrev c : ℕ
    c = D backing s fs (x / cluster_size s)

    abbrev bs : List ℕ
    bs = cluster (cluster_size s) (x % cluster_size s) d

    abbrev us : List UnitStore
    us = fill_u at bs ++ entry a (new_entry at) ∷ []

    abbrev u : Store
    u = entry_store (geo s) (T backing s fs (x / cluster_size s)) j (new_entry (c * cluster_size s))

    -- the image with the data alone, and with the entry
    abbrev s₁ : List ℕ
    s₁ = apply_all (cluster_size s) (fill c 0 bs) s

    abbrev s₂ : List ℕ
    s₂ = apply (cluster_size s) u s₁

    num : Numbered backing s fs (x / cluster_size s)
    num = numbered backing s fs _ ow.in_root

    whole : length bs ≡ cluster_size s
    whole = length-cluster (cluster_size s) (x % cluster_size s) d sp.in_cluster

    fits : 0 + length bs ≤ cluster_size s
    fits = omega (arith, whole)

    small : Small bs
    small = subst Small (sym (cluster_around (cluster_size s) (x % cluster_size s) d)) (small_around (cluster_size s) (x % cluster_size s) d sp.bytes)

    place : new_entry at ≡ new_entry (c * cluster_size s)
    place = ap new_entry is

    in_n : c < clusters s
    in_n = dat_in (geo s) (code s) st.ok _ st.batch.planned.fine.sound i j num.in_roots num.in_table

    fills : Like (cluster_size s) (fill_u at bs) (fill c 0 bs)
    fills = like_whole (cluster_size s) at c bs is whole some

    enters : Like (cluster_size s) (entry a (new_entry at) ∷ []) (u ∷ [])
    enters = like_entry s fs a (T backing s fs (x / cluster_size s)) j _ _ ow.at num.in_table place ow.table

    -- what the machinery stores
    done : apply_all_u us s ≡ s₂
    unfolding apply_all
    done = like_all (like_append fills enters) s ∙ apply_append (cluster_size s) (fill c 0 bs) (u ∷ []) s

    fine : Ok (geo s) (code s) (m0 backing img all) s₂
    fine = subst (Ok (geo s) (code s) (m0 backing img all)) done kept

    -- the data are not seen under the mark
    same : SameGuest (geo s) (code s) s s₁
    same =
        subst (λ (vs : List Store). SameGuest (geo s) (code s) s (apply_all (cluster_size s) vs s)) (picked-whole (fill c 0 bs))
        (hidden_cut (geo s) (code s) st.ok (m0 backing img all) s s (prepared_start (geo s) (code s) st.ok (m0 backing img all) s st.batch.planned.fine)
        (marked-fill (geo s) (code s) st.ok (m0 backing img all) s st.batch.planned.fine (Past backing img all (geo s) (code s)) i j 0 bs num.in_roots num.in_table fits small some (ow.lone_data some) marked)
        (replicate (length (fill c 0 bs)) true)).1

    now₁ : Past backing img all (geo s) (code s) (mem (cluster_size s) s₁)
    unfolding SameGuest
    now₁ = past_same backing img all (geo s) (code s) _ _ same was

    now₂ : Past backing img all (geo s) (code s) (mem (cluster_size s) s₂)
    now₂ = subst (λ (t : List ℕ). Past backing img all (geo s) (code s) (mem (cluster_size s) t)) done now

    -- the entry's table is none of the clusters that are filled
    away : (z : ℕ) → covers (extents (fill_u at bs)) z ≡ true → z / cluster_size s ≢ T backing s fs (x / cluster_size s)
    unfolding entry_store
    away = go (off_slot s fs st.batch.planned.fine.sound i num.in_roots j 0 bs num.in_table ow.table ow.lone)
      where
        go : Off (fill c 0 bs) (entry_store (geo s) (T backing s fs (x / cluster_size s)) j 0 ∷ []) → (z : ℕ) → covers (extents (fill_u at bs)) z ≡ true → z / cluster_size s ≢ T backing s fs (x / cluster_size s)
        go (each_also h k) = like_covers (λ (w : ℕ). w ≢ T backing s fs (x / cluster_size s)) fills h

    step : (later : List Extent) × After ready (fill_u at bs) later
        × ((vs a' b' c' : List UnitStore) → Sorted s later vs a' b' c' → Sorted s ready (fill_u at bs ++ vs) (fill_u at bs ++ a') ([] ++ b') ([] ++ c'))
    step = sorted_then (sorted_fill s ready at bs)

    by_phase : (y : Dec (tab (geo s) (code s) (mem (cluster_size s) img) i ≡ 0)) → Entered backing img all s fs p0 p1 p2 p3 st ready al i j a (new_entry at) (new_entry (c * cluster_size s)) step.0 y
    by_phase y = entered backing img all s fs p0 p1 p2 p3 st ready al i j a (new_entry at) (new_entry (c * cluster_size s)) num.in_roots num.in_table ow.table ow.at place (fill_u at bs) away step.0 step.1 y

    call : (y : Dec (tab (geo s) (code s) (mem (cluster_size s) img) i ≡ 0))
        → Call (geo s) (code s) st.ok (m0 backing img all) img st.begun (Past backing img all (geo s) (code s)) st.role st.role st.dead st.dead (fill c 0 bs ++ before y u) (among y u) [] s (apply_all_u us s)
    call y =
        subst (λ (t : List ℕ). Call (geo s) (code s) st.ok (m0 backing img all) img st.begun (Past backing img all (geo s) (code s)) st.role st.role st.dead st.dead (fill c 0 bs ++ before y u) (among y u) [] s t) (sym done)
        (unmarked (geo s) (code s) st.ok (m0 backing img all) img st.begun (Past backing img all (geo s) (code s)) st.role st.dead st.r st.l st.f s st.batch.planned i j num.in_roots num.in_table num.active
        bs fits small ow.table ow.lone some (ow.lone_data some) marked fine now₁ now₂ y)

    -- nothing of the call is seen before the batch's entries
    hidden : (y : Dec (tab (geo s) (code s) (mem (cluster_size s) img) i ≡ 0)) → Each (Hidden (geo s) (code s) st.ok (m0 backing img all) img) (fill c 0 bs ++ before y u)
    hidden y =
        each_append
        (filled (geo s) (code s) st.ok (m0 backing img all) img st.begun (Past backing img all (geo s) (code s)) st.role st.dead st.r st.l st.f s st.batch.planned i j num.in_roots num.in_table num.active
        bs fits small ow.table ow.lone some (ow.lone_data some) marked fine now₁ now₂
        (home (geo s) (code s) st.ok (m0 backing img all) img st.begun st.role (mem (cluster_size s) s) st.batch.planned.mix i j num.in_roots num.in_table some (ow.lone_data some)))
        (enter_early (geo s) (code s) st.ok (m0 backing img all) img st.begun (Past backing img all (geo s) (code s)) st.role st.dead st.r st.l st.f s st.batch.planned i j _ num.in_roots num.in_table
        (st.ok.laws.mk_lt c in_n) ow.table ow.lone
        (value (geo s) (code s) st.ok (m0 backing img all) img st.begun st.role st.dead st.r st.l st.f s st.batch.planned i j num.in_roots num.in_table num.active bs fits small ow.table ow.lone some (ow.lone_data some) fine)
        (λ z. st.ok.laws.mk_flag c in_n) ow.lone_data y)

    pub shown-added : Added backing img all s fs p0 p1 p2 p3 st ready al (write x d) us
    shown-added = go (ℕ_discrete (tab (geo s) (code s) (mem (cluster_size s) img) i) 0)
      where
        go : (y : Dec (tab (geo s) (code s) (mem (cluster_size s) img) i ≡ 0)) → Added backing img all s fs p0 p1 p2 p3 st ready al (write x d) us
        go y =
            let e = by_phase y in
            add backing img all s fs p0 p1 p2 p3 st ready al (write x d) us (fill_u at bs ++ e.e) e.f [] st.role st.dead (fill c 0 bs ++ before y u) (among y u) []
            (step.2 _ _ _ _ e.sorted) (like_append fills e.firsts) e.seconds none (call y)
            (λ t k n q. inl q) (λ k n q. inl q) (unseen (like_append fills e.firsts) (hidden y))
