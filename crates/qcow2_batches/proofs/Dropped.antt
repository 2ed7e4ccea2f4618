-- One more call of a batch: a discard, of a mark with no place or of a place. Assumes nothing.
use Prim.Native.Nat.{ℕ, ◌-◌, ◌/◌, ◌%◌, ◌<◌}
use native.Mathlib.Decide.{ℕ_discrete}
use native.Mathlib.Omega.{arith}
use mathlib.Core.Path.{◌≡◌, refl, sym, subst}
use mathlib.Core.Logic.{◌⊎◌, inl, inr, ◌≢◌}
use mathlib.Core.Bool.{true}
use mathlib.Core.List.{List, [], ◌∷◌, ◌++◌}
use lib.ListN.{take}
use Rattle.choice.proofs.Tests.{true-not-false}
use Rattle.cuts.proofs.Cell.{mem}
use Rattle.cuts.proofs.Meta.{cnt, tab}
use Rattle.cuts.proofs.Step.{dat_in}
use Rattle.cuts.proofs.Run.{Store, apply, apply_all, Each, each_append}
use Rattle.cuts.proofs.Run.{none as each_none}
use Rattle.cuts.proofs.Call.{Ok, SameGuest, count_store, entry_store}
use Rattle.batches.proofs.Steps.{before, among}
use Rattle.batches.proofs.Unseen.{Hidden}
use Rattle.batches.proofs.Discards.{cleared}
use Rattle.batches.proofs.Enter.{enter_early}
use Rattle.batches.proofs.Discard.{unmark, silent}
use Rattle.batches.proofs.Discard.{discard as discard_call}
use Rattle.batches.proofs.Batch.{Call}
use Rattle.units.specs.Units.{UnitStore, entry}
use Rattle.units.specs.Units.{apply_all as apply_all_u}
use Rattle.qcow2_spec.specs.Header.{cluster_size, clusters, per_table, width}
use Rattle.qcow2_spec.specs.Counts.{count_at, count_of, set_count}
use Rattle.qcow2_spec.specs.Store.{cleared_entry}
use Rattle.qcow2_spec.specs.Disk.{Request, discard}
use Rattle.qcow2_spec.specs.Steps.{Extent, extents, covers}
use Rattle.qcow2_spec.proofs.Facts.{Facts}
use Rattle.qcow2_spec.proofs.Geo.{nr, geo, code}
use Rattle.qcow2_spec.proofs.Kept.{cnt_own}
use Rattle.qcow2_spec.proofs.Units.{Like, none, like_append, like_all, like_entry}
use Rattle.qcow2_spec.proofs.Kind.{D, Owned, Numbered, numbered, ClearedGood, cleared_entry-low, cleared_entry-bare}
use Rattle.qcow2_batches.proofs.Covers.{Alike}
use Rattle.qcow2_batches.proofs.Sorted.{Sorted, ends, third, sorted_append, falls}
use Rattle.qcow2_batches.proofs.State.{Past, past_same, m0, State}
use Rattle.qcow2_batches.proofs.Added.{Added, add, unseen, Entered, entered, cell_byte, count_likes, count-covers}

module _ (backing img : List ℕ) (all : List Request) (s : List ℕ) (fs : Facts s) (p0 p1 p2 p3 : List UnitStore)
    (st : State backing img all (geo s) (code s) s p0 p1 p2 p3) (ready : List Extent) (al : Alike ready (extents p1)) where
  module _ (c a : ℕ) (own : Owned backing s fs c a) (good : ClearedGood backing s fs) where
    abbrev x : ℕ → ℕ → ℕ
    x = mem (cluster_size s) s

    abbrev i : ℕ
    i = nr 0 (c / per_table s)

    abbrev j : ℕ
    j = c % per_table s

    abbrev u : Store
    u = entry_store (geo s) (tab (geo s) (code s) x i) j (cleared_entry s)

    abbrev s₁ : List ℕ
    s₁ = apply (cluster_size s) u s

    abbrev y : Dec (tab (geo s) (code s) (mem (cluster_size s) img) i ≡ 0)
    y = ℕ_discrete (tab (geo s) (code s) (mem (cluster_size s) img) i) 0

    num : Numbered backing s fs c
    num = numbered backing s fs c own.in_root

    one : Like (cluster_size s) (entry a (cleared_entry s) ∷ []) (u ∷ [])
    one = like_entry s fs a (tab (geo s) (code s) x i) j _ _ own.at num.in_table refl own.table

    stored : apply_all_u (entry a (cleared_entry s) ∷ []) s ≡ s₁
    unfolding apply_all
    stored = like_all one s

    ent : Entered backing img all s fs p0 p1 p2 p3 st ready al i j a (cleared_entry s) (cleared_entry s) ready y
    unfolding extents covers
    ent = entered backing img all s fs p0 p1 p2 p3 st ready al i j a (cleared_entry s) (cleared_entry s) num.in_roots num.in_table own.table own.at refl [] (λ z t. absurd (true-not-false t refl)) ready (λ z. refl) y

    module _ (fine : Ok (geo s) (code s) (m0 backing img all) s₁) where
      hidden : Each (Hidden (geo s) (code s) st.ok (m0 backing img all) img) (before y u)
      hidden =
          enter_early (geo s) (code s) st.ok (m0 backing img all) img st.begun (Past backing img all (geo s) (code s)) st.role st.dead st.r st.l st.f s st.batch.planned i j (cleared_entry s) num.in_roots num.in_table
          (cleared_entry-low s) own.table own.lone
          (cleared (geo s) (code s) st.ok (m0 backing img all) img st.begun st.role st.dead st.r st.l st.f s st.batch.planned i j num.in_roots num.in_table num.active (cleared_entry s) good (cleared_entry-low s) (cleared_entry-bare s)
          own.table own.lone own.lone_data fine)
          (λ d. absurd (d (cleared_entry-bare s))) own.lone_data y

    -- of a mark with no place
    pub emptied_added : Ok (geo s) (code s) (m0 backing img all) (apply_all_u (entry a (cleared_entry s) ∷ []) s)
        → Past backing img all (geo s) (code s) (mem (cluster_size s) (apply_all_u (entry a (cleared_entry s) ∷ []) s))
        → Added backing img all s fs p0 p1 p2 p3 st ready al (discard c) (entry a (cleared_entry s) ∷ [])
    emptied_added kept now =
        add backing img all s fs p0 p1 p2 p3 st ready al (discard c) (entry a (cleared_entry s) ∷ []) ent.e ent.f [] st.role st.dead (before y u) (among y u) [] ent.sorted ent.firsts ent.seconds none
        (subst
        (λ (t : List ℕ). Call (geo s) (code s) st.ok (m0 backing img all) img st.begun (Past backing img all (geo s) (code s)) st.role st.role st.dead st.dead (before y u) (among y u) [] s t)
        (sym stored)
        (unmark (geo s) (code s) st.ok (m0 backing img all) img st.begun (Past backing img all (geo s) (code s)) st.role st.dead st.r st.l st.f s st.batch.planned i j num.in_roots num.in_table num.active (cleared_entry s) good
        (cleared_entry-low s) (cleared_entry-bare s) own.table own.lone own.lone_data (rw stored at kept) (rw stored at now) y))
        (λ t k n e. inl e) (λ k n d. inl d) (unseen ent.firsts (hidden (rw stored at kept)))

    -- ---- of a place: its count falls, which the guest does not see
    module _ (some : D backing s fs c ≢ 0) where
      abbrev w : ℕ
      w = D backing s fs c

      abbrev us : List UnitStore
      us = entry a (cleared_entry s) ∷ set_count s w (count_of s w - 1) ∷ []

      abbrev fall : Store
      fall = count_store (geo s) (mem (cluster_size s) img) w (cnt (geo s) x w - 1)

      in_n : w < clusters s
      in_n = dat_in (geo s) (code s) st.ok x st.batch.planned.fine.sound i j num.in_roots num.in_table

      counted : Like (cluster_size s) (set_count s w (count_of s w - 1) ∷ []) (fall ∷ [])
      counted =
          subst (λ (v : ℕ). Like (cluster_size s) (set_count s w (count_of s w - 1) ∷ []) (count_store (geo s) (mem (cluster_size s) img) w (v - 1) ∷ [])) (sym (cnt_own s fs w in_n))
          (count_likes backing img all s fs p0 p1 p2 p3 st ready al w (count_of s w - 1) in_n)

      both : apply_all_u us s ≡ apply (cluster_size s) fall s₁
      unfolding apply_all
      both = like_all (like_append one counted) s

      phased : Sorted s ready us (ent.e ++ []) (ent.f ++ []) (set_count s w (count_of s w - 1) ∷ [])
      unfolding set_count count_of
      phased = sorted_append ent.sorted (λ later h. third (falls s later (width s) (count_at s w) (count_of s w - 1) (omega arith)) ends)

      pub freed-added : ((n : ℕ) → Ok (geo s) (code s) (m0 backing img all) (apply_all_u (take n us) s))
          → Past backing img all (geo s) (code s) (mem (cluster_size s) (apply_all_u us s))
          → Added backing img all s fs p0 p1 p2 p3 st ready al (discard c) us
      unfolding SameGuest
      freed-added cuts now =
          add backing img all s fs p0 p1 p2 p3 st ready al (discard c) us (ent.e ++ []) (ent.f ++ []) (set_count s w (count_of s w - 1) ∷ []) st.role (λ k. st.dead k ⊎ (k ≡ w))
          (before y u ++ []) (among y u ++ []) (fall ∷ []) phased (like_append ent.firsts none) (like_append ent.seconds none) counted
          (subst
          (λ (t : List ℕ). Call (geo s) (code s) st.ok (m0 backing img all) img st.begun (Past backing img all (geo s) (code s)) st.role st.role st.dead (λ k. st.dead k ⊎ (k ≡ w)) (before y u ++ []) (among y u ++ []) (fall ∷ []) s t)
          (sym both)
          (discard_call (geo s) (code s) st.ok (m0 backing img all) img st.begun (Past backing img all (geo s) (code s)) st.role st.dead st.r st.l st.f s st.batch.planned i j num.in_roots num.in_table num.active (cleared_entry s) good
          (cleared_entry-low s) (cleared_entry-bare s) own.table own.lone own.lone_data fine before_fall some y))
          (λ t k n e. inl e) (λ k n d. go k d) (unseen (like_append ent.firsts none) (each_append (hidden fine) each_none))
        where
          fine : Ok (geo s) (code s) (m0 backing img all) s₁
          fine = rw stored at (cuts 1)

          unseen_fall : SameGuest (geo s) (code s) s₁ (apply (cluster_size s) fall s₁)
          unseen_fall =
              silent (geo s) (code s) st.ok (m0 backing img all) img st.begun (λ z. Unit {0}) st.role st.dead st.r st.l st.f s st.batch.planned i j num.in_roots num.in_table num.active (cleared_entry s) good
              (cleared_entry-low s) (cleared_entry-bare s) own.table own.lone own.lone_data fine tt some y

          before_fall : Past backing img all (geo s) (code s) (mem (cluster_size s) s₁)
          before_fall = past_same backing img all (geo s) (code s) _ _ (λ i j o a b l. sym (unseen_fall i j o a b l)) (rw both at now)

          go : (k : ℕ) → st.dead k ⊎ (k ≡ w) → st.dead k ⊎ (covers (extents (set_count s w (count_of s w - 1) ∷ [])) (cell_byte backing img all s fs p0 p1 p2 p3 st ready al k) ≡ true)
          go k (inl d) = inl d
          go k (inr e) = inr (rw e (count-covers backing img all s fs p0 p1 p2 p3 st ready al w (count_of s w - 1) in_n))
