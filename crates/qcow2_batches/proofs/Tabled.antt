-- One more call of a batch: a write into a new cluster, below a new table. Assumes nothing.
use Prim.Native.Nat.{ℕ, ◌+◌, ◌*◌, ◌/◌, ◌%◌, ◌≤◌, ◌<◌}
use native.Mathlib.Nat.{mod-lt, div-eq_of_lt-le}
use native.Mathlib.Decide.{ℕ_discrete}
use native.Mathlib.Omega.{arith}
use mathlib.Core.Path.{◌≡◌, refl, sym, ap, ◌∙◌, subst}
use mathlib.Core.Logic.{◌⊎◌, inl, inr, ◌≢◌}
use mathlib.Core.Bool.{true}
use mathlib.Core.List.{List, [], ◌∷◌, ◌++◌, append_assoc, append-nil}
use lib.ListN.{length, replicate, length-replicate}
use Rattle.choice.proofs.Tests.{or-true}
use Rattle.cuts.proofs.Cell.{mem}
use Rattle.cuts.proofs.Meta.{cnt, row, col, Has}
use Rattle.cuts.proofs.Run.{Store, apply, apply_all, apply_append, fill, Each, none, also}
use Rattle.cuts.proofs.Call.{Ok, count_store, entry_store, link_store}
use Rattle.batches.proofs.Mixture.{Use, table, datum}
use Rattle.batches.proofs.Lists.{each_map}
use Rattle.batches.proofs.Units.{ready-row}
use Rattle.batches.proofs.Steps.{assign}
use Rattle.batches.proofs.Batch.{Call}
use Rattle.batches.proofs.Tables.{was}
use Rattle.batches.proofs.NewTable.{new_table, hidden}
use Rattle.units.specs.Units.{UnitStore, entry}
use Rattle.units.specs.Units.{apply_all as apply_all_u}
use Rattle.qcow2_spec.specs.Header.{cluster_size, clusters, per_table, root_size}
use Rattle.qcow2_spec.specs.Entries.{new_entry}
use Rattle.qcow2_spec.specs.Guest.{l1_entry_at}
use Rattle.qcow2_spec.specs.Store.{allot}
use Rattle.qcow2_spec.specs.Disk.{Request, write}
use Rattle.qcow2_spec.specs.Steps.{Extent, extents, covers}
use Rattle.qcow2_spec.proofs.Facts.{Facts, c_8}
use Rattle.qcow2_spec.proofs.Geo.{nr, geo, code}
use Rattle.qcow2_spec.proofs.Kept.{has, row-place}
use Rattle.qcow2_spec.proofs.Seen.{ep, in_l1, first-root}
use Rattle.qcow2_spec.proofs.Extents.{Disjoint}
use Rattle.qcow2_spec.proofs.Kind.{T, Span, Whole, Numbered, numbered}
use Rattle.qcow2_spec.proofs.Units.{Like, Off, like_append, like_all, like_covers, like_entry, link_like, link_aside, off_table}
use Rattle.qcow2_spec.proofs.Units.{also as like_also, none as like_none}
use Rattle.qcow2_batches.specs.Batch.{in_phase}
use Rattle.qcow2_batches.proofs.Covers.{Alike, covers-left, covers-right, true-or}
use Rattle.qcow2_batches.proofs.Sorted.{Sorted, After, sorted_append, entry_new, entry_old}
use Rattle.qcow2_batches.proofs.Firsts.{firsts_covers}
use Rattle.qcow2_batches.proofs.State.{Past, m0, State}
use Rattle.qcow2_batches.proofs.Added.{Added, add, unseen}
use Rattle.qcow2_batches.proofs.Taken.{allot-covers, taken_free, taken-some, taken_now, taken_like, taken_sorted, taken-covers, taken_spared}

module _ (backing img : List ℕ) (all : List Request) (s : List ℕ) (fs : Facts s) (p0 p1 p2 p3 : List UnitStore)
    (st : State backing img all (geo s) (code s) s p0 p1 p2 p3) (ready : List Extent) (al : Alike ready (extents p1)) where
  abbrev x : ℕ → ℕ → ℕ
  x = mem (cluster_size s) s

  abbrev mi : ℕ → ℕ → ℕ
  mi = mem (cluster_size s) img

  module _ (y : ℕ) (d : List ℕ) (t c : ℕ) (bs : List ℕ) (span : Span backing s fs y d) (bare : T backing s fs (y / cluster_size s) ≡ 0) (tc : t < c) (c_n : c < clusters s)
      (zt : cnt (geo s) x t ≡ 0) (zc : cnt (geo s) x c ≡ 0) (whole : Whole backing s fs y d bs) where
    abbrev i : ℕ
    i = nr 0 (y / cluster_size s / per_table s)

    abbrev j : ℕ
    j = y / cluster_size s % per_table s

    -- the table's units, the data's, its entry and the table's
    abbrev zeros : List ℕ
    zeros = replicate (cluster_size s) 0

    abbrev both : List UnitStore
    both = allot s t zeros ++ allot s c bs

    abbrev inner : UnitStore
    inner = entry (t * cluster_size s + 8 * j) (new_entry (c * cluster_size s))

    abbrev link : UnitStore
    link = entry (l1_entry_at s 0 (y / cluster_size s)) (new_entry (t * cluster_size s))

    abbrev us : List UnitStore
    us = both ++ inner ∷ link ∷ []

    abbrev both_stores : List Store
    both_stores = (count_store (geo s) mi t 1 ∷ fill t 0 zeros) ++ (count_store (geo s) mi c 1 ∷ fill c 0 bs)

    abbrev inner_store : Store
    inner_store = entry_store (geo s) t j (new_entry (c * cluster_size s))

    abbrev upper : Store
    upper = link_store (geo s) i (new_entry (t * cluster_size s))

    t_n : t < clusters s
    t_n = omega arith

    lr : y / cluster_size s / per_table s < root_size s 0
    lr = in_l1 backing s fs y (omega (arith, span.in_disk, span.some))

    num : Numbered backing s fs (y / cluster_size s)
    num = numbered backing s fs _ lr

    hi : Has (geo s) i
    hi = has s fs 0 (y / cluster_size s / per_table s) (first-root backing s fs) lr

    l_z : length zeros ≡ cluster_size s
    l_z = length-replicate {A = ℕ} (cluster_size s) 0

    some : t ≢ 0
    some = taken-some backing img all s fs p0 p1 p2 p3 st ready al t t_n zt

    inner_like : Like (cluster_size s) (inner ∷ []) (inner_store ∷ [])
    inner_like = like_entry s fs _ t j _ _ refl num.in_table refl some

    link_likes : Like (cluster_size s) (link ∷ []) (upper ∷ [])
    link_likes = like_also (λ r. link_like s fs (y / cluster_size s) _ (omega (arith, num.active)) r) (link_aside s fs st.batch.planned.fine.sound i _ num.in_roots hi) like_none

    ha : Like (cluster_size s) (both ++ inner ∷ []) (both_stores ++ inner_store ∷ [])
    ha =
        like_append
        (like_append (taken_like backing img all s fs p0 p1 p2 p3 st ready al t t_n zt zeros l_z) (taken_like backing img all s fs p0 p1 p2 p3 st ready al c c_n zc bs whole.len)) inner_like

    -- ---- the entry lies in the new table, the link in a cluster where nothing of phase 1 does
    table-covers : (o : ℕ) → o < cluster_size s → covers (extents both) (t * cluster_size s + o) ≡ true
    table-covers o h = covers-left (allot s t zeros) (allot s c bs) _ (allot-covers s t zeros o (omega (arith, l_z)))

    in_row : (z : ℕ) → l1_entry_at s 0 (y / cluster_size s) ≤ z → z < l1_entry_at s 0 (y / cluster_size s) + 8 → z / cluster_size s ≡ row (geo s) i
    unfolding l1_entry_at
    in_row z p q =
        let e = row-place s fs 0 (y / cluster_size s / per_table s) (first-root backing s fs) (omega (arith, num.active)) in
        let k : col (geo s) i < per_table s = mod-lt _ (ep backing s fs) in
        div-eq_of_lt-le (cluster_size s) (omega (arith, e)) (omega (arith, e, k, c_8 s fs))

    own-row : (z : ℕ) → covers (extents (both ++ inner ∷ [])) z ≡ true → z / cluster_size s ≢ row (geo s) i
    unfolding link_store
    own-row =
        like_covers (λ (w : ℕ). w ≢ row (geo s) i)
        (like_append (like_append (taken_now backing img all s fs p0 p1 p2 p3 st ready al t t_n zt zeros l_z) (taken_now backing img all s fs p0 p1 p2 p3 st ready al c c_n zc bs whole.len)) inner_like)
        (subst (Each (λ (v : Store). v.w ≢ row (geo s) i)) (sym (append_assoc (count_store (geo s) x t 1 ∷ fill t 0 zeros) (count_store (geo s) x c 1 ∷ fill c 0 bs) (inner_store ∷ [])))
        (go (off_table s fs st.batch.planned.fine.sound i num.in_roots hi j t c 1 1 _ (new_entry (t * cluster_size s)) zeros bs t_n c_n (taken_free backing img all s fs p0 p1 p2 p3 st ready al t t_n zt) (taken_free backing img all s fs p0 p1 p2 p3 st ready al c c_n zc))))
      where
        go : {vs : List Store} → Off vs (upper ∷ []) → Each (λ (v : Store). v.w ≢ row (geo s) i) vs
        go (also h none) = h

    ready_off : (z : ℕ) → covers ready z ≡ true → row (geo s) i ≢ z / cluster_size s
    ready_off z h =
        firsts_covers (λ (k : ℕ). row (geo s) i ≢ k) st.firsts
        (each_map (λ u k. ready-row (geo s) (code s) st.ok (m0 backing img all) img st.begun i num.in_roots hi u k) st.batch.planned.ready) z (sym (al z) ∙ h)

    link_off : (later : List Extent) → After ready (both ++ inner ∷ []) later → Sorted s later (link ∷ []) [] (link ∷ []) []
    link_off later h =
        entry_old s later _ _ (λ z p q e. elsewhere z p q (or-true (covers (extents (both ++ inner ∷ [])) z) _ (sym (h z) ∙ e)))
      where
        elsewhere : (z : ℕ) → l1_entry_at s 0 (y / cluster_size s) ≤ z → z < l1_entry_at s 0 (y / cluster_size s) + 8 → (covers (extents (both ++ inner ∷ [])) z ≡ true) ⊎ (covers ready z ≡ true) → ⊥
        elsewhere z p q (inl e) = own-row z e (in_row z p q)
        elsewhere z p q (inr e) = ready_off z e (sym (in_row z p q))

    sorts : Sorted s ready us (both ++ inner ∷ []) (link ∷ []) []
    sorts =
        subst (λ (l : List UnitStore). Sorted s ready l (both ++ inner ∷ []) (link ∷ []) []) (append_assoc both (inner ∷ []) (link ∷ []))
        (subst (λ (l : List UnitStore). Sorted s ready ((both ++ inner ∷ []) ++ link ∷ []) l (link ∷ []) []) (append-nil (both ++ inner ∷ []))
        (sorted_append (sorted_append (sorted_append
        (taken_sorted backing img all s fs p0 p1 p2 p3 st ready al t t_n zt zeros ready) (λ later h. taken_sorted backing img all s fs p0 p1 p2 p3 st ready al c c_n zc bs later))
        (λ later h. entry_new s later _ _ (h _ ∙ true-or (covers (extents both) _) _ (table-covers (8 * j) (omega (arith, num.in_table, c_8 s fs))))))
        link_off))

    -- ---- the image that the machinery speaks of
    abbrev last : List ℕ
    last =
        apply (cluster_size s) upper (apply (cluster_size s) inner_store
        (apply_all (cluster_size s) (fill c 0 bs) (apply (cluster_size s) (count_store (geo s) mi c 1) (apply_all (cluster_size s) (fill t 0 zeros) (apply (cluster_size s) (count_store (geo s) mi t 1) s)))))

    is_last : apply_all_u us s ≡ last
    unfolding apply_all
    is_last =
        ap (λ (l : List UnitStore). apply_all_u l s) (sym (append_assoc both (inner ∷ []) (link ∷ [])))
        ∙ like_all (like_append ha link_likes) s
        ∙ apply_append (cluster_size s) (both_stores ++ inner_store ∷ []) (upper ∷ []) s
        ∙ ap (λ (r : List ℕ). apply (cluster_size s) upper r) (apply_append (cluster_size s) both_stores (inner_store ∷ []) s
        ∙ ap (λ (r : List ℕ). apply (cluster_size s) inner_store r) (apply_append (cluster_size s) (count_store (geo s) mi t 1 ∷ fill t 0 zeros) (count_store (geo s) mi c 1 ∷ fill c 0 bs) s))

    module _ (kept : Ok (geo s) (code s) (m0 backing img all) (apply_all_u us s)) (free : Disjoint (in_phase 1 s ready us) p3) where
      fine_last : Ok (geo s) (code s) (m0 backing img all) last
      fine_last = subst (Ok (geo s) (code s) (m0 backing img all)) is_last kept

      spared_t : st.dead t → ⊥
      spared_t =
          taken_spared backing img all s fs p0 p1 p2 p3 st ready al t t_n zt sorts free
          (covers-left both (inner ∷ []) _ (covers-left (allot s t zeros) (allot s c bs) _ (taken-covers backing img all s fs p0 p1 p2 p3 st ready al t t_n zt zeros)))

      spared_c : st.dead c → ⊥
      spared_c =
          taken_spared backing img all s fs p0 p1 p2 p3 st ready al c c_n zc sorts free
          (covers-left both (inner ∷ []) _ (covers-right (allot s t zeros) (allot s c bs) _ (taken-covers backing img all s fs p0 p1 p2 p3 st ready al c c_n zc bs)))

      l_a : 0 + length bs ≤ cluster_size s
      l_a = omega (arith, whole.len)

      apart : t ≢ c
      apart e = omega arith

      abbrev role : ℕ → Use
      role = assign (assign st.role t (table i)) c (datum i j)

      tables : (u k : ℕ) → u < clusters s → role u ≡ table k → (st.role u ≡ table k) ⊎ ((o : ℕ) → o < cluster_size s → covers (extents (both ++ inner ∷ [])) (u * cluster_size s + o) ≡ true)
      tables u k n e =
          go (was (geo s) (code s) st.ok (m0 backing img all) img st.begun st.role st.dead st.r st.l st.f s st.batch.planned st.batch.settled i j num.in_roots num.in_table num.active hi bare t c bs t_n c_n apart zt zc spared_t spared_c l_a whole.small u k e (ℕ_discrete u c) (ℕ_discrete u t))
        where
          go : (u ≡ t) ⊎ (st.role u ≡ table k) → (st.role u ≡ table k) ⊎ ((o : ℕ) → o < cluster_size s → covers (extents (both ++ inner ∷ [])) (u * cluster_size s + o) ≡ true)
          go (inl h) = inr (λ o l. rw h (covers-left both (inner ∷ []) _ (table-covers o l)))
          go (inr h) = inl h

      pub tabled-added : Added backing img all s fs p0 p1 p2 p3 st ready al (write y d) us
      tabled-added =
          add backing img all s fs p0 p1 p2 p3 st ready al (write y d) us (both ++ inner ∷ []) (link ∷ []) [] role st.dead _ _ _ sorts ha link_likes like_none
          (subst (Call (geo s) (code s) st.ok (m0 backing img all) img st.begun (Past backing img all (geo s) (code s)) st.role role st.dead st.dead _ _ _ s) (sym is_last)
          (new_table (geo s) (code s) st.ok (m0 backing img all) img st.begun (Past backing img all (geo s) (code s)) st.role st.dead st.r st.l st.f s st.batch.planned st.batch.settled i j num.in_roots num.in_table num.active hi bare t c bs t_n c_n apart zt zc spared_t spared_c l_a whole.small fine_last))
          tables (λ k n e. inl e)
          (unseen ha (hidden (geo s) (code s) st.ok (m0 backing img all) img st.begun (Past backing img all (geo s) (code s)) st.role st.dead st.r st.l st.f s st.batch.planned st.batch.settled i j num.in_roots num.in_table num.active hi bare t c bs t_n c_n apart zt zc spared_t spared_c l_a whole.small fine_last))
