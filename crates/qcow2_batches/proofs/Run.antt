-- One more request of a batch: its list by phase, with the unit that clears the autoclear field. Assumes nothing.
use Prim.Native.Nat.{ℕ}
use native.Mathlib.Omega.{arith}
use mathlib.Core.Path.{◌≡◌, refl, sym, ap, ◌∙◌, subst}
use mathlib.Core.Logic.{◌⊎◌, inl, inr, ◌≢◌}
use mathlib.Core.Bool.{true, false}
use mathlib.Core.List.{List, [], ◌∷◌, ◌++◌, append-nil}
use lib.Dec.{eqb}
use lib.ListN.{length, take}
use borrow.Author.Tests.{eqb-true, eqb-false, ne_eqb}
use Rattle.choice.proofs.Tests.{if_yes, if_no, two_ways}
use Rattle.cuts.proofs.Cell.{mem}
use Rattle.cuts.proofs.Step.{Quiet}
use Rattle.cuts.proofs.Run.{Store, apply}
use Rattle.cuts.proofs.Run.{none as each_none}
use Rattle.cuts.proofs.Call.{Ok}
use Rattle.batches.proofs.Batch.{next}
use Rattle.batches.proofs.Clear.{clears}
use Rattle.endian.specs.Big.{bytes64}
use Rattle.endian.proofs.Laws.{length-bytes64}
use Rattle.units.specs.Units.{UnitStore}
use Rattle.units.specs.Units.{apply as apply_u, apply_all as apply_all_u}
use Rattle.units.specs.Plan.{Plan, refused, units, plan_units, stores_count}
use Rattle.units.proofs.Laws.{length-apply_all, apply_all_append}
use Rattle.qcow2_spec.specs.Header.{autoclear_at, autoclear, cluster_size}
use Rattle.qcow2_spec.specs.Store.{clear_units, clearing}
use Rattle.qcow2_spec.specs.Disk.{Request}
use Rattle.qcow2_spec.specs.Flush.{halves, joined, loosely}
use Rattle.qcow2_spec.specs.Steps.{Extent, extents}
use Rattle.qcow2_spec.specs.Series.{Bytes}
use Rattle.qcow2_spec.proofs.Facts.{Facts}
use Rattle.qcow2_spec.proofs.Geo.{geo, code}
use Rattle.qcow2_spec.proofs.Flush.{halves-whole, held_cut, loosely-none}
use Rattle.qcow2_spec.proofs.Extents.{Disjoint}
use Rattle.qcow2_spec.proofs.Kind.{Kind, KindOf}
use Rattle.qcow2_spec.proofs.Plans.{clear, clear_store, clear-is, clear-bytes, clear_aside, Mid, End, Fine, Asides, whole_aside, untouched, fine_kind, zeroed}
use Rattle.qcow2_spec.proofs.Plans.{cleared as wiped}
use Rattle.qcow2_spec.proofs.Units.{Like}
use Rattle.qcow2_spec.proofs.Units.{none as like_none}
use Rattle.qcow2_spec.proofs.Series.{Good, fs, own}
use Rattle.qcow2_batches.specs.Batch.{in_phase, call_phase}
use Rattle.qcow2_batches.proofs.Covers.{Alike}
use Rattle.qcow2_batches.proofs.Sorted.{sorted_in, call_phase-none}
use Rattle.qcow2_batches.proofs.Firsts.{Firsts, firsts_like, firsts_clear}
use Rattle.qcow2_batches.proofs.State.{uncut, Past, past_same, m0, State}
use Rattle.qcow2_batches.proofs.Added.{Early, unseen, visible, Added}
use Rattle.qcow2_batches.proofs.Goods.{ok_after}

-- it may be cleared before all units as well as after them
all_aside : (backing s : List ℕ) (f : Facts s) (es : List (List UnitStore)) → Asides backing s f es → (t : List ℕ) → apply_all_u (joined es) (apply_u clear t) ≡ apply_u clear (apply_all_u (joined es) t)
unfolding joined Asides apply_all_u
all_aside backing s f [] h t = refl
all_aside backing s f (us ∷ es) h t =
    apply_all_append us (joined es) (apply_u clear t) ∙ ap (λ (y : List ℕ). apply_all_u (joined es) y) (whole_aside backing s f us t h.0) ∙ all_aside backing s f es h.1 (apply_all_u us t)
    ∙ sym (ap (apply_u clear) (apply_all_append us (joined es) t))

-- the autoclear field is cleared at most once in a batch
pub data Clearing : (p0 : List UnitStore) (s : List ℕ) → Type 0 where
  not_yet : {s : List ℕ} → Clearing [] s
  cleared : {s : List ℕ} (t : List ℕ) → s ≡ apply_u clear t → Clearing (clear ∷ []) s

module _ (backing start img : List ℕ) (all : List Request) (bb : Bytes backing) (s : List ℕ) (k : Good backing start s) where
  abbrev m₀ : ℕ → ℕ → ℕ
  m₀ = m0 backing img all

  abbrev PastAt : List ℕ → Type 0
  PastAt t = Past backing img all (geo s) (code s) (mem (cluster_size s) t)

  -- ---- every smooth cut of a list of some kind is fine
  module _ (r : Request) (us : List UnitStore) (kind : Kind backing s (fs backing start s k) r us) (fine : Ok (geo s) (code s) m₀ s) where
    pub smooth : (n : ℕ) → Ok (geo s) (code s) m₀ (apply_all_u (take n us) s)
    unfolding Fine
    smooth n =
        let f = fs backing start s k in
        let o = own backing start s k in
        let h : Fine backing s f r (units us) = fine_kind backing s f bb o kind in
        let q : Mid backing s f r (stores_count us) (apply_all_u (loosely (halves us) n []) s) =
        held_cut (Mid backing s f r (stores_count us)) (End backing s f r) (halves us) s (untouched backing s f bb o r (stores_count us)) h.0 n [] in
        ok_after (geo s) (code s) m₀ s _ fine
        (subst (λ (vs : List UnitStore). Ok (geo s) (code s) (mem (cluster_size s) s) (apply_all_u vs s)) (loosely-none (halves us) n ∙ ap (take n) (halves-whole us)) q.0)

  -- ---- the request
  module _ (r : Request) (p0 p1 p2 p3 : List UnitStore) (st : State backing img all (geo s) (code s) s p0 p1 p2 p3) (ready : List Extent) (al : Alike ready (extents p1)) (cl : Clearing p0 s)
      (added : (us : List UnitStore) → Kind backing s (fs backing start s k) r us → ((n : ℕ) → Ok (geo s) (code s) m₀ (apply_all_u (take n us) s)) → PastAt (apply_all_u us s) → Disjoint (in_phase 1 s ready us) p3
      → Added backing img all s (fs backing start s k) p0 p1 p2 p3 st ready al r us) where
    -- with its list us, which leaves t
    pub record Ran (us : List UnitStore) (t : List ℕ) : Type 1 where
      pub state : State backing img all (geo s) (code s) t (p0 ++ call_phase 0 s ready us) (p1 ++ call_phase 1 s ready us) (p2 ++ call_phase 2 s ready us) (p3 ++ call_phase 3 s ready us)
      pub clearing : Clearing (p0 ++ call_phase 0 s ready us) t
      pub early : Early backing img all (geo s) (code s) st.ok r us (call_phase 1 s ready us)

    -- a field that is not zero was not cleared
    uncleared : {q : List UnitStore} {y : List ℕ} → Clearing q y → autoclear y ≢ 0 → length y ≡ length s → q ≡ []
    unfolding apply_all_u
    uncleared not_yet n e = refl
    uncleared (cleared t e) n l =
        absurd (n (ap autoclear e ∙ zeroed backing s (fs backing start s k) bb (own backing start s k) t (sym (length-apply_all (clear ∷ []) t) ∙ ap (λ (y : List ℕ). length y) (sym e) ∙ l)))

    -- it is cleared
    clear_state : (y : List ℕ) (q1 q2 q3 : List UnitStore) → State backing img all (geo s) (code s) y p0 q1 q2 q3 → p0 ≡ [] → State backing img all (geo s) (code s) (apply_u clear y) (p0 ++ clear ∷ []) q1 q2 q3
    clear_state y q1 q2 q3 w e =
        record {
          ok = w.ok;
          begun = w.begun;
          role = w.role;
          dead = w.dead;
          r = w.r ++ clear_store ∷ [];
          l = w.l;
          f = w.f;
          batch = rw (clear-is (cluster_size s) y)
              (rw (append-nil w.l, append-nil w.f) at
              (next (geo s) (code s) w.ok m₀ img w.begun (Past backing img all (geo s) (code s)) w.role w.role w.dead w.dead w.r w.l w.f (clear_store ∷ []) [] [] y (apply (cluster_size s) clear_store y) w.batch
              (clears (geo s) (code s) w.ok m₀ img w.begun (Past backing img all (geo s) (code s)) w.role w.dead w.r w.l w.f y w.batch.planned autoclear_at (bytes64 0) (omega arith) (omega (arith, length-bytes64 0)) clear-bytes)));
          firsts = rw e (firsts_clear (firsts_like (subst (λ (q : List UnitStore). Firsts (cluster_size s) q q1 w.r) e w.firsts)));
          seconds = w.seconds;
          thirds = w.thirds;
          filled = w.filled;
          lowered = w.lowered;
        }

    -- the clearing unit is no count
    early-clear : {q : Request} {us a : List UnitStore} → Early backing img all (geo s) (code s) st.ok q us a → Early backing img all (geo s) (code s) st.ok q (clear ∷ us) a
    unfolding stores_count
    early-clear (unseen h e) = unseen h e
    early-clear (visible c ei ej i_l i_m j_e sm in_c h d one z) = visible c ei ej i_l i_m j_e sm in_c h d one z

    -- by parts
    ran_by : (us : List UnitStore) (t : List ℕ) (q0 q1 q2 q3 : List UnitStore) → call_phase 0 s ready us ≡ q0 → call_phase 1 s ready us ≡ q1 → call_phase 2 s ready us ≡ q2 → call_phase 3 s ready us ≡ q3
        → State backing img all (geo s) (code s) t (p0 ++ q0) (p1 ++ q1) (p2 ++ q2) (p3 ++ q3) → Clearing (p0 ++ q0) t → Early backing img all (geo s) (code s) st.ok r us q1 → Ran us t
    ran_by us t q0 q1 q2 q3 e0 e1 e2 e3 w c e = record { state = rw (e0, e1, e2, e3) w; clearing = rw e0 c; early = rw e1 e }

    -- no unit
    ran-none : Ran [] s
    ran-none =
        ran_by [] s [] [] [] [] (call_phase-none 0 s ready) (call_phase-none 1 s ready) (call_phase-none 2 s ready) (call_phase-none 3 s ready)
        (rw (append-nil p0, append-nil p1, append-nil p2, append-nil p3) st) (rw (append-nil p0) cl) (unseen like_none each_none)

    module _ (us : List UnitStore) (kind : Kind backing s (fs backing start s k) r us) where
      smooths : (n : ℕ) → Ok (geo s) (code s) m₀ (apply_all_u (take n us) s)
      smooths = smooth r us kind st.batch.planned.fine

      fine : Ok (geo s) (code s) m₀ (apply_all_u us s)
      fine = uncut (Ok (geo s) (code s) m₀) us s smooths

      still_clear : {vs : List Store} → Like (cluster_size s) us vs → {q : List UnitStore} {y : List ℕ} → Clearing q y → Clearing (q ++ []) (apply_all_u us y)
      still_clear h not_yet = not_yet
      still_clear h (cleared t e) = cleared (apply_all_u us t) (ap (λ (y : List ℕ). apply_all_u us y) e ∙ clear_aside s (fs backing start s k) h t)

      -- the field is zero
      ran-plain : autoclear s ≡ 0 → PastAt (apply_all_u us s) → Disjoint (call_phase 1 s ready us) p3 → Ran us (apply_all_u us s)
      unfolding call_phase clear_units
      ran-plain z now free =
          let e : length (clear_units s) ≡ 0 = rw z refl in
          let w = added us kind smooths now (rw e at free) in
          let q = sorted_in w.sorted in
          ran_by us _ [] w.a w.b w.c (rw e refl) (rw e q.0) (rw e q.1) (rw e q.2) (rw (append-nil p0) w.state) (still_clear w.like.1 cl) w.early

      -- the field is not zero: it is cleared first, or as well last
      last : (t : List ℕ) → apply_all_u us (apply_u clear t) ≡ apply_u clear (apply_all_u us t)
      unfolding Fine
      last t =
          let f = fs backing start s k in
          let h : Fine backing s f r (units us) = fine_kind backing s f bb (own backing start s k) kind in
          subst (λ (vs : List UnitStore). apply_all_u vs (apply_u clear t) ≡ apply_u clear (apply_all_u vs t)) (halves-whole us) (all_aside backing s f (halves us) h.1 t)

      ran-clear : autoclear s ≢ 0 → PastAt (apply_all_u us (apply_u clear s)) → Disjoint (call_phase 1 s ready (clear ∷ us)) p3 → Ran (clear ∷ us) (apply_all_u us (apply_u clear s))
      unfolding call_phase clear_units
      ran-clear n now free =
          let e : length (clear_units s) ≡ 1 = ap (λ (vs : List UnitStore). length vs) (if_no (eqb (autoclear s) 0) [] (clear ∷ []) (ne_eqb _ _ n)) in
          let y : List ℕ = apply_all_u us s in
          let q : Quiet (geo s) (code s) (mem (cluster_size s) y) (mem (cluster_size s) (apply_u clear y)) = (wiped s (fs backing start s k) m₀ y fine).1 in
          let before : PastAt y = past_same backing img all (geo s) (code s) _ _ (λ i j o i_l j_e o_c. sym (q.reads i j o i_l j_e o_c)) (rw (last s) at now) in
          let w = added us kind smooths before (rw e at free) in
          let z : p0 ≡ [] = uncleared cl n refl in
          let h = sorted_in w.sorted in
          rw (last s)
          (ran_by (clear ∷ us) (apply_u clear y) (clear ∷ []) w.a w.b w.c (rw e refl) (rw e h.0) (rw e h.1) (rw e h.2)
          (clear_state y (p1 ++ w.a) (p2 ++ w.b) (p3 ++ w.c) w.state z) (rw z (cleared y refl)) (early-clear w.early))

    -- any plan
    pub run_plan : (p : Plan) → KindOf backing s (fs backing start s k) r p → PastAt (apply_all_u (plan_units (clearing s p)) s) → Disjoint (call_phase 1 s ready (plan_units (clearing s p))) p3
        → Ran (plan_units (clearing s p)) (apply_all_u (plan_units (clearing s p)) s)
    unfolding KindOf plan_units clearing clear_units apply_all_u
    run_plan (refused n) h now free = ran-none
    run_plan (units []) h now free = ran-none
    run_plan (units (u ∷ us)) h now free = go (two_ways (eqb (autoclear s) 0)) now free
      where
        go : (eqb (autoclear s) 0 ≡ true) ⊎ (eqb (autoclear s) 0 ≡ false) → PastAt (apply_all_u (clear_units s ++ u ∷ us) s) → Disjoint (call_phase 1 s ready (clear_units s ++ u ∷ us)) p3
            → Ran (clear_units s ++ u ∷ us) (apply_all_u (clear_units s ++ u ∷ us) s)
        go (inl e) =
            subst (λ (c : List UnitStore). PastAt (apply_all_u (c ++ u ∷ us) s) → Disjoint (call_phase 1 s ready (c ++ u ∷ us)) p3 → Ran (c ++ u ∷ us) (apply_all_u (c ++ u ∷ us) s))
            (sym (if_yes (eqb (autoclear s) 0) [] (clear ∷ []) e)) (ran-plain (u ∷ us) h (eqb-true _ _ e))
        go (inr e) =
            subst (λ (c : List UnitStore). PastAt (apply_all_u (c ++ u ∷ us) s) → Disjoint (call_phase 1 s ready (c ++ u ∷ us)) p3 → Ran (c ++ u ∷ us) (apply_all_u (c ++ u ∷ us) s))
            (sym (if_no (eqb (autoclear s) 0) [] (clear ∷ []) e)) (ran-clear (u ∷ us) h (eqb-false _ _ e))
