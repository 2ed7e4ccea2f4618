-- All requests of a batch, one after another. Assumes nothing.
use Prim.Native.Nat.{ℕ}
use mathlib.Core.Path.{◌≡◌, refl, sym, ap, ◌∙◌, subst}
use mathlib.Core.Bool.{Bool, ◌||◌, or_comm}
use mathlib.Core.List.{List, [], ◌∷◌, ◌++◌, append-nil, append_assoc}
use Rattle.cuts.proofs.Cell.{mem}
use Rattle.cuts.proofs.Meta.{Geo, GeoOk, Codec}
use Rattle.cuts.proofs.Step.{gread}
use Rattle.cuts.proofs.Call.{Ok}
use Rattle.batches.proofs.Mixture.{unused, used_table}
use Rattle.batches.proofs.Batch.{begin}
use Rattle.units.specs.Units.{UnitStore}
use Rattle.units.specs.Plan.{plan_units}
use Rattle.qcow2_spec.specs.Header.{cluster_size}
use Rattle.qcow2_spec.specs.Disk.{Request, plan_of}
use Rattle.qcow2_spec.specs.Steps.{Extent, extents, covers}
use Rattle.qcow2_spec.specs.Series.{Bytes, BytesOf}
use Rattle.qcow2_spec.proofs.Geo.{geo, code, geo_ok}
use Rattle.qcow2_spec.proofs.Extents.{covers_append, Disjoint}
use Rattle.qcow2_spec.proofs.Kind.{list_of, plan_is, list_kind}
use Rattle.qcow2_spec.proofs.Units.{none}
use Rattle.qcow2_spec.proofs.Series.{Good, fs, own}
use Rattle.qcow2_batches.specs.Batch.{call_phase, ready_after, ran, memory, batch_phase, Allowed}
use Rattle.qcow2_batches.specs.Series.{AllBytesOf}
use Rattle.qcow2_batches.proofs.Covers.{Alike, covers-units, covers-left, covers-right, clash-none}
use Rattle.qcow2_batches.proofs.Firsts.{uncleared}
use Rattle.qcow2_batches.proofs.State.{Past, m0, State}
use Rattle.qcow2_batches.proofs.Added.{Early}
use Rattle.qcow2_batches.proofs.Calls.{kind_added}
use Rattle.qcow2_batches.proofs.Goods.{bytes-last, ran-result, ran-good, back, back₁, forth₁, memory_kept}
use Rattle.qcow2_batches.proofs.Run.{Clearing, not_yet, Ran, run_plan}

pub memory-last : (backing s : List ℕ) (us : List Request) (r : Request) → memory backing s (us ++ r ∷ []) ≡ ran backing (memory backing s us) r
unfolding memory
memory-last backing s [] r = refl
memory-last backing s (u ∷ us) r = memory-last backing (ran backing s u) us r

module _ (backing start img : List ℕ) (all : List Request) (bb : Bytes backing) (b : Good backing start start) (k0 : Good backing start img) where
  -- a request's units on s, and those of a phase
  abbrev pub asked : (s : List ℕ) → Request → List UnitStore
  asked s r = plan_units (plan_of backing s r)

  abbrev pub part : (s : List ℕ) (ready : List Extent) → Request → ℕ → List UnitStore
  part s ready r p = call_phase p s ready (asked s r)

  -- what the guest sees of each call before the entries, by the first image's header
  abbrev pub EarlyIn : Request → (us a : List UnitStore) → Geo → Codec → Type 0
  EarlyIn r us a g K = (ok : GeoOk g K) × Early backing img all g K ok r us a

  unfoldable pub Earlies : (s : List ℕ) (ready : List Extent) → List Request → Type 0
  Earlies s ready [] = Unit {0}
  Earlies s ready (r ∷ rs) =
      EarlyIn r (asked s r) (part s ready r 1) (geo img) (code img) × Earlies (ran backing s r) (ready_after s ready (asked s r)) rs

  -- the requests that are left, planned from s on
  pub record Whole (s : List ℕ) (ready : List Extent) (rs : List Request) (p0 p1 p2 p3 : List UnitStore) : Type 1 where
    pub state : State backing img all (geo (memory backing s rs)) (code (memory backing s rs)) (memory backing s rs)
        (p0 ++ batch_phase 0 backing s ready rs) (p1 ++ batch_phase 1 backing s ready rs) (p2 ++ batch_phase 2 backing s ready rs) (p3 ++ batch_phase 3 backing s ready rs)
    pub clearing : Clearing (p0 ++ batch_phase 0 backing s ready rs) (memory backing s rs)
    pub earlies : Earlies s ready rs

  -- the extents grow with the units
  grown : (s : List ℕ) (ready : List Extent) (us p1 : List UnitStore) → Alike ready (extents p1) → Alike (ready_after s ready us) (extents (p1 ++ call_phase 1 s ready us))
  unfolding ready_after
  grown s ready us p1 al x =
      covers_append (extents (call_phase 1 s ready us)) ready x ∙ ap (λ (c : Bool). covers (extents (call_phase 1 s ready us)) x || c) (al x)
      ∙ or_comm (covers (extents (call_phase 1 s ready us)) x) (covers (extents p1) x) ∙ sym (covers-units p1 (call_phase 1 s ready us) x)

  -- an image of the batch has the first one's header
  pub same-header : (done : List Request) → AllBytesOf done → (s : List ℕ) → memory backing img done ≡ s → Ok (geo img) (code img) (mem (cluster_size img) img) s
  same-header done sd s at = subst (Ok (geo img) (code img) (mem (cluster_size img) img)) at (memory_kept backing start bb b img k0 done sd).0

  -- one request more
  module _ (s : List ℕ) (ready : List Extent) (r : Request) (rs : List Request) (p0 p1 p2 p3 : List UnitStore) where
    abbrev t : List ℕ
    t = ran backing s r

    abbrev later : List Extent
    later = ready_after s ready (asked s r)

    abbrev q : ℕ → List UnitStore
    q = part s ready r

    -- no byte of phase 1 is one of phase 3
    pub apart_here : Disjoint (p1 ++ batch_phase 1 backing s ready (r ∷ rs)) (p3 ++ batch_phase 3 backing s ready (r ∷ rs)) → Disjoint (q 1) p3
    unfolding batch_phase
    apart_here free x y z = free x (covers-right p1 (q 1 ++ batch_phase 1 backing t later rs) x (covers-left (q 1) _ x y)) (covers-left p3 _ x z)

    pub apart_next : Disjoint (p1 ++ batch_phase 1 backing s ready (r ∷ rs)) (p3 ++ batch_phase 3 backing s ready (r ∷ rs))
        → Disjoint ((p1 ++ q 1) ++ batch_phase 1 backing t later rs) ((p3 ++ q 3) ++ batch_phase 3 backing t later rs)
    unfolding batch_phase
    apart_next free = rw (append_assoc p1 (q 1) (batch_phase 1 backing t later rs), append_assoc p3 (q 3) (batch_phase 3 backing t later rs)) free

    -- its units before those of the others
    together : (p : ℕ) (us : List UnitStore) → (us ++ q p) ++ batch_phase p backing t later rs ≡ us ++ batch_phase p backing s ready (r ∷ rs)
    unfolding batch_phase
    together p us = append_assoc us (q p) (batch_phase p backing t later rs)

    pub whole-more : EarlyIn r (asked s r) (q 1) (geo img) (code img) → Whole t later rs (p0 ++ q 0) (p1 ++ q 1) (p2 ++ q 2) (p3 ++ q 3) → Whole s ready (r ∷ rs) p0 p1 p2 p3
    unfolding memory Earlies
    whole-more e h =
        record {
          state = rw (← together 0 p0, ← together 1 p1, ← together 2 p2, ← together 3 p3) h.state;
          clearing = rw (← together 0 p0) h.clearing;
          earlies = (e, h.earlies);
        }

  module _ (done rest : List Request) (r : Request) (whole : done ++ r ∷ rest ≡ all) (sd : AllBytesOf done) (s : List ℕ) (at : memory backing img done ≡ s) (k : Good backing start s) (sm : BytesOf r)
      (p0 p1 p2 p3 : List UnitStore) (st : State backing img all (geo s) (code s) s p0 p1 p2 p3) (ready : List Extent) (al : Alike ready (extents p1)) (cl : Clearing p0 s)
      (free : Disjoint (p1 ++ batch_phase 1 backing s ready (r ∷ rest)) (p3 ++ batch_phase 3 backing s ready (r ∷ rest))) where
    pub was : Past backing img all (geo s) (code s) (mem (cluster_size s) s)
    was = record { done = done; rest = r ∷ rest; whole = whole; same = λ i j o i_l j_e o_c. ap (λ (y : List ℕ). gread (geo s) (code s) (mem (cluster_size s) y) i j o) (sym at) }

    pub next-at : memory backing img (done ++ r ∷ []) ≡ ran backing s r
    next-at = memory-last backing img done r ∙ ap (λ (y : List ℕ). ran backing y r) at

    pub next-whole : (done ++ r ∷ []) ++ rest ≡ all
    next-whole = append_assoc done (r ∷ []) rest ∙ whole

    now : Past backing img all (geo s) (code s) (mem (cluster_size s) (ran backing s r))
    now = record { done = done ++ r ∷ []; rest = rest; whole = next-whole; same = λ i j o i_l j_e o_c. ap (λ (y : List ℕ). gread (geo s) (code s) (mem (cluster_size s) y) i j o) (sym next-at) }

    pub ran-one : Ran backing start img all bb s k r p0 p1 p2 p3 st ready al cl (kind_added backing img all s (fs backing start s k) p0 p1 p2 p3 st ready al was r) (asked s r) (ran backing s r)
    unfolding ran
    ran-one =
        let e = plan_is backing s k.judged r in
        rw e
        (run_plan backing start img all bb s k r p0 p1 p2 p3 st ready al cl (kind_added backing img all s (fs backing start s k) p0 p1 p2 p3 st ready al was r) (list_of backing s r)
        (list_kind backing s (fs backing start s k) bb (own backing start s k) r sm) (rw e at now) (rw e at (apart_here s ready r rest p0 p1 p2 p3 free)))

    pub next_state : State backing img all (geo (ran backing s r)) (code (ran backing s r)) (ran backing s r) (p0 ++ part s ready r 0)
        (p1 ++ part s ready r 1) (p2 ++ part s ready r 2) (p3 ++ part s ready r 3)
    next_state =
        forth₁ backing start bb s k (ran backing s r) (ran-result backing start bb s k r sm).kept
        (λ (g : Geo) (K : Codec). State backing img all g K (ran backing s r) (p0 ++ part s ready r 0) (p1 ++ part s ready r 1)
        (p2 ++ part s ready r 2) (p3 ++ part s ready r 3)) ran-one.state

    pub next-early : EarlyIn r (asked s r) (part s ready r 1) (geo img) (code img)
    next-early = back backing start bb img k0 s (same-header done sd s at) (EarlyIn r (asked s r) (part s ready r 1)) (st.ok, ran-one.early)

    pub next-cleared : Clearing (p0 ++ part s ready r 0) (ran backing s r)
    next-cleared = ran-one.clearing

  -- all that are left
  pub run-all : (done rest : List Request) → done ++ rest ≡ all → (s : List ℕ) → memory backing img done ≡ s → (k : Good backing start s) → AllBytesOf rest → AllBytesOf done
      → (p0 p1 p2 p3 : List UnitStore) → State backing img all (geo s) (code s) s p0 p1 p2 p3 → (ready : List Extent) → Alike ready (extents p1) → Clearing p0 s
      → Disjoint (p1 ++ batch_phase 1 backing s ready rest) (p3 ++ batch_phase 3 backing s ready rest) → Whole s ready rest p0 p1 p2 p3
  unfolding memory batch_phase Earlies AllBytesOf
  run-all done [] whole s at k sm sd p0 p1 p2 p3 st ready al cl free =
      record { state = rw (append-nil p0, append-nil p1, append-nil p2, append-nil p3) st; clearing = rw (append-nil p0) cl; earlies = tt }
  run-all done (r ∷ rs) whole s at k sm sd p0 p1 p2 p3 st ready al cl free =
      whole-more s ready r rs p0 p1 p2 p3 (next-early done rs r whole sd s at k sm.0 p0 p1 p2 p3 st ready al cl free)
      (run-all (done ++ r ∷ []) rs (next-whole done rs r whole sd s at k sm.0 p0 p1 p2 p3 st ready al cl free) (ran backing s r) (next-at done rs r whole sd s at k sm.0 p0 p1 p2 p3 st ready al cl free)
      (ran-good backing start bb s k r sm.0 b).0 sm.1 (bytes-last done r sd sm.0) _ _ _ _ (next_state done rs r whole sd s at k sm.0 p0 p1 p2 p3 st ready al cl free)
      (ready_after s ready (asked s r)) (grown s ready (asked s r) p1 al) (next-cleared done rs r whole sd s at k sm.0 p0 p1 p2 p3 st ready al cl free)
      (apart_next s ready r rs p0 p1 p2 p3 free))

  -- ---- the whole batch
  begun : State backing img all (geo img) (code img) img [] [] [] []
  unfolding memory
  begun =
      record {
        ok = geo_ok img (fs backing start img k0);
        begun = own backing start img k0;
        role = λ c. unused;
        dead = λ c. ⊥;
        r = [];
        l = [];
        f = [];
        batch = begin (geo img) (code img) (geo_ok img (fs backing start img k0)) (m0 backing img all) img (own backing start img k0) (Past backing img all (geo img) (code img))
            (record { done = []; rest = all; whole = refl; same = λ i j o i_l j_e o_c. refl });
        firsts = uncleared none;
        seconds = none;
        thirds = none;
        filled = λ t i x n e. absurd (used_table i (sym e));
        lowered = λ c n d. absurd d;
      }

  pub batch_whole : AllBytesOf all → Allowed backing img all → Whole img [] all [] [] [] []
  unfolding Allowed extents covers memory AllBytesOf
  batch_whole sm free =
      run-all [] all refl img refl k0 sm tt [] [] [] [] begun [] (λ x. refl) not_yet (clash-none (extents (batch_phase 1 backing img [] all)) (extents (batch_phase 3 backing img [] all)) free)

  pub batch_state : AllBytesOf all → Whole img [] all [] [] [] []
      → State backing img all (geo img) (code img) (memory backing img all) (batch_phase 0 backing img [] all) (batch_phase 1 backing img [] all) (batch_phase 2 backing img [] all) (batch_phase 3 backing img [] all)
  batch_state sm w =
      back₁ backing start bb img k0 (memory backing img all) (same-header all sm (memory backing img all) refl)
      (λ (g : Geo) (K : Codec). State backing img all g K (memory backing img all) (batch_phase 0 backing img [] all) (batch_phase 1 backing img [] all) (batch_phase 2 backing img [] all) (batch_phase 3 backing img [] all)) w.state
