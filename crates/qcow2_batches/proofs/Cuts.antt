-- What a power cut leaves of a batch, whichever units of the phase at work are stored. Assumes nothing.
use Prim.Native.Nat.{ℕ, ◌*◌, ◌<◌}
use mathlib.Core.Path.{◌≡◌, refl, ap, ◌∙◌}
use mathlib.Core.Bool.{Bool, true, false}
use mathlib.Core.List.{List, [], ◌∷◌, append-nil}
use Rattle.cuts.proofs.Cell.{mem}
use Rattle.cuts.proofs.Step.{gread, Quiet}
use Rattle.cuts.proofs.Run.{Store, apply_all}
use Rattle.cuts.proofs.Run.{picked as picked_s}
use Rattle.cuts.proofs.Call.{Ok, SameGuest}
use Rattle.batches.proofs.Held.{held_among, held_after, held_whole, shown_among, shown-after}
use Rattle.units.specs.Units.{UnitStore}
use Rattle.units.specs.Units.{apply as apply_u, apply_all as apply_all_u}
use Rattle.units.specs.Plan.{plan_units}
use Rattle.units.proofs.Laws.{apply_all_append}
use Rattle.qcow2_spec.specs.Header.{most_l1, cluster_size, disk_size, per_table, roots}
use Rattle.qcow2_spec.specs.Disk.{Request, plan_of, SameDisk}
use Rattle.qcow2_spec.specs.Flush.{picked}
use Rattle.qcow2_spec.specs.Steps.{Extent}
use Rattle.qcow2_spec.specs.Series.{Bytes}
use Rattle.qcow2_spec.proofs.Geo.{geo, code}
use Rattle.qcow2_spec.proofs.Flush.{picked_nil, Held}
use Rattle.qcow2_spec.proofs.Plans.{clear}
use Rattle.qcow2_spec.proofs.Plans.{cleared as wiped}
use Rattle.qcow2_spec.proofs.Units.{like_picked, like_all}
use Rattle.qcow2_spec.proofs.Series.{Good, fs, own}
use Rattle.qcow2_batches.specs.Batch.{call_phase, ready_after, ran, memory, batch_phase, batch_phases}
use Rattle.qcow2_batches.specs.Series.{cut_short, FedAll, AllBytesOf}
use Rattle.qcow2_batches.proofs.Prefix.{fed-all-same}
use Rattle.qcow2_batches.proofs.Sorted.{call_phase-none}
use Rattle.qcow2_batches.proofs.Firsts.{front, rest, picked_append, Firsts, uncleared, cleared, firsts_all}
use Rattle.qcow2_batches.proofs.State.{Past, State}
use Rattle.qcow2_batches.proofs.Goods.{shows}
use Rattle.qcow2_batches.proofs.All.{Earlies}
use Rattle.qcow2_batches.proofs.Shows.{shows_good, shows_fed}
use Rattle.qcow2_batches.proofs.Before.{At, at-good, early-step, same-shown}

module _ (backing start img : List ℕ) (all : List Request) (bb : Bytes backing) (b : Good backing start start) (k0 : Good backing start img) (sm : AllBytesOf all) where
  abbrev shown : List ℕ → ℕ → ℕ
  shown = shows backing start bb

  abbrev AtU : List ℕ → Type 0
  AtU = At backing start img all bb k0

  -- ---- before the entries
  earlies_cut : (s : List ℕ) (ready : List Extent) (rs : List Request) → Earlies backing start img all bb b k0 s ready rs → (u : List ℕ) → AtU u → (cs : List Bool)
      → AtU (apply_all_u (picked cs (batch_phase 1 backing s ready rs)) u) × FedAll cut_short backing start s (shown u) rs (shown (apply_all_u (picked cs (batch_phase 1 backing s ready rs)) u))
  unfolding Earlies batch_phase FedAll SameDisk apply_all_u
  earlies_cut s ready [] e u h cs = rw (picked_nil cs) (h, λ y l. refl)
  earlies_cut s ready (r ∷ rs) e u h cs =
      let us : List UnitStore = plan_units (plan_of backing s r) in
      let a : List UnitStore = call_phase 1 s ready us in
      let vs : List UnitStore = batch_phase 1 backing (ran backing s r) (ready_after s ready us) rs in
      let v : List ℕ = apply_all_u (picked (front a cs) a) u in
      let w = early-step backing start img all bb k0 e.0.0 r (plan_of backing s r) a e.0.1 (λ z. rw z (call_phase-none 1 s ready)) u h (front a cs) in
      let z = earlies_cut (ran backing s r) (ready_after s ready us) rs e.1 v w.0 (rest a cs) in
      rw (picked_append cs a vs, apply_all_append (picked (front a cs) a) (picked (rest a cs) vs) u) (z.0, (shown v, w.1, z.1))

  -- ---- an image that reads as one of the batch's
  pub record Fits (t : List ℕ) : Type 0 where
    pub good : Good backing start t
    pub fed : FedAll cut_short backing start img (shown img) all (shown t)

  abbrev PastIn : (ℕ → ℕ → ℕ) → Type 0
  PastIn = Past backing img all (geo img) (code img)

  fits_by : (t : List ℕ) → Ok (geo img) (code img) (mem (cluster_size img) img) t
      → ((i j : ℕ) → i < roots img * most_l1 → j < per_table img → (y : ℕ → ℕ → ℕ) × PastIn y × ((o : ℕ) → o < cluster_size img → gread (geo img) (code img) (mem (cluster_size img) t) i j o ≡ gread (geo img) (code img) y i j o)) → Fits t
  fits_by t q h = record { good = shows_good backing start img all bb b k0 sm t q h; fed = shows_fed backing start img all bb b k0 sm t q h }

  first_past : PastIn (mem (cluster_size img) img)
  unfolding memory
  first_past = record { done = []; rest = all; whole = refl; same = λ i j o i_l j_e o_c. refl }

  last-past : PastIn (mem (cluster_size img) (memory backing img all))
  last-past = record { done = all; rest = []; whole = append-nil all; same = λ i j o i_l j_e o_c. refl }

  first-at : AtU img
  first-at = record { kept = own backing start img k0; keep = record { small = k0.sound.bytes; rts = λ a l. refl; l1s = λ a l. refl; l2s = λ i j l n d. refl }; shots = λ a c x l n p q. refl }

  fits-same : (t : List ℕ) → Ok (geo img) (code img) (mem (cluster_size img) img) t → SameGuest (geo img) (code img) img t → Fits t
  unfolding SameGuest
  fits-same t q g = fits_by t q (λ i j i_l j_e. (mem (cluster_size img) img, first_past, λ o o_c. g i j o i_l j_e o_c))

  pub first_fits : Fits img
  unfolding SameGuest
  first_fits = fits-same img (own backing start img k0) (λ i j o i_l j_e o_c. refl)

  -- ---- the autoclear field is cleared
  clear-left : Ok (geo img) (code img) (mem (cluster_size img) img) (apply_u clear img) × Quiet (geo img) (code img) (mem (cluster_size img) img) (mem (cluster_size img) (apply_u clear img))
  clear-left = wiped img (fs backing start img k0) (mem (cluster_size img) img) img (own backing start img k0)

  clear-same : SameGuest (geo img) (code img) img (apply_u clear img)
  unfolding SameGuest
  clear-same = clear-left.1.reads

  clear_at : AtU (apply_u clear img)
  unfolding SameGuest
  clear_at = record { kept = clear-left.0; keep = clear-left.1.keep; shots = λ a c x l n p q. clear-same a c x l p q }

  -- ---- before phase 1
  start_cut : {q p : List UnitStore} {r : List Store} → Firsts (cluster_size img) q p r → (cs : List Bool) → Fits (apply_all_u (picked cs q) img)
  unfolding apply_all_u picked
  start_cut (uncleared h) cs = rw (picked_nil cs) first_fits
  start_cut (cleared h k) [] = first_fits
  start_cut (cleared h k) (true ∷ cs) = rw (picked_nil cs) (fits-same (apply_u clear img) clear-left.0 clear-same)
  start_cut (cleared h k) (false ∷ cs) = rw (picked_nil cs) first_fits

  start-at : {q p : List UnitStore} {r : List Store} → Firsts (cluster_size img) q p r → AtU (apply_all_u q img)
  unfolding apply_all_u
  start-at (uncleared h) = first-at
  start-at (cleared h k) = clear_at

  start-same : {q p : List UnitStore} {r : List Store} → Firsts (cluster_size img) q p r → SameDisk (disk_size start) (shown (apply_all_u q img)) (shown img)
  unfolding apply_all_u SameDisk
  start-same (uncleared h) = λ y l. refl
  start-same (cleared h k) = same-shown backing start img all bb k0 img (apply_u clear img) first-at clear-left.0 clear-same

  -- ---- the phases
  abbrev P : ℕ → List UnitStore
  P n = batch_phase n backing img [] all

  module _ (st : State backing img all (geo img) (code img) (memory backing img all) (P 0) (P 1) (P 2) (P 3)) (el : Earlies backing start img all bb b k0 img [] all) where
    cut_one : (cs : List Bool) → Fits (apply_all_u (picked cs (P 1)) (apply_all_u (P 0) img))
    unfolding SameDisk
    cut_one cs =
        let w = earlies_cut img [] all el (apply_all_u (P 0) img) (start-at st.firsts) cs in
        record {
          good = at-good backing start img all bb k0 _ w.0;
          fed = fed-all-same backing start cut_short img all (shown (apply_all_u (P 0) img)) (shown img) _ _ (start-same st.firsts) (λ y l. refl) w.1;
        }

    among : (cs : List Bool) → apply_all_u (picked cs (P 2)) (apply_all_u (P 1) (apply_all_u (P 0) img)) ≡ apply_all (cluster_size img) (picked_s cs st.l) (apply_all (cluster_size img) st.r img)
    among cs = like_all (like_picked st.seconds cs) _ ∙ ap (apply_all (cluster_size img) (picked_s cs st.l)) (firsts_all img (fs backing start img k0) st.firsts img)

    cut_two : (cs : List Bool) → Fits (apply_all_u (picked cs (P 2)) (apply_all_u (P 1) (apply_all_u (P 0) img)))
    cut_two cs =
        rw (among cs)
        (fits_by _ (held_among (geo img) (code img) st.ok (mem (cluster_size img) img) img st.begun PastIn st.role st.dead st.r st.l st.f (memory backing img all) st.batch cs)
        (λ i j i_l j_e. shown_among (geo img) (code img) st.ok (mem (cluster_size img) img) img st.begun PastIn st.role st.dead st.r st.l st.f (memory backing img all) st.batch first_past last-past cs i j i_l j_e))

    entered : apply_all_u (P 2) (apply_all_u (P 1) (apply_all_u (P 0) img)) ≡ apply_all (cluster_size img) st.l (apply_all (cluster_size img) st.r img)
    entered = like_all st.seconds _ ∙ ap (apply_all (cluster_size img) st.l) (firsts_all img (fs backing start img k0) st.firsts img)

    cut_three : (cs : List Bool) → Fits (apply_all_u (picked cs (P 3)) (apply_all_u (P 2) (apply_all_u (P 1) (apply_all_u (P 0) img))))
    cut_three cs =
        rw (entered, like_all (like_picked st.thirds cs) (apply_all (cluster_size img) st.l (apply_all (cluster_size img) st.r img)))
        (fits_by _ (held_after (geo img) (code img) st.ok (mem (cluster_size img) img) img st.begun PastIn st.role st.dead st.r st.l st.f (memory backing img all) st.batch cs)
        (λ i j i_l j_e. (
          mem (cluster_size img) (memory backing img all),
          last-past,
          λ o o_c. shown-after (geo img) (code img) st.ok (mem (cluster_size img) img) img st.begun PastIn st.role st.dead st.r st.l st.f (memory backing img all) st.batch cs i j o i_l j_e o_c,
        )))

    -- stored whole it is the image in memory
    pub stored : apply_all_u (P 3) (apply_all_u (P 2) (apply_all_u (P 1) (apply_all_u (P 0) img))) ≡ memory backing img all
    stored =
        ap (λ (t : List ℕ). apply_all_u (P 3) t) entered ∙ like_all st.thirds _
        ∙ held_whole (geo img) (code img) st.ok (mem (cluster_size img) img) img st.begun PastIn st.role st.dead st.r st.l st.f (memory backing img all) st.batch

    pub batch_held : Held Fits (λ (t : List ℕ). t ≡ memory backing img all) (batch_phases backing img all) img
    unfolding Held batch_phases
    batch_held = (start_cut st.firsts, (cut_one, (cut_two, (cut_three, stored))))
