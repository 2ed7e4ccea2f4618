-- An image is made longer: the theorem about every series of runs of extending, each cut anywhere or not at all, and of other calls between them.
-- Assumes nothing.
use Rattle.std.specs.Prelude.{Ok, Result}
use Prim.Native.Nat.{ℕ, ◌≤◌, ◌<◌}
use native.Mathlib.Decide.{dec_lt}
use native.Mathlib.Omega.{arith}
use mathlib.Core.Path.{◌≡◌, refl, sym, ap, ◌∙◌, subst}
use mathlib.Core.Logic.{◌⊎◌, inl, inr, ◌≢◌}
use mathlib.Core.Bool.{Bool, true, false}
use mathlib.Core.List.{List, [], ◌∷◌}
use lib.Dec.{leb, eqb}
use lib.ListN.{length, take}
use borrow.Author.Tests.{leb-true, leb-false, eqb-true}
use Rattle.choice.proofs.Tests.{if_no, if_elim, two_ways}
use Rattle.units.specs.Units.{UnitStore, entry, apply_all}
use Rattle.units.specs.Plan.{Plan, refused, units, plan_units, ended, outcome}
use Rattle.units.specs.declared.Ended.{Ended as Ending}
use Rattle.units.specs.declared.Ended.TheVariants.{Finished, Stopped}
use Rattle.cuts.proofs.Cell.{mem}
use Rattle.cuts.proofs.Meta.{Sound}
use Rattle.qcow2_spec.specs.Header.{autoclear_at, autoclear, cluster_size, blocks, header_number, some_lent, judge_lent, judge}
use Rattle.qcow2_spec.specs.Guest.{read_number}
use Rattle.qcow2_spec.specs.Store.{clear_units, clearing, judged, write_plan, discard_plan}
use Rattle.qcow2_spec.specs.Check.{repair_plan, check}
use Rattle.qcow2_spec.specs.Disk.{Request, write, discard, repair, plan_of}
use Rattle.qcow2_spec.specs.Rough.{after_rough}
use Rattle.qcow2_spec.specs.Series.{Bytes, left_rough, ends, ClearedFirst}
use Rattle.qcow2_spec.proofs.Facts.{Facts, judge_facts, accepted_lent}
use Rattle.qcow2_spec.proofs.Geo.{geo, code}
use Rattle.qcow2_spec.proofs.Rough.{roughly_nil}
use Rattle.qcow2_spec.proofs.Verdicts.{healthy-sound}
use Rattle.qcow2_spec.proofs.Series.{healthy-check, rough3}
use Rattle.qcow2_longer.specs.Extend.{old_blocks, new_blocks, extend_number, make_blocks, extend_plan}
use Rattle.qcow2_longer.specs.Longer.{Turn, extends, calls, turned, rest, Waiting, Longer, Stage, Taken, EndsWith, Ended, TurnsHold, Extending}
use Rattle.qcow2_longer.proofs.Between.{Room, Between, AllMade, SomeLeft}
use Rattle.qcow2_longer.proofs.Made.{Cleared, cleared-none}
use Rattle.qcow2_longer.proofs.Turns.{turn, turn_finished, turn_stopped, rest_either, rest-none, rest_some, rest_idle}
use Rattle.qcow2_longer.proofs.Uncut.{NoneNamed, uncut, between_start}
use Rattle.qcow2_longer.proofs.Earlier.{bytes-earlier, room, new_zero}
use Rattle.qcow2_longer.proofs.Answers.{t_accepted, t_refused}
use Rattle.qcow2_longer.proofs.Grown.{grown-healthy, grown-numbers, grown-reads}

-- a call on an image that is refused
refused_plan : (backing t : List ℕ) → judge backing t ≡ 10 → (r : Request) → plan_of backing t r ≡ refused 10
unfolding plan_of write_plan discard_plan repair_plan judged
refused_plan backing t e (write x d) = rw e refl
refused_plan backing t e (discard g) = rw e refl
refused_plan backing t e (repair n) = rw e refl

waiting : (backing t : List ℕ) → ((lent : Bool) → judge_lent lent t ≡ 10) → Waiting backing t
unfolding judge read_number check left_rough ends after_rough outcome plan_units apply_all
waiting backing t h =
    record {
      number = h;
      reads = λ k x len. rw (h (some_lent backing)) refl;
      checks = λ scratch. rw (h (some_lent backing)) refl;
      answers = λ c. rw (refused_plan backing t (h (some_lent backing)) c.asks) refl;
      unchanged = λ c bytes. rw (refused_plan backing t (h (some_lent backing)) c.asks, roughly_nil c.allowance bytes) refl;
    }

-- a plan that is not refused is its list
plan_units_lem : (t : List ℕ) (old : ℕ) → extend_number t old ≡ 0 → extend_plan t old ≡ units (rest old t)
unfolding rest extend_plan plan_units clearing
plan_units_lem t old e = rw e (go (make_blocks t (new_blocks t old)))
  where
    go : (us : List UnitStore) → clearing t (units us) ≡ units (plan_units (clearing t (units us)))
    go [] = refl
    go (u ∷ us) = refl

-- no clearing unit is due
clear_zero : (t : List ℕ) → clear_units t ≡ [] → autoclear t ≡ 0
unfolding clear_units
clear_zero t e = go (two_ways (eqb (autoclear t) 0))
  where
    go : (eqb (autoclear t) 0 ≡ true) ⊎ (eqb (autoclear t) 0 ≡ false) → autoclear t ≡ 0
    go (inl q) = eqb-true _ _ q
    go (inr q) = absurd (let z : ◌≡◌ {A = ℕ} 0 1 = ap length (sym e ∙ if_no (eqb (autoclear t) 0) [] (entry autoclear_at 0 ∷ []) q) in omega (arith, z))

stage-none : (backing s : List ℕ) (old : ℕ) (t : List ℕ) (us : List UnitStore) → us ≡ [] → Longer backing s old t → Stage backing s old t us
unfolding Stage
stage-none backing s old t us e l = rw e l

stage-some : (backing s : List ℕ) (old : ℕ) (t : List ℕ) (us : List UnitStore) → us ≢ [] → Waiting backing t → Stage backing s old t us
unfolding Stage
stage-some backing s old t [] d w = absurd (d refl)
stage-some backing s old t (u ∷ us) d w = w

module _ (backing s : List ℕ) (old : ℕ) (bb : Bytes backing) (by : Bytes s) (n : old ≤ length s)
    (j : judge backing (take old s) ≡ 0) (f : Facts (take old s)) (k : Sound (geo (take old s)) (code (take old s)) (mem (cluster_size (take old s)) (take old s))) (e : header_number s ≡ 0) where
  r : Room s old
  r = room s old n f e

  none_named : NoneNamed s old
  none_named = new_zero s old n f e

  accepted-true : judge_lent true (take old s) ≡ 0
  unfolding judge
  accepted-true = accepted_lent (some_lent backing) (take old s) j

  -- an image of the series: the first one, or one on which a run stored something
  record Here (t : List ℕ) : Type 0 where
    between : Between s old t
    began : (t ≡ s) ⊎ (old_blocks s old < blocks s)

  here : Here s
  here = record { between = between_start by none_named; began = inl refl }

  module _ (t : List ℕ) (h : Here t) where
    accepted : extend_number t old ≡ 0
    accepted = t_accepted s old n f e k t h.between accepted-true

    left-waits : SomeLeft s old t → Waiting backing t
    left-waits x = waiting backing t number
      where
        number : (lent : Bool) → judge_lent lent t ≡ 10
        number lent = t_refused s old n f e k t h.between x lent

    made_bytes : AllMade s old t → t ≡ apply_all (rest old s) s
    unfolding apply_all
    made_bytes m = go (dec_lt (old_blocks s old) (blocks s)) h.began
      where
        first : extend_number s old ≡ 0
        first = t_accepted s old n f e k s here.between accepted-true

        go : Dec (old_blocks s old < blocks s) → (t ≡ s) ⊎ (old_blocks s old < blocks s) → t ≡ apply_all (rest old s) s
        go (yes l) b = uncut r none_named l by first h.between m
        go (no l) (inl q) = q ∙ ap (λ (us : List UnitStore). apply_all us s) (sym (rest_idle r here.between first (omega arith)))
        go (no l) (inr b) = absurd (l b)

    made-longer : AllMade s old t → Longer backing s old t
    made-longer m =
        let healthy = grown-healthy s old n f e k t h.between m backing j in
        record {
          healthy = healthy;
          uncut = made_bytes m;
          numbers = grown-numbers s old n f e k t h.between m backing j;
          reads = grown-reads s old n f e k t h.between m backing j;
          goes_on = rough3 backing t bb h.between.small healthy;
        }

    taken : Taken backing s old t
    taken = record { accepted = accepted; stage = go (rest_either r h.between) }
      where
        go : AllMade s old t ⊎ SomeLeft s old t → Stage backing s old t (rest old t)
        go (inl m) = stage-none backing s old t (rest old t) (rest-none r h.between accepted m) (made-longer m)
        go (inr x) = stage-some backing s old t (rest old t) (rest_some r h.between accepted x) (left-waits x)

    some_left : rest old t ≢ [] → SomeLeft s old t
    some_left d = go (rest_either r h.between)
      where
        go : AllMade s old t ⊎ SomeLeft s old t → SomeLeft s old t
        go (inl m) = absurd (d (rest-none r h.between accepted m))
        go (inr x) = x

  -- a run
  run_here : (t : List ℕ) → Here t → rest old t ≢ [] → (a : ℕ) (bytes : List Bool) → Here (after_rough (extend_plan t old) a bytes t)
  run_here t h d a bytes = let x = some_left t h d in record { between = turn r h.between a bytes; began = inr (omega (arith, x.1.0, x.1.1)) }

  run_ends : (t : List ℕ) (h : Here t) → rest old t ≢ [] → (a : ℕ) (bytes : List Bool) → EndsWith (outcome (extend_plan t old) a) (rest old (after_rough (extend_plan t old) a bytes t))
  unfolding outcome ended EndsWith
  run_ends t h d a bytes =
      subst (λ (p : Plan). EndsWith (outcome p a) (rest old u)) (sym (plan_units_lem t old (accepted t h)))
      (if_elim (λ (o : Ending). EndsWith (Ok o) (rest old u)) (leb (length (rest old t)) a) (Finished (length (rest old t))) (Stopped a)
      (λ q. rest-none r z.between (accepted u z) (turn_finished r h.between (accepted t h) a bytes (leb-true _ _ q)))
      (λ q. rest_some r z.between (accepted u z) (turn_stopped r h.between (accepted t h) a bytes (leb-false _ _ q))))
    where
      u : List ℕ
      u = after_rough (extend_plan t old) a bytes t

      z : Here u
      z = run_here t h d a bytes

  -- the field is cleared already, or the run starts on the first image
  run-clears : (t : List ℕ) (h : Here t) → rest old t ≢ [] → (a : ℕ) (bytes : List Bool) → ClearedFirst t (after_rough (extend_plan t old) a bytes t)
  unfolding ClearedFirst
  run-clears t h d a bytes b = go h.between.started (run_here t h d a bytes).between.started
    where
      u : List ℕ
      u = after_rough (extend_plan t old) a bytes t

      go : (t ≡ s) ⊎ Cleared s t → (u ≡ s) ⊎ Cleared s u → (u ≡ t) ⊎ (autoclear u ≡ 0)
      go (inr c) q = absurd (b (clear_zero t (cleared-none r h.between c)))
      go (inl p) (inl q) = inl (q ∙ sym p)
      go (inl p) (inr c) = inr (clear_zero u (cleared-none r (run_here t h d a bytes).between c))

  all_turns : (t : List ℕ) → Here t → (turns : List Turn) → TurnsHold backing s old t turns
  unfolding TurnsHold turned Ended
  all_turns t h [] = taken t h
  all_turns t h (extends a bytes ∷ rs) = (taken t h, λ d. ((run_ends t h d a bytes, run-clears t h d a bytes), all_turns (after_rough (extend_plan t old) a bytes t) (run_here t h d a bytes) rs))
  all_turns t h (calls c bytes ∷ rs) =
      (taken t h, λ d. (tt, subst (λ (u : List ℕ). TurnsHold backing s old u rs) (sym ((left-waits t h (some_left t h d)).unchanged c bytes)) (all_turns t h rs)))

pub extending : Extending
extending backing s old bb by n h e turns =
    let q = healthy-check backing (take old s) h in
    let f = judge_facts backing (take old s) q.0 in
    all_turns backing s old bb by n q.0 f (healthy-sound (take old s) f (bytes-earlier s old n by) q.1) e s (here backing s old bb by n q.0 f (healthy-sound (take old s) f (bytes-earlier s old n by) q.1) e) turns
