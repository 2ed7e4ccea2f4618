-- Every call's list of units, cut between any two flushes with any of the units there stored, keeps the image sound or leaking and feeds the plain disk as the rules say. Assumes nothing.
use Rattle.std.specs.Prelude.{Ok as ok}
use Prim.Native.Nat.{ℕ, ◌+◌, ◌-◌, ◌*◌, ◌/◌, ◌%◌, ◌<◌}
use native.Mathlib.Nat.{zero-mul, zero-add, div-eq_of_lt, mod-lt}
use native.Mathlib.Omega.{arith}
use mathlib.Core.Path.{◌≡◌, refl, sym, ap, ◌∙◌, subst}
use mathlib.Core.Logic.{◌⊎◌, inl, inr, ◌≢◌}
use mathlib.Core.Bool.{Bool, true, false}
use mathlib.Core.List.{List, [], ◌∷◌, ◌++◌}
use lib.Dec.{eqb}
use lib.ListN.{length, take, drop, replicate, length-replicate}
use lib.Seq.{sets, take-nil, drop-nil}
use borrow.Author.Tests.{eqb-true}
use Rattle.cuts.proofs.Cell.{mem, small-enc}
use Rattle.cuts.proofs.Meta.{cnt, Has, Sound, keep_refs}
use Rattle.cuts.proofs.Step.{dat_in, Quiet}
use Rattle.cuts.proofs.Run.{Store, apply, Epoch, epoch_only, epoch_late, none as each_none, also as each_also}
use Rattle.cuts.proofs.Call.{Ok, SameGuest, Zeroed, MidZ, EndZ, discard-run, unmark_run, count_store}
use Rattle.cuts.proofs.Write.{Wrote, MidW, EndW, MidP, place-run, marked-run, alloc_run, table-run}
use Rattle.cuts.proofs.Repair.{MidR, Repaired, repair-run}
use Rattle.cuts.proofs.Idle.{idle_store}
use Rattle.endian.specs.Big.{be64, bytes64}
use Rattle.endian.proofs.Laws.{length-bytes64, sets_splice, be64-stored}
use Rattle.units.proofs.Laws.{length-apply_all}
use Rattle.qcow2_spec.specs.Header.{most_l1, autoclear_at, autoclear, version, cluster_size, clusters, disk_size, per_table, roots, root_size, judge}
use Rattle.qcow2_spec.specs.Entries.{new_entry}
use Rattle.qcow2_spec.specs.Counts.{count_of, set_count}
use Rattle.units.specs.Plan.{Plan, refused, units, plan_units, stores_count}
use Rattle.units.specs.Units.{UnitStore, entry, apply as apply_u, apply_all, cluster, fill}
use Rattle.qcow2_spec.specs.Guest.{l1_entry_at}
use Rattle.qcow2_spec.specs.Store.{clear_units, clearing, allot, cleared_entry}
use Rattle.qcow2_spec.specs.References.{figures_of}
use Rattle.qcow2_spec.specs.Check.{repair_units}
use Rattle.units.specs.declared.Ended.TheVariants.{Stopped}
use Rattle.qcow2_spec.specs.Disk.{Request, write, discard, repair, plan_of, finished, SameDisk, Fed}
use Rattle.qcow2_spec.specs.Flush.{stores_entry, halves, epochs, picked}
use Rattle.qcow2_spec.specs.Series.{ClearedFirst, Bytes, BytesOf}
use Rattle.choice.proofs.Tests.{if_elim}
use Rattle.qcow2_spec.proofs.Facts.{Facts, c_big}
use Rattle.qcow2_spec.proofs.Numbers.{enc8}
use Rattle.qcow2_spec.proofs.Geo.{nr, geo, code, geo_ok}
use Rattle.qcow2_spec.proofs.Kept.{has, cnt_own}
use Rattle.qcow2_spec.proofs.Flush.{halves-entry, halves-table, halves-drop, halves-none, picked_nil, picked_all, Held}
use Rattle.qcow2_spec.proofs.Sectors.{spot, wide, sector-entry, Ins, none as all_none, also as all_also}
use Rattle.qcow2_spec.proofs.Extents.{covers_one, Disjoint, Beside, Apart, beside_none}
use Rattle.qcow2_spec.proofs.Units.{Twin, Like, none, also, like_append, like_picked, like_in, like_epochs, like_aside, like_some, like_covers, Off, like_apart, like_fill, like_whole, fill_quiet, fill-plain, repair-plain, off_new, off_slot, off_drop, off_table, count_aside, link_aside, count_like, like_entry, link_like, repair_like}
use Rattle.qcow2_spec.proofs.Ways.{first_nr}
use Rattle.qcow2_spec.proofs.Seen.{seen, Kept, ep, in_l1, first-root, nr_l1, beneath, Shots, same-shots, zeroed_shots, wrote_shots, same_rd, zeroed_rd, wrote_rd, part_rd, Exact, strong, fed-same}
use Rattle.qcow2_spec.proofs.Kind.{T, D, M, Span, Whole, Owned, ClearedGood, ClearedDark, Kind, nothing, placed, shown, new, tabled, emptied, freed, mended, KindOf, list_of, plan_is, list_kind, unused, empty, whole-zeros, cleared_entry-low, cleared_entry-bare}

-- the unit that clears the autoclear field
abbrev pub clear : UnitStore
clear = entry autoclear_at 0

-- as the machinery has it
abbrev pub clear_store : Store
clear_store = record { w = 0; o = autoclear_at; bs = λ f. bytes64 0 }

pub clear-is : (C : ℕ) (t : List ℕ) → apply_u clear t ≡ apply C clear_store t
unfolding apply_u apply
clear-is C t = ap (λ (x : ℕ). sets t x (bytes64 0)) (sym (ap (λ (y : ℕ). y + autoclear_at) (zero-mul C) ∙ zero-add autoclear_at))

pub clear-bytes : Bytes (bytes64 0)
clear-bytes = subst Bytes (enc8 0) (small-enc 8 0)

-- it may be stored before other units as well as after them
pub clear_aside : (s : List ℕ) (f : Facts s) {us : List UnitStore} {vs : List Store} → Like (cluster_size s) us vs → (t : List ℕ) → apply_all us (apply_u clear t) ≡ apply_u clear (apply_all us t)
unfolding apply_u
clear_aside s f lk = like_aside lk autoclear_at (bytes64 0) (omega (arith, length-bytes64 0, c_big s f))

-- it changes neither what the tables say nor what the guest reads
pub cleared : (s : List ℕ) (f : Facts s) (m0 : ℕ → ℕ → ℕ) (t : List ℕ) → Ok (geo s) (code s) m0 t
    → Ok (geo s) (code s) m0 (apply_u clear t) × Quiet (geo s) (code s) (mem (cluster_size s) t) (mem (cluster_size s) (apply_u clear t))
unfolding apply
cleared s f m0 t k =
    subst (λ (u : List ℕ). Ok (geo s) (code s) m0 u × Quiet (geo s) (code s) (mem (cluster_size s) t) (mem (cluster_size s) u)) (sym (clear-is (cluster_size s) t))
    (idle_store (geo s) (code s) (geo_ok s f) m0 t k autoclear_at (bytes64 0) (omega arith) (omega (arith, length-bytes64 0)) clear-bytes)

module _ (backing s : List ℕ) (f : Facts s) where
  abbrev m : ℕ → ℕ → ℕ
  m = mem (cluster_size s) s

  -- ---- what a plan must do
  abbrev pub Mid : Request → Bool → List ℕ → Type 0
  Mid r b t = Kept backing s f t × ((u : ℕ) → Fed (ok (Stopped u)) b (disk_size s) (seen backing s f s) (finished (cluster_size s) r (seen backing s f s)) (seen backing s f t)) × Shots backing s f t

  abbrev pub End : Request → List ℕ → Type 0
  End r t = Kept backing s f t × (SameDisk (disk_size s) (seen backing s f t) (finished (cluster_size s) r (seen backing s f s)) × Exact backing s f r t) × Shots backing s f t

  -- the autoclear field may as well be cleared before the units of an epoch as after them, whichever are stored
  abbrev pub Aside : List UnitStore → Type 0
  Aside us = (cs : List Bool) (t : List ℕ) → apply_all (picked cs us) (apply_u clear t) ≡ apply_u clear (apply_all (picked cs us) t)

  unfoldable pub Asides : List (List UnitStore) → Type 0
  Asides [] = Unit {0}
  Asides (us ∷ es) = Aside us × Asides es

  -- nothing is stored while an autoclear bit stands
  abbrev pub Clean : List (List UnitStore) → List ℕ → Type 0
  Clean es t = Held (ClearedFirst s) (λ (u : List ℕ). Unit {0}) es t

  abbrev pub SureIn : Request → Bool → List (List UnitStore) → Type 0
  SureIn r b es = Held (Mid r b) (End r) es s × Clean es s × Ins es × Apart es

  -- a list before the clearing unit is put in front of it
  unfoldable pub Fine : Request → Plan → Type 0
  Fine r (refused n) = Unit {0}
  Fine r (units us) = Held (Mid r (stores_count us)) (End r) (halves us) s × Asides (halves us) × Ins (halves us) × Apart ((clear ∷ []) ∷ halves us)

  -- a call's list
  unfoldable pub Sure : Request → Plan → Type 0
  Sure r (refused n) = Unit {0}
  Sure r (units us) = SureIn r (stores_count us) (epochs s us)

  -- no unit lies over a sector's end
  pub sure_in : (r : Request) (p : Plan) → Sure r p → Ins (epochs s (plan_units p))
  unfolding Sure plan_units epochs Ins stores_entry
  sure_in r (refused n) h = rw (take-nil {A = UnitStore} (length (clear_units s)), drop-nil {A = UnitStore} (length (clear_units s)), halves-none [] refl) (all_none, (all_none, (all_none, tt)))
  sure_in r (units us) h = h.2

  -- no byte is stored in two epochs
  pub sure_apart : (r : Request) (p : Plan) → Sure r p → Apart (epochs s (plan_units p))
  unfolding Sure plan_units epochs Apart Beside stores_entry
  sure_apart r (refused n) h = rw (take-nil {A = UnitStore} (length (clear_units s)), drop-nil {A = UnitStore} (length (clear_units s)), halves-none [] refl) (beside_none ([] ∷ [] ∷ []), (beside_none ([] ∷ []), (tt, tt)))
  sure_apart r (units us) h = h.3

  -- the autoclear field lies in cluster 0
  pub clear_apart : {us : List UnitStore} {vs : List Store} → Like (cluster_size s) us vs → Disjoint (clear ∷ []) us
  unfolding spot wide
  clear_apart lk x p q =
      let l : x < cluster_size s = omega (arith, covers_one clear x p, c_big s f) in
      like_covers (λ (w : ℕ). w ≢ 0) lk (like_some lk) x q (div-eq_of_lt l)

  like_clear : {us : List UnitStore} {vs : List Store} → Like (cluster_size s) us vs → Aside us
  like_clear lk cs = clear_aside s f (like_picked lk cs)

  -- by the machinery's two epochs
  fine_by : (r : Request) (ls us ws : List UnitStore) (vs xs : List Store) (M Q : List ℕ → Type 0) → halves ls ≡ us ∷ ws ∷ [] → Like (cluster_size s) us vs → Like (cluster_size s) ws xs → Off vs xs
      → ((t : List ℕ) → M t → Mid r (stores_count ls) t) → ((t : List ℕ) → Q t → End r t)
      → Epoch (cluster_size s) M vs s (λ t. Epoch (cluster_size s) M xs t Q) → Fine r (units ls)
  unfolding Fine Asides Ins Apart Beside
  fine_by r ls us ws vs xs M Q e lk lk' off hm hq run =
      rw e (
        like_epochs (Mid r (stores_count ls)) (End r) s lk lk' ((λ cs. hm _ (run.0 cs)), ((λ cs. hm _ (run.1.0 cs)), hq _ run.1.1)),
        (like_clear lk, (like_clear lk', tt)),
        (like_in lk, (like_in lk', tt)),
        ((clear_apart lk, (clear_apart lk', tt)), ((like_apart lk lk' off, tt), (tt, tt))),
      )

  -- ---- it is cleared
  module _ (t : List ℕ) (k : Kept backing s f t) where
    abbrev quiet : Quiet (geo s) (code s) (mem (cluster_size s) t) (mem (cluster_size s) (apply_u clear t))
    quiet = (cleared s f m t k).1

    cleared_seen : SameDisk (disk_size s) (seen backing s f (apply_u clear t)) (seen backing s f t)
    unfolding SameGuest
    cleared_seen = same_rd backing s f t (apply_u clear t) quiet.reads

    mid_cleared : (r : Request) (b : Bool) → Mid r b t → Mid r b (apply_u clear t)
    unfolding SameDisk
    mid_cleared r b h = (
      (cleared s f m t k).0,
      λ u. fed-same (disk_size s) _ _ _ _ _ _ (λ y l. refl) (λ y l. refl) (λ y l. sym (cleared_seen y l)) (ok (Stopped u)) b (h.1 u),
      λ a b x l n p q. quiet.reads a b x l p q ∙ h.2 a b x l n p q,
    )

    exact_cleared : (r : Request) → Exact backing s f r t → Exact backing s f r (apply_u clear t)
    unfolding Exact
    exact_cleared (write x d) h = tt
    exact_cleared (discard c) h = tt
    exact_cleared (repair n) h = λ c l. quiet.cnts c l ∙ h c l ∙ sym (keep_refs (geo s) (code s) (geo_ok s f) (mem (cluster_size s) t) (mem (cluster_size s) (apply_u clear t)) quiet.keep c)

    end_cleared : (r : Request) → End r t → End r (apply_u clear t)
    unfolding SameDisk
    end_cleared r h = ((cleared s f m t k).0, ((λ y l. cleared_seen y l ∙ h.1.0 y l), exact_cleared r h.1.1), λ a b x l n p q. quiet.reads a b x l p q ∙ h.2 a b x l n p q)

  pub whole_aside : (us : List UnitStore) (t : List ℕ) → Aside us → apply_all us (apply_u clear t) ≡ apply_u clear (apply_all us t)
  whole_aside us t z = rw (picked_all us) at (z (replicate (length us) true) t)

  module _ (bb : Bytes backing) (k : Kept backing s f s) where
    -- a list that is fine is so after the clearing unit
    held-clear : (r : Request) (b : Bool) (es : List (List UnitStore)) (t : List ℕ) → Held (Mid r b) (End r) es t → Asides es → Held (Mid r b) (End r) es (apply_u clear t)
    unfolding Held Asides
    held-clear r b [] t h z = end_cleared t h.0 r h
    held-clear r b (us ∷ es) t h z = (
      (λ cs. subst (Mid r b) (sym (z.0 cs t)) (mid_cleared _ (h.0 cs).0 r b (h.0 cs))),
      subst (Held (Mid r b) (End r) es) (sym (whole_aside us t z.0)) (held-clear r b es (apply_all us t) h.1 z.1),
    )

    pub untouched : (r : Request) (b : Bool) → Mid r b s
    unfolding SameDisk
    untouched r b = (k, strong b (disk_size s) (seen backing s f s) (finished (cluster_size s) r (seen backing s f s)) (seen backing s f s) (inl (λ y l. refl)), λ a b x l n p q. refl)

    -- ---- the clearing unit is an epoch of its own
    pub zeroed : (t : List ℕ) → length t ≡ length s → autoclear (apply_u clear t) ≡ 0
    unfolding autoclear apply_u
    zeroed t e =
        if_elim (λ (n : ℕ). n ≡ 0) (eqb (version (sets t autoclear_at (bytes64 0))) 3) _ _
        (λ v. ap (λ (l : List ℕ). be64 l autoclear_at) (sets_splice t autoclear_at (bytes64 0) (omega (arith, length-bytes64 0, f.long, e)))
        ∙ be64-stored t autoclear_at 0 (omega (arith, f.long, e)) (omega arith))
        (λ v. refl)

    first-clear : (es : List (List UnitStore)) (t : List ℕ) → length t ≡ length s → Asides es → Clean es (apply_u clear t)
    unfolding Held Asides ClearedFirst
    first-clear [] t e z = tt
    first-clear (us ∷ es) t e z = (
      (λ cs n. inr (rw (z.0 cs t) (zeroed _ (length-apply_all (picked cs us) t ∙ e)))),
      subst (Clean es) (sym (whole_aside us t z.0)) (first-clear es (apply_all us t) (length-apply_all us t ∙ e) z.1),
    )

    sure_first : (r : Request) (us : List UnitStore) → Fine r (units us) → SureIn r (stores_count us) ((clear ∷ []) ∷ halves us)
    unfolding Fine Held ClearedFirst Ins Apart apply_all picked
    sure_first r us h = ((cut, held-clear r (stores_count us) (halves us) s h.0 h.1), (clean, first-clear (halves us) s refl h.1), (all_also (sector-entry autoclear_at 0 refl) all_none, h.2), h.3)
      where
        cut : (cs : List Bool) → Mid r (stores_count us) (apply_all (picked cs (clear ∷ [])) s)
        cut [] = untouched r (stores_count us)
        cut (false ∷ cs) = rw (picked_nil cs) (untouched r (stores_count us))
        cut (true ∷ cs) = rw (picked_nil cs) (mid_cleared s k r (stores_count us) (untouched r (stores_count us)))

        clean : (cs : List Bool) → ClearedFirst s (apply_all (picked cs (clear ∷ [])) s)
        clean [] n = inl refl
        clean (false ∷ cs) n = rw (picked_nil cs) (inl refl)
        clean (true ∷ cs) n = rw (picked_nil cs) (inr (zeroed s refl))

    -- an empty epoch in its place
    sure_none : (r : Request) (us : List UnitStore) → Fine r (units us) → Clean ([] ∷ halves us) s → SureIn r (stores_count us) ([] ∷ halves us)
    unfolding Fine Held Ins Apart apply_all
    sure_none r us h c = (((λ cs. rw (picked_nil cs) (untouched r (stores_count us))), h.0), c, (all_none, h.2), (beside_none (halves us), h.3.1))

    -- no bit stands
    no_bit : autoclear s ≡ 0 → (es : List (List UnitStore)) (t : List ℕ) → Clean es t
    unfolding Held ClearedFirst
    no_bit e [] t = tt
    no_bit e (us ∷ es) t = ((λ cs n. absurd (n e)), no_bit e es (apply_all us t))

    no_unit : Clean ([] ∷ halves []) s
    unfolding Held ClearedFirst apply_all stores_entry
    no_unit =
        let q : (cs : List Bool) → ClearedFirst s (apply_all (picked cs []) s) = λ cs n. rw (picked_nil cs) (inl refl) in
        rw (halves-none [] refl) (q, (q, (q, tt)))

    sure_clearing : (r : Request) (p : Plan) → Fine r p → Sure r (clearing s p)
    unfolding clearing clear_units epochs Sure stores_count
    sure_clearing r (refused n) h = tt
    sure_clearing r (units []) h = rw (take-nil {A = UnitStore} (length (clear_units s)), drop-nil {A = UnitStore} (length (clear_units s))) (sure_none r [] h no_unit)
    sure_clearing r (units (u ∷ us)) h =
        if_elim (λ (ls : List UnitStore). SureIn r (stores_count (ls ++ u ∷ us)) (take (length ls) (ls ++ u ∷ us) ∷ halves (drop (length ls) (ls ++ u ∷ us))))
        (eqb (autoclear s) 0) _ _ (λ e. sure_none r (u ∷ us) h (no_bit (eqb-true _ _ e) _ s)) (λ e. sure_first r (u ∷ us) h)

    snd : Sound (geo s) (code s) m
    snd = k.sound

    fine_none : (r : Request) → SameDisk (disk_size s) (seen backing s f s) (finished (cluster_size s) r (seen backing s f s)) → Exact backing s f r s → Fine r (units [])
    unfolding Fine Held Asides Ins Apart Beside apply_all stores_entry
    fine_none r h e =
        let q : (cs : List Bool) → Mid r (stores_count []) (apply_all (picked cs []) s) = λ cs. rw (picked_nil cs) (untouched r (stores_count [])) in
        rw (halves-none [] refl) ((q, (q, (k, (h, e), λ u b x l n p q. refl))), (like_clear none, (like_clear none, tt)), (all_none, (all_none, tt)), ((clear_apart none, (clear_apart none, tt)), (beside_none ([] ∷ []), (tt, tt))))

    -- ---- write
    module _ (x : ℕ) (d : List ℕ) (sp : Span backing s f x d) where
      abbrev i : ℕ
      i = nr 0 (x / cluster_size s / per_table s)

      abbrev j : ℕ
      j = x / cluster_size s % per_table s

      abbrev o : ℕ
      o = x % cluster_size s

      abbrev u : ℕ → ℕ
      u = beneath backing s f (x / cluster_size s)

      -- while they are written, and then
      abbrev Writes : List ℕ → Type 0
      Writes = MidW (geo s) (code s) (geo_ok s f) m u i j o d s

      abbrev Written : List ℕ → Type 0
      Written = EndW (geo s) (code s) (geo_ok s f) m u i j o d s

      lr : x / cluster_size s / per_table s < root_size s 0
      lr = in_l1 backing s f x (omega (arith, sp.in_disk, sp.some))

      li : i < roots s * most_l1
      li = nr_l1 backing s f _ lr

      i_m : i < most_l1
      i_m = first_nr s f _ lr

      hi : Has (geo s) i
      hi = has s f 0 (x / cluster_size s / per_table s) (first-root backing s f) lr

      lj : j < per_table s
      lj = mod-lt (x / cluster_size s) (ep backing s f)

      fine_w : (ls us ws : List UnitStore) (vs xs : List Store) → halves ls ≡ us ∷ ws ∷ [] → Like (cluster_size s) us vs → Like (cluster_size s) ws xs → Off vs xs
          → Epoch (cluster_size s) Writes vs s
          (λ t. Epoch (cluster_size s) Writes xs t Written)
          → Fine (write x d) (units ls)
      unfolding Exact
      fine_w ls us ws vs xs e lk lk' off =
          fine_by (write x d) ls us ws vs xs Writes Written e lk lk' off
          (λ t h. (h.0, strong (stores_count ls) (disk_size s) (seen backing s f s) (finished (cluster_size s) (write x d) (seen backing s f s)) (seen backing s f t) (choose t h.1), shots t h.1))
          (λ t h. (h.0, (wrote_rd backing s f t x d sp.in_cluster h.1, tt), wrote_shots backing s f t u i j o d i_m h.1))
        where
          choose : (t : List ℕ) → SameGuest (geo s) (code s) s t ⊎ Wrote (geo s) (code s) u i j o d s t
              → SameDisk (disk_size s) (seen backing s f t) (seen backing s f s) ⊎ SameDisk (disk_size s) (seen backing s f t) (finished (cluster_size s) (write x d) (seen backing s f s))
          choose t (inl h) = inl (same_rd backing s f s t h)
          choose t (inr h) = inr (wrote_rd backing s f t x d sp.in_cluster h)

          shots : (t : List ℕ) → SameGuest (geo s) (code s) s t ⊎ Wrote (geo s) (code s) u i j o d s t → Shots backing s f t
          shots t (inl h) = same-shots backing s f t h
          shots t (inr h) = wrote_shots backing s f t u i j o d i_m h

      -- into the data's place
      fine_place : (a at : ℕ) → Owned backing s f (x / cluster_size s) a → D backing s f (x / cluster_size s) ≢ 0 → M backing s f (x / cluster_size s) ≡ 0 → at ≡ D backing s f (x / cluster_size s) * cluster_size s + o → Fine (write x d) (units (fill at d))
      unfolding Exact Fed
      fine_place a at w dn fl e =
          fine_by (write x d) us us [] _ [] (MidP (geo s) (code s) (geo_ok s f) m u i j o d s) Written (halves-none us (fill-plain at d)) (like_fill (cluster_size s) at (D backing s f (x / cluster_size s)) o d e sp.in_cluster dn) none each_none
          (λ t h. (
            h.0,
            λ n. subst (λ (b : Bool). Fed (ok (Stopped n)) b (disk_size s) (seen backing s f s) (finished (cluster_size s) (write x d) (seen backing s f s)) (seen backing s f t)) (sym (fill_quiet at d)) (part_rd backing s f t x d sp.in_cluster h.1),
            wrote_shots backing s f t u i j o h.1.bytes i_m h.1.wrote,
          ))
          (λ t h. (h.0, (wrote_rd backing s f t x d sp.in_cluster h.1, tt), wrote_shots backing s f t u i j o d i_m h.1))
          (epoch_only (cluster_size s) (MidP (geo s) (code s) (geo_ok s f) m u i j o d s) _ s Written
          (place-run (geo s) (code s) (geo_ok s f) m s k u i j o d li lj sp.in_cluster sp.bytes dn (w.lone_data dn) fl))
        where
          us : List UnitStore
          us = fill at d

      -- into the place that a zero mark hides
      fine_shown : (a at : ℕ) → Owned backing s f (x / cluster_size s) a → D backing s f (x / cluster_size s) ≢ 0 → M backing s f (x / cluster_size s) ≢ 0 → at ≡ D backing s f (x / cluster_size s) * cluster_size s
          → Fine (write x d) (units (fill at (cluster (cluster_size s) o d) ++ entry a (new_entry at) ∷ []))
      fine_shown a at w dn fl e =
          let whole = whole-zeros backing s f x d sp fl in
          fine_w _ _ _ _ _ (halves-entry _ a _)
          (like_whole (cluster_size s) at (D backing s f (x / cluster_size s)) _ e whole.len dn)
          (like_entry s f a (T backing s f (x / cluster_size s)) j _ _ w.at lj (ap new_entry e) w.table)
          (off_slot s f snd i li j _ _ lj w.table w.lone)
          (marked-run (geo s) (code s) (geo_ok s f) m s k u i j o d li lj sp.in_cluster _ whole dn w.lone (w.lone_data dn) fl)

      -- into a new cluster
      fine_new : (a c : ℕ) (bs : List ℕ) → Owned backing s f (x / cluster_size s) a → D backing s f (x / cluster_size s) ≡ 0 → c < clusters s → cnt (geo s) m c ≡ 0 → Whole backing s f x d bs
          → Fine (write x d) (units (allot s c bs ++ entry a (new_entry (c * cluster_size s)) ∷ []))
      unfolding allot
      fine_new a c bs w dz l z whole =
          fine_w _ _ _ _ _ (halves-entry _ a _)
          (also (λ t. count_like s f c 1 l t) (count_aside s f snd c 1 l) (like_whole (cluster_size s) (c * cluster_size s) c bs refl whole.len (empty backing s f k c l z)))
          (like_entry s f a (T backing s f (x / cluster_size s)) j _ _ w.at lj refl w.table)
          (off_new s f snd i li j c 1 _ bs l (unused backing s f k c l z) w.table w.lone)
          (alloc_run (geo s) (code s) (geo_ok s f) m s k u i j o d li lj sp.in_cluster bs whole c l z w.table dz w.lone)

      -- into a new cluster under a new table
      fine_table : (t c : ℕ) (bs : List ℕ) → T backing s f (x / cluster_size s) ≡ 0 → t < c → c < clusters s → cnt (geo s) m t ≡ 0 → cnt (geo s) m c ≡ 0 → Whole backing s f x d bs
          → Fine (write x d) (units (allot s t (replicate (cluster_size s) 0) ++ allot s c bs ++ entry (t * cluster_size s + 8 * j) (new_entry (c * cluster_size s)) ∷ entry (l1_entry_at s 0 (x / cluster_size s)) (new_entry (t * cluster_size s)) ∷ []))
      unfolding allot
      fine_table t c bs tz b l zt zc whole =
          let h : t < clusters s = omega arith in
          fine_w _ _ _ _ _ (halves-table (allot s t _) (allot s c _) _ _ _)
          (like_append (also (λ r. count_like s f t 1 h r) (count_aside s f snd t 1 h) (like_whole (cluster_size s) (t * cluster_size s) t _ refl (length-replicate {A = ℕ} (cluster_size s) 0) (empty backing s f k t h zt)))
          (like_append
          (also (λ r. count_like s f c 1 l r) (count_aside s f snd c 1 l) (like_whole (cluster_size s) (c * cluster_size s) c bs refl whole.len (empty backing s f k c l zc)))
          (like_entry s f _ t j _ _ refl lj refl (empty backing s f k t h zt))))
          (also (λ r. link_like s f (x / cluster_size s) _ (omega (arith, i_m)) r) (link_aside s f snd i _ li hi) none)
          (off_table s f snd i li hi j t c 1 1 _ _ _ bs h l (unused backing s f k t h zt) (unused backing s f k c l zc))
          (table-run (geo s) (code s) (geo_ok s f) m s k u i j o d li lj sp.in_cluster bs whole t c h l (omega arith) zt zc hi tz)

    -- ---- discard
    -- while guest cluster c is made zeros, and then
    abbrev Zeroing : (c : ℕ) → List ℕ → Type 0
    Zeroing c = MidZ (geo s) (code s) (geo_ok s f) m (beneath backing s f c) (nr 0 (c / per_table s)) (c % per_table s) s

    abbrev Zeros : (c : ℕ) → List ℕ → Type 0
    Zeros c = EndZ (geo s) (code s) (geo_ok s f) m (beneath backing s f c) (nr 0 (c / per_table s)) (c % per_table s) s

    fine_z : (c : ℕ) → c / per_table s < root_size s 0 → (ls us ws : List UnitStore) (vs xs : List Store) → halves ls ≡ us ∷ ws ∷ [] → Like (cluster_size s) us vs → Like (cluster_size s) ws xs → Off vs xs
        → Epoch (cluster_size s) (Zeroing c) vs s
        (λ t. Epoch (cluster_size s) (Zeroing c) xs t (Zeros c))
        → Fine (discard c) (units ls)
    unfolding Exact
    fine_z c lc ls us ws vs xs e lk lk' off =
        fine_by (discard c) ls us ws vs xs (Zeroing c) (Zeros c) e lk lk' off
        (λ t h. (h.0, strong (stores_count ls) (disk_size s) (seen backing s f s) (finished (cluster_size s) (discard c) (seen backing s f s)) (seen backing s f t) (choose t h.1), shots t h.1))
        (λ t h. (h.0, (zeroed_rd backing s f t c h.1, tt), zeroed_shots backing s f t _ _ _ c_m h.1))
      where
        c_m : nr 0 (c / per_table s) < most_l1
        c_m = first_nr s f c lc

        shots : (t : List ℕ) → SameGuest (geo s) (code s) s t ⊎ Zeroed (geo s) (code s) (beneath backing s f c) (nr 0 (c / per_table s)) (c % per_table s) s t → Shots backing s f t
        shots t (inl h) = same-shots backing s f t h
        shots t (inr h) = zeroed_shots backing s f t _ _ _ c_m h

        choose : (t : List ℕ) → SameGuest (geo s) (code s) s t ⊎ Zeroed (geo s) (code s) (beneath backing s f c) (nr 0 (c / per_table s)) (c % per_table s) s t
            → SameDisk (disk_size s) (seen backing s f t) (seen backing s f s) ⊎ SameDisk (disk_size s) (seen backing s f t) (finished (cluster_size s) (discard c) (seen backing s f s))
        choose t (inl h) = inl (same_rd backing s f s t h)
        choose t (inr h) = inr (zeroed_rd backing s f t c h)

    -- an entry without a place
    fine_emptied : (c a : ℕ) → Owned backing s f c a → D backing s f c ≡ 0 → ClearedGood backing s f → ClearedDark backing s f c → Fine (discard c) (units (entry a (cleared_entry s) ∷ []))
    fine_emptied c a w dz good dark =
        fine_z c w.in_root _ _ _ _ _ (halves-entry [] a (cleared_entry s)) none
        (like_entry s f a (T backing s f c) (c % per_table s) _ _ w.at (mod-lt c (ep backing s f)) refl w.table)
        (each_also each_none each_none)
        (epoch_late (cluster_size s) (Zeroing c) _ s (Zeros c)
        (unmark_run (geo s) (code s) (geo_ok s f) m s k (nr 0 (c / per_table s)) (c % per_table s) (nr_l1 backing s f _ w.in_root) (mod-lt c (ep backing s f)) (beneath backing s f c) (cleared_entry s) good (cleared_entry-low s) (cleared_entry-bare s) (λ y l. dark y) w.table dz w.lone))

    -- an entry with one, whose count falls
    fine_freed : (c a : ℕ) → Owned backing s f c a → D backing s f c ≢ 0 → ClearedGood backing s f → ClearedDark backing s f c
        → Fine (discard c) (units (entry a (cleared_entry s) ∷ set_count s (D backing s f c) (count_of s (D backing s f c) - 1) ∷ []))
    unfolding set_count
    fine_freed c a w dn good dark =
        fine_z c w.in_root _ _ _ _ _ (halves-drop a (cleared_entry s) _ _ _)
        (like_entry s f a (T backing s f c) (c % per_table s) _ _ w.at (mod-lt c (ep backing s f)) refl w.table)
        (also (λ t. less t) (count_aside s f snd _ _ in_n) none)
        (off_drop s f snd (nr 0 (c / per_table s)) (nr_l1 backing s f _ w.in_root) (c % per_table s) _ _ (cleared_entry s) in_n w.table w.lone)
        (discard-run (geo s) (code s) (geo_ok s f) m s k (nr 0 (c / per_table s)) (c % per_table s) (nr_l1 backing s f _ w.in_root) (mod-lt c (ep backing s f)) (beneath backing s f c) (cleared_entry s) good (cleared_entry-low s) (cleared_entry-bare s) (λ y l. dark y) dn w.lone (w.lone_data dn))
      where
        q : ℕ
        q = D backing s f c

        in_n : q < clusters s
        in_n = dat_in (geo s) (code s) (geo_ok s f) m snd (nr 0 (c / per_table s)) (c % per_table s) (nr_l1 backing s f _ w.in_root) (mod-lt c (ep backing s f))

        less : (t : List ℕ) → Twin (cluster_size s) (set_count s q (count_of s q - 1)) (count_store (geo s) m q (cnt (geo s) m q - 1)) t
        less t = subst (λ (y : ℕ). Twin (cluster_size s) (set_count s q (y - 1)) (count_store (geo s) m q (cnt (geo s) m q - 1)) t) (cnt_own s f _ in_n) (count_like s f q _ in_n t)

    -- ---- repair
    fine_list : (n : ℕ) → Fine (repair n) (units (repair_units s (figures_of s) 0 (clusters s)))
    unfolding Exact finished
    fine_list n =
        let us = repair_units s (figures_of s) 0 (clusters s) in
        fine_by (repair n) us us [] _ [] (MidR (geo s) (code s) (geo_ok s f) m s k) (Repaired (geo s) (code s) (geo_ok s f) m s k) (halves-none us (repair-plain s (figures_of s) 0 (clusters s)))
        (repair_like s f snd (clusters s) 0 (omega arith)) none each_none
        (λ t h. (h.0, strong (stores_count us) (disk_size s) (seen backing s f s) (finished (cluster_size s) (repair n) (seen backing s f s)) (seen backing s f t) (inl (same_rd backing s f s t h.1)), same-shots backing s f t h.1))
        (λ t h. (h.still.fine, (same_rd backing s f s t h.still.reads, h.exact), same-shots backing s f t h.still.reads))
        (epoch_only (cluster_size s) (MidR (geo s) (code s) (geo_ok s f) m s k) _ s (Repaired (geo s) (code s) (geo_ok s f) m s k) (repair-run (geo s) (code s) (geo_ok s f) m s k))

    -- ---- by its kind
    pub fine_kind : {r : Request} {us : List UnitStore} → Kind backing s f r us → Fine r (units us)
    fine_kind (nothing h e) = fine_none _ h e
    fine_kind (placed sp w dn fl e) = fine_place _ _ sp _ _ w dn fl e
    fine_kind (shown sp w dn fl e) = fine_shown _ _ sp _ _ w dn fl e
    fine_kind (new sp w dz l z whole) = fine_new _ _ sp _ _ _ w dz l z whole
    fine_kind (tabled sp tz b l zt zc whole) = fine_table _ _ sp _ _ _ tz b l zt zc whole
    fine_kind (emptied w dz good dark) = fine_emptied _ _ w dz good dark
    fine_kind (freed w dn good dark) = fine_freed _ _ w dn good dark
    fine_kind mended = fine_list _

    fine_plan : (r : Request) (p : Plan) → KindOf backing s f r p → Fine r p
    unfolding KindOf Fine
    fine_plan r (refused n) h = tt
    fine_plan r (units us) h = fine_kind h

    pub plan_sure : judge backing s ≡ 0 → (r : Request) → BytesOf r → Sure r (plan_of backing s r)
    plan_sure e r sm = rw (plan_is backing s e r) (sure_clearing r (list_of backing s r) (fine_plan r (list_of backing s r) (list_kind backing s f bb k r sm)))
