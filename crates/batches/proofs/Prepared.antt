-- Units that may be stored in any order before the entries of a batch: counts that cover the references of the first image, bytes of clusters to which
-- nothing refers there, bytes of data clusters in place, and idle bytes of the header. Each leaves every table. Assumes nothing.
use mathlib.Core.Path.{◌≡◌, refl, sym, ◌∙◌}
use mathlib.Core.Logic.{◌⊎◌, ◌≢◌}
use mathlib.Core.List.{List, ◌∷◌}
use mathlib.Core.Bool.{Bool}
use Prim.Native.Nat.{ℕ, ◌+◌, ◌*◌, ◌^◌, ◌≤◌, ◌<◌}
use native.Mathlib.Decide.{ℕ_discrete}
use native.Mathlib.Omega.{arith}
use lib.ListN.{length}
use lib.Seq.{sets}
use Rattle.cuts.proofs.Refs.{dat_fix}
use Rattle.cuts.proofs.Cell.{Small, Stored, mem}
use Rattle.cuts.proofs.Meta.{Geo, GeoOk, Codec, cnt, fix, tab, dat, refs_of, Keep, keep_blk, keep_dat, keep_refs, keep_sound}
use Rattle.cuts.proofs.Step.{gread, dat_in, data_step, Quiet}
use Rattle.cuts.proofs.Run.{Store, apply, apply_all, picked, Each, none, also, kept}
use Rattle.cuts.proofs.Call.{Ok, count_store, away, ok_next, next_small, next-stored, next-free, CountSet, then_count}
use Rattle.cuts.proofs.Write.{keep_trans}
use Rattle.cuts.proofs.Idle.{idle_store}
use Rattle.batches.proofs.Lists.{each_map}

module _ (g : Geo) (K : Codec) (ok : GeoOk g K) (m0 : ℕ → ℕ → ℕ) (img : List ℕ) where
  -- the tables are those of img; counts, free clusters and data may differ
  pub record Prepared (s : List ℕ) : Type 0 where
    pub fine : Ok g K m0 s
    pub keep : Keep g K (mem g.C img) (mem g.C s)

  pub data Ready : Store → Type 0 where
    counts : (c v : ℕ) → c < g.N → v < 2 ^ g.W → 1 ≤ v → refs_of g K (mem g.C img) c ≤ v → Ready (count_store g (mem g.C img) c v)
    spare : (w o : ℕ) (bs : List ℕ) → w < g.N → o + length bs ≤ g.C → Small bs → refs_of g K (mem g.C img) w ≡ 0 → Ready (record { w = w; o = o; bs = λ f. bs })
    inside : (i j o : ℕ) (bs : List ℕ) → i < g.L → j < g.E → o + length bs ≤ g.C → Small bs
        → dat g K (mem g.C img) i j ≢ 0 → refs_of g K (mem g.C img) (dat g K (mem g.C img) i j) ≤ 1
        → Ready (record { w = dat g K (mem g.C img) i j; o = o; bs = λ f. bs })
    idles : (o : ℕ) (bs : List ℕ) → g.idle ≤ o → o + length bs ≤ g.busy → Small bs → Ready (record { w = 0; o = o; bs = λ f. bs })

  pub prepared_start : Ok g K m0 img → Prepared img
  prepared_start k = record { fine = k; keep = record { small = k.sound.bytes; rts = λ a l. refl; l1s = λ a l. refl; l2s = λ i j l n d. refl } }

  -- a change that leaves the tables
  step : (s t : List ℕ) → Prepared s → Ok g K m0 t → Keep g K (mem g.C s) (mem g.C t) → Prepared t
  step s t p k e = record { fine = k; keep = keep_trans g K ok m0 (mem g.C img) (mem g.C s) (mem g.C t) p.keep e }

  same_refs : (s : List ℕ) → Prepared s → (c : ℕ) → refs_of g K (mem g.C s) c ≡ refs_of g K (mem g.C img) c
  same_refs s p = keep_refs g K ok (mem g.C img) (mem g.C s) p.keep

  -- bytes of the data of one entry, to which nothing else refers
  pub data_set : (s : List ℕ) → Ok g K m0 s → (i j o : ℕ) (bs : List ℕ) → i < g.L → j < g.E → o + length bs ≤ g.C → Small bs
      → dat g K (mem g.C s) i j ≢ 0 → refs_of g K (mem g.C s) (dat g K (mem g.C s) i j) ≤ 1
      → Ok g K m0 (sets s (dat g K (mem g.C s) i j * g.C + o) bs)
      × Keep g K (mem g.C s) (mem g.C (sets s (dat g K (mem g.C s) i j * g.C + o) bs))
      × ((c : ℕ) → c < g.N → cnt g (mem g.C (sets s (dat g K (mem g.C s) i j * g.C + o) bs)) c ≡ cnt g (mem g.C s) c)
  data_set s k i j o bs l n h p d one = (
    ok_next g K ok m0 s w o bs k d (away g K ok m0 m w (dat_fix g.L g.E (fix g m) (tab g K m) (dat g K m) i j l n d one)) p st r.0.rts
        (keep_sound g K ok m m' k.sound r.0 (λ c q. omega (arith, k.sound.inv.covered c q, r.1 c q))),
    r.0,
    r.1,
  )
    where
      m : ℕ → ℕ → ℕ
      m = mem g.C s

      w : ℕ
      w = dat g K m i j

      m' : ℕ → ℕ → ℕ
      m' = mem g.C (sets s (w * g.C + o) bs)

      w_n : w < g.N
      w_n = dat_in g K ok m k.sound i j l n

      st : Stored g.C m m' w o bs
      st = next-stored g K ok m0 s k w o bs w_n h p

      r : Keep g K m m' × ((c : ℕ) → c < g.N → cnt g m' c ≡ cnt g m c)
          × ((a b x : ℕ) → a < g.L → b < g.E → x < g.C → (a ≢ i) ⊎ (b ≢ j) → gread g K m' a b x ≡ gread g K m a b x)
      r = data_step g K ok m k.sound m' (next_small g K ok m0 s k w o bs w_n h p) i j l n d one st.cluster

  -- one count, no less than the references
  pub count_kept : (s : List ℕ) → Prepared s → (c v : ℕ) → c < g.N → v < 2 ^ g.W → refs_of g K (mem g.C img) c ≤ v
      → CountSet g K ok m0 s (apply g.C (count_store g (mem g.C img) c v) s) c v
  count_kept s p c v l lv h =
      then_count g K ok m0 img s p.fine c v l lv (rw (same_refs s p c) h) (keep_blk g K ok (mem g.C img) (mem g.C s) p.keep)

  pub count_keeps : (s : List ℕ) → Prepared s → (c v : ℕ) → c < g.N → v < 2 ^ g.W → refs_of g K (mem g.C img) c ≤ v
      → Prepared (apply g.C (count_store g (mem g.C img) c v) s)
  count_keeps s p c v l lv h = step s _ p (count_kept s p c v l lv h).fine (count_kept s p c v l lv h).keep

  -- the same, the place worked out from img
  pub place_set : (s : List ℕ) → Prepared s → (i j o : ℕ) (bs : List ℕ) → i < g.L → j < g.E → o + length bs ≤ g.C → Small bs
      → dat g K (mem g.C img) i j ≢ 0 → refs_of g K (mem g.C img) (dat g K (mem g.C img) i j) ≤ 1
      → Ok g K m0 (sets s (dat g K (mem g.C img) i j * g.C + o) bs)
      × Keep g K (mem g.C s) (mem g.C (sets s (dat g K (mem g.C img) i j * g.C + o) bs))
      × ((c : ℕ) → c < g.N → cnt g (mem g.C (sets s (dat g K (mem g.C img) i j * g.C + o) bs)) c ≡ cnt g (mem g.C s) c)
  place_set s p i j o bs l n h q d one =
      let e : dat g K (mem g.C s) i j ≡ dat g K (mem g.C img) i j = keep_dat g K ok (mem g.C img) (mem g.C s) p.keep i j l n in
      rw e at (data_set s p.fine i j o bs l n h q (λ z. d (sym e ∙ z)) (rw (e, same_refs s p (dat g K (mem g.C img) i j)) one))

  pub ready_keeps : (u : Store) → Ready u → (s : List ℕ) → Prepared s → Prepared (apply g.C u s)
  unfolding apply
  ready_keeps u (counts c v l lv o h) s p = count_keeps s p c v l lv h
  ready_keeps u (spare w o bs l h q z) s p =
      let r : Ok g K m0 (sets s (w * g.C + o) bs) × Quiet g K (mem g.C s) (mem g.C (sets s (w * g.C + o) bs)) =
      next-free g K ok m0 s p.fine w o bs l h q (same_refs s p w ∙ z) in
      step s _ p r.0 r.1.keep
  ready_keeps u (inside i j o bs l n h q d one) s p = step s _ p (place_set s p i j o bs l n h q d one).0 (place_set s p i j o bs l n h q d one).1
  ready_keeps u (idles o bs a b q) s p = let r = idle_store g K ok m0 s p.fine o bs a b q in step s _ p r.0 r.1.keep

  -- ---- a count that is not 0 stays so
  ready-one : (c : ℕ) → c < g.N → (u : Store) → Ready u → (s : List ℕ) → Prepared s → 1 ≤ cnt g (mem g.C s) c → 1 ≤ cnt g (mem g.C (apply g.C u s)) c
  unfolding apply
  ready-one c c_n u (counts a v l lv o h) s p one = go (ℕ_discrete c a)
    where
      r : CountSet g K ok m0 s (apply g.C (count_store g (mem g.C img) a v) s) a v
      r = count_kept s p a v l lv h

      go : Dec (c ≡ a) → 1 ≤ cnt g (mem g.C (apply g.C (count_store g (mem g.C img) a v) s)) c
      go (yes e) = rw (e, r.new) o
      go (no d) = rw (r.rest c c_n d) one
  ready-one c c_n u (spare w o bs l h q z) s p one = rw ((next-free g K ok m0 s p.fine w o bs l h q (same_refs s p w ∙ z)).1.cnts c c_n) one
  ready-one c c_n u (inside i j o bs l n h q d on) s p one = rw ((place_set s p i j o bs l n h q d on).2 c c_n) one
  ready-one c c_n u (idles o bs a b q) s p one = rw ((idle_store g K ok m0 s p.fine o bs a b q).1.cnts c c_n) one

  -- ---- lists of them
  pub ready-all : {us : List Store} → Each Ready us → (s : List ℕ) → Prepared s → Prepared (apply_all g.C us s)
  unfolding apply_all
  ready-all none s p = p
  ready-all (also {u} h hs) s p = ready-all hs (apply g.C u s) (ready_keeps u h s p)

  pub ready_cut : {us : List Store} → Each Ready us → (cs : List Bool) (s : List ℕ) → Prepared s → Prepared (apply_all g.C (picked cs us) s)
  ready_cut h = kept g.C Prepared (each_map (λ u p s. ready_keeps u p s) h)

  stays_one : (c : ℕ) → c < g.N → {us : List Store} → Each Ready us → (s : List ℕ) → Prepared s → 1 ≤ cnt g (mem g.C s) c → 1 ≤ cnt g (mem g.C (apply_all g.C us s)) c
  unfolding apply_all
  stays_one c l none s p one = one
  stays_one c l (also {u} h hs) s p one = stays_one c l hs (apply g.C u s) (ready_keeps u h s p) (ready-one c l u h s p one)

  -- the list stores a count of cluster c that is not 0
  pub data Raises (c : ℕ) : List Store → Type 0 where
    here : (v : ℕ) {us : List Store} → 1 ≤ v → v < 2 ^ g.W → refs_of g K (mem g.C img) c ≤ v → Raises c (count_store g (mem g.C img) c v ∷ us)
    later : {u : Store} {us : List Store} → Raises c us → Raises c (u ∷ us)

  pub raised : (c : ℕ) → c < g.N → {us : List Store} → Each Ready us → Raises c us → (s : List ℕ) → Prepared s → 1 ≤ cnt g (mem g.C (apply_all g.C us s)) c
  unfolding apply_all
  raised c l none q s p = elim q [ ]
  raised c l (also h hs) (here v o lv r) s p = stays_one c l hs _ (count_keeps s p c v l lv r) (rw (count_kept s p c v l lv r).new o)
  raised c l (also {u} h hs) (later q) s p = raised c l hs q (apply g.C u s) (ready_keeps u h s p)
