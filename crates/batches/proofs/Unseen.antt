-- Units that the guest does not see before the entries of a batch are stored: counts, bytes of clusters to which nothing refers, bytes under a zero
-- mark of the first image, and idle bytes of the header. Assumes nothing.
use mathlib.Core.Path.{◌≡◌, refl, sym, ap, ◌∙◌}
use mathlib.Core.Logic.{◌⊎◌, inl, inr, ◌≢◌}
use mathlib.Core.Bool.{Bool}
use mathlib.Core.List.{List}
use Prim.Native.Nat.{ℕ, ◌+◌, ◌*◌, ◌^◌, ◌≤◌, ◌<◌}
use lib.ListN.{length}
use lib.Seq.{sets}
use Rattle.cuts.proofs.Cell.{Small, Stored, mem}
use Rattle.cuts.proofs.Meta.{Geo, GeoOk, Codec, cnt, dat, mark, refs_of, Keep, keep_dat, keep_mark, keep_refs}
use Rattle.cuts.proofs.Step.{gread, dat_in, data_step, pair_or}
use Rattle.cuts.proofs.Run.{Store, apply, apply_all, picked, Each, kept}
use Rattle.cuts.proofs.Call.{count_store, SameGuest, next_small, next-stored, next-free}
use Rattle.cuts.proofs.Write.{gread_marked}
use Rattle.cuts.proofs.Idle.{idle_store}
use Rattle.batches.proofs.Prepared.{Prepared, Ready, counts, spare, inside, idles, count_kept, ready_keeps}
use Rattle.batches.proofs.Lists.{each_map}

module _ (g : Geo) (K : Codec) (ok : GeoOk g K) (m0 : ℕ → ℕ → ℕ) (img : List ℕ) where
  pub data Hidden : Store → Type 0 where
    counted : (c v : ℕ) → c < g.N → v < 2 ^ g.W → 1 ≤ v → refs_of g K (mem g.C img) c ≤ v → Hidden (count_store g (mem g.C img) c v)
    unnamed : (w o : ℕ) (bs : List ℕ) → w < g.N → o + length bs ≤ g.C → Small bs → refs_of g K (mem g.C img) w ≡ 0 → Hidden (record { w = w; o = o; bs = λ f. bs })
    marked : (i j o : ℕ) (bs : List ℕ) → i < g.L → j < g.E → o + length bs ≤ g.C → Small bs
        → dat g K (mem g.C img) i j ≢ 0 → refs_of g K (mem g.C img) (dat g K (mem g.C img) i j) ≤ 1 → mark g K (mem g.C img) i j ≢ 0
        → Hidden (record { w = dat g K (mem g.C img) i j; o = o; bs = λ f. bs })
    unread : (o : ℕ) (bs : List ℕ) → g.idle ≤ o → o + length bs ≤ g.busy → Small bs → Hidden (record { w = 0; o = o; bs = λ f. bs })

  pub hidden-ready : (u : Store) → Hidden u → Ready g K ok m0 img u
  hidden-ready u (counted c v l lv o h) = counts c v l lv o h
  hidden-ready u (unnamed w o bs l h q z) = spare w o bs l h q z
  hidden-ready u (marked i j o bs l n h q d one f) = inside i j o bs l n h q d one
  hidden-ready u (unread o bs a b q) = idles o bs a b q

  -- bytes under a mark
  under_mark : (s : List ℕ) → Prepared g K ok m0 img s → (i j o : ℕ) (bs : List ℕ) → i < g.L → j < g.E → o + length bs ≤ g.C → Small bs
      → dat g K (mem g.C img) i j ≢ 0 → refs_of g K (mem g.C img) (dat g K (mem g.C img) i j) ≤ 1 → mark g K (mem g.C img) i j ≢ 0
      → SameGuest g K s (sets s (dat g K (mem g.C img) i j * g.C + o) bs)
  unfolding SameGuest
  under_mark s p i j o bs l n h sm d one f a b y a_l b_e y_c = go (pair_or a b i j)
    where
      m : ℕ → ℕ → ℕ
      m = mem g.C img

      x : ℕ → ℕ → ℕ
      x = mem g.C s

      e : dat g K x i j ≡ dat g K m i j
      e = keep_dat g K ok m x p.keep i j l n

      d' : dat g K x i j ≢ 0
      d' z = d (sym e ∙ z)

      one' : refs_of g K x (dat g K x i j) ≤ 1
      one' = rw (e, keep_refs g K ok m x p.keep (dat g K m i j)) one

      x' : ℕ → ℕ → ℕ
      x' = mem g.C (sets s (dat g K x i j * g.C + o) bs)

      c_n : dat g K x i j < g.N
      c_n = dat_in g K ok x p.fine.sound i j l n

      st : Stored g.C x x' (dat g K x i j) o bs
      st = next-stored g K ok m0 s p.fine (dat g K x i j) o bs c_n h sm

      r : Keep g K x x' × ((c : ℕ) → c < g.N → cnt g x' c ≡ cnt g x c) × ((a b z : ℕ) → a < g.L → b < g.E → z < g.C → (a ≢ i) ⊎ (b ≢ j) → gread g K x' a b z ≡ gread g K x a b z)
      r = data_step g K ok x p.fine.sound x' (next_small g K ok m0 s p.fine (dat g K x i j) o bs c_n h sm) i j l n d' one' st.cluster

      f₁ : mark g K x i j ≢ 0
      f₁ z = f (sym (keep_mark g K ok m x p.keep i j l n) ∙ z)

      f₂ : mark g K x' i j ≢ 0
      f₂ z = f₁ (sym (keep_mark g K ok x x' r.0 i j l n) ∙ z)

      same : ((a ≡ i) × (b ≡ j)) ⊎ ((a ≢ i) ⊎ (b ≢ j)) → gread g K x' a b y ≡ gread g K x a b y
      same (inr u) = r.2 a b y a_l b_e y_c u
      same (inl u) = rw (u.0, u.1) (gread_marked g K x' i j y f₂ ∙ sym (gread_marked g K x i j y f₁))

      go : ((a ≡ i) × (b ≡ j)) ⊎ ((a ≢ i) ⊎ (b ≢ j)) → gread g K (mem g.C (sets s (dat g K m i j * g.C + o) bs)) a b y ≡ gread g K x a b y
      go u = ap (λ (c : ℕ). gread g K (mem g.C (sets s (c * g.C + o) bs)) a b y) (sym e) ∙ same u

  -- each leaves what the guest reads
  hidden-same : (u : Store) → Hidden u → (s : List ℕ) → Prepared g K ok m0 img s → SameGuest g K s (apply g.C u s)
  unfolding SameGuest apply
  hidden-same u (counted c v l lv o h) s p a b y = (count_kept g K ok m0 img s p c v l lv h).reads a b y
  hidden-same u (unnamed w o bs l h q z) s p a b y = (next-free g K ok m0 s p.fine w o bs l h q (keep_refs g K ok (mem g.C img) (mem g.C s) p.keep w ∙ z)).1.reads a b y
  hidden-same u (marked i j o bs l n h q d one f) s p a b y = under_mark s p i j o bs l n h q d one f a b y
  hidden-same u (unread o bs from to q) s p a b y = (idle_store g K ok m0 s p.fine o bs from to q).1.reads a b y

  -- whichever of them are stored
  pub hidden_cut : (start : List ℕ) → Prepared g K ok m0 img start → {us : List Store} → Each Hidden us → (cs : List Bool)
      → Prepared g K ok m0 img (apply_all g.C (picked cs us) start) × SameGuest g K start (apply_all g.C (picked cs us) start)
  unfolding SameGuest
  hidden_cut start p h cs =
      kept g.C (λ s. Prepared g K ok m0 img s × SameGuest g K start s)
      (each_map (λ u w s q. (ready_keeps g K ok m0 img u (hidden-ready u w) s q.0, λ a b y a_l b_e y_c. hidden-same u w s q.0 a b y a_l b_e y_c ∙ q.1 a b y a_l b_e y_c)) h)
      cs start (p, λ a b y a_l b_e y_c. refl)
