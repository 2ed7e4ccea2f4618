-- What a discard, a repair and the four kinds of write store, and what every cut of them leaves. Assumes nothing.
use mathlib.Core.Path.{◌≡◌, refl, sym, ap, ◌∙◌}
use mathlib.Core.Logic.{◌⊎◌, inl, inr, ◌≢◌}
use mathlib.Core.List.{List, [], ◌∷◌}
use Prim.Native.Nat.{ℕ, zero, suc, ◌+◌, ◌-◌, ◌*◌, ◌/◌, ◌%◌, ◌^◌, ◌≤◌, ◌<◌}
use native.Mathlib.Nat.{suc-ne-zero, div-lt_iff_lt-mul, mod-lt, mul-le-mul_right}
use native.Mathlib.Decide.{ℕ_discrete}
use native.Mathlib.Omega.{arith}
use lib.ListN.{length, set}
use lib.Seq.{sets, length-sets}
use lib.Pow.{pow-lt}
use Rattle.cuts.proofs.Refs.{hit, hit_self, hit_zero, refs_fix, free-fix, free_tab, tab_fix, tab_dat}
use Rattle.cuts.proofs.Cell.{enc, length-enc, small-enc, recell, length_recell, small_recell, cell_small, Small, Stored, stored, mem}
use Rattle.cuts.proofs.Meta.{Geo, GeoOk, Codec, cell_in, rt, blk, cnt, row, col, fix, tab, dat, refs_of, Sound, Keep, dat_none, keep_sound, blk_0, blk_l1, fix_blk, fix_l1}
use Rattle.cuts.proofs.Step.{shown, gread, Quiet, tab_in, dat_in, fix_one, free-not-0, quiet_sound, free_step, count-step, entry_rt, entry_blk, entry_cnt, entry_refs, entry-sound, entry-reads, entry_read}
use Rattle.cuts.proofs.Run.{Store, apply, Epoch, epoch_one}

-- m0 is the first image: the header, but for its idle bytes, the refcount table and the snapshots' directory stay what they were there
pub record Ok (g : Geo) (K : Codec) (m0 : ℕ → ℕ → ℕ) (img : List ℕ) : Type 0 where
  pub len : length img ≡ g.N * g.C
  pub small : Small img
  pub sound : Sound g K (mem g.C img)
  pub head : (x : ℕ) → x < g.C → (x < g.idle) ⊎ (g.busy ≤ x) → mem g.C img 0 x ≡ m0 0 x
  pub table : (k : ℕ) → k < g.rtn * g.E → rt g (mem g.C img) k ≡ rt g m0 k
  pub directory : (q x : ℕ) → q < g.span g.T → x < g.C → mem g.C img (g.root g.T + q) x ≡ m0 (g.root g.T + q) x

pub small-set : (l : List ℕ) (i v : ℕ) → Small l → v < 256 → Small (set l i v)
small-set [] i v p q x = p x
small-set (y ∷ l) zero v p q zero = q
small-set (y ∷ l) zero v p q (suc x) = p (suc x)
small-set (y ∷ l) (suc i) v p q zero = p zero
small-set (y ∷ l) (suc i) v p q (suc x) = small-set l i v (λ z. p (suc z)) q x

pub small_sets : (vs l : List ℕ) (i : ℕ) → Small l → Small vs → Small (sets l i vs)
small_sets [] l i p q = p
small_sets (v ∷ vs) l i p q = small_sets vs (set l i v) (suc i) (small-set l i v p (q zero)) (λ z. q (suc z))

-- an entry with no place shows zeros where it has a mark, or where zeros lie underneath
shown_dark : (d f b u : ℕ) → d ≡ 0 → (f ≢ 0) ⊎ (u ≡ 0) → shown d f b u ≡ 0
unfolding shown
shown_dark d (suc f) b u e h = refl
shown_dark (suc d) zero b u e h = absurd (suc-ne-zero d e)
shown_dark zero zero b u e (inl h) = absurd (h refl)
shown_dark zero zero b u e (inr h) = h

module _ (g : Geo) where
  unfoldable pub count_store : (ℕ → ℕ → ℕ) → ℕ → ℕ → Store
  count_store m c v = record { w = blk g m (c / g.H); o = g.W * (c % g.H) / 8; bs = λ f. recell g.W f (g.W * (c % g.H)) v }

  unfoldable pub entry_store : ℕ → ℕ → ℕ → Store
  entry_store t j v = record { w = t; o = 8 * j; bs = λ f. enc 8 v }

  unfoldable pub link_store : ℕ → ℕ → Store
  link_store i v = record { w = row g i; o = 8 * col g i; bs = λ f. enc 8 v }

-- what the guest reads in img and in img'
module _ (g : Geo) (K : Codec) where
  unfoldable pub SameGuest : List ℕ → List ℕ → Type 0
  SameGuest img img' = (i j x : ℕ) → i < g.L → j < g.E → x < g.C → gread g K (mem g.C img') i j x ≡ gread g K (mem g.C img) i j x

  -- the guest cluster of i and j, under which the bytes u lie, reads as zeros
  pub record Zeroed (u : ℕ → ℕ) (i j : ℕ) (img img' : List ℕ) : Type 0 where
    pub other : (a b x : ℕ) → a < g.L → b < g.E → x < g.C → (a ≢ i) ⊎ (b ≢ j) → gread g K (mem g.C img') a b x ≡ gread g K (mem g.C img) a b x
    pub here : (x : ℕ) → x < g.C → gread g K (mem g.C img') i j x (u x) ≡ 0

module _ (g : Geo) (K : Codec) (ok : GeoOk g K) (m0 : ℕ → ℕ → ℕ) where
  -- cluster w is none of the directory's
  abbrev pub Away : ℕ → Type 0
  Away w = (q : ℕ) → q < g.span g.T → w ≢ g.root g.T + q

  pub away : (m : ℕ → ℕ → ℕ) (w : ℕ) → fix g m w ≡ 0 → Away w
  away m w z q h e = omega (arith, fix_l1 g m w g.T q (omega arith) h e)

  -- a store in a cluster that is neither the header's nor the directory's
  pub ok_next : (img : List ℕ) (w o : ℕ) (bs : List ℕ) → Ok g K m0 img → w ≢ 0 → Away w → Small bs
      → Stored g.C (mem g.C img) (mem g.C (sets img (w * g.C + o) bs)) w o bs
      → ((k : ℕ) → k < g.rtn * g.E → rt g (mem g.C (sets img (w * g.C + o) bs)) k ≡ rt g (mem g.C img) k)
      → Sound g K (mem g.C (sets img (w * g.C + o) bs)) → Ok g K m0 (sets img (w * g.C + o) bs)
  ok_next img w o bs k d aw sm st r s =
      record {
        len = length-sets img (w * g.C + o) bs ∙ k.len;
        small = small_sets bs img (w * g.C + o) k.small sm;
        sound = s;
        head = λ x l b. st.cluster 0 x l (λ e. d (sym e)) ∙ k.head x l b;
        table = λ a l. r a l ∙ k.table a l;
        directory = λ q x h l. st.cluster (g.root g.T + q) x l (λ e. aw q h (sym e)) ∙ k.directory q x h l;
      }

  module _ (img : List ℕ) (k : Ok g K m0 img) (w o : ℕ) (bs : List ℕ) (w_n : w < g.N) (in_c : o + length bs ≤ g.C) (sm : Small bs) where
    pub next_small : (a x : ℕ) → mem g.C (sets img (w * g.C + o) bs) a x < 256
    next_small a x = small_sets bs img (w * g.C + o) k.small sm (a * g.C + x)

    pub next-stored : Stored g.C (mem g.C img) (mem g.C (sets img (w * g.C + o) bs)) w o bs
    next-stored = stored g.C img w o bs (omega (arith, k.len, mul-le-mul_right g.C w_n)) in_c

    -- into a cluster that nothing refers to
    pub next-free : refs_of g K (mem g.C img) w ≡ 0
        → Ok g K m0 (sets img (w * g.C + o) bs) × Quiet g K (mem g.C img) (mem g.C (sets img (w * g.C + o) bs))
    next-free f = (ok_next img w o bs k (free-not-0 g K ok (mem g.C img) k.sound w f) (away (mem g.C img) w (free-fix g.L g.E (fix g (mem g.C img)) (tab g K (mem g.C img)) (dat g K (mem g.C img)) w f (free-not-0 g K ok (mem g.C img) k.sound w f))) sm next-stored q.keep.rts (quiet_sound g K ok (mem g.C img) k.sound _ next_small q), q)
      where
        q : Quiet g K (mem g.C img) (mem g.C (sets img (w * g.C + o) bs))
        q = free_step g K ok (mem g.C img) k.sound (mem g.C (sets img (w * g.C + o) bs)) next_small w f next-stored.cluster

  -- one count, to no less than the references
  pub record CountSet (img img' : List ℕ) (c v : ℕ) : Type 0 where
    pub fine : Ok g K m0 img'
    pub keep : Keep g K (mem g.C img) (mem g.C img')
    pub new : cnt g (mem g.C img') c ≡ v
    pub rest : (x : ℕ) → x < g.N → x ≢ c → cnt g (mem g.C img') x ≡ cnt g (mem g.C img) x
    pub reads : (i j x : ℕ) → i < g.L → j < g.E → x < g.C → gread g K (mem g.C img') i j x ≡ gread g K (mem g.C img) i j x
    pub free : (a x : ℕ) → x < g.C → refs_of g K (mem g.C img) a ≡ 0 → mem g.C img' a x ≡ mem g.C img a x

  pub next-count : (img : List ℕ) (k : Ok g K m0 img) (c v : ℕ) → c < g.N → v < 2 ^ g.W → refs_of g K (mem g.C img) c ≤ v
      → CountSet img (apply g.C (count_store g (mem g.C img) c v) img) c v
  unfolding apply count_store
  next-count img k c v c_n lv h =
      record {
        fine = ok_next img w o bs k w0 (λ q b. blk_l1 g m w (c / g.H) g.T q c_b (omega arith) b (fix_one g K ok m k.sound w w_n) refl) small st r.0.rts sd;
        keep = r.0;
        new = r.1;
        rest = r.2;
        reads = r.3;
        free = λ a x q f. st.cluster a x q (λ e. omega (arith, fix_blk g m a (c / g.H) c_b e, refs_fix g.L g.E (fix g m) (tab g K m) (dat g K m) a));
      }
    where
      m : ℕ → ℕ → ℕ
      m = mem g.C img

      w : ℕ
      w = blk g m (c / g.H)

      o : ℕ
      o = g.W * (c % g.H) / 8

      bs : List ℕ
      bs = recell g.W (m w) (g.W * (c % g.H)) v

      small : Small bs
      small = small_recell g.W (m w) (g.W * (c % g.H)) v

      c_b : c / g.H < g.B
      c_b = (div-lt_iff_lt-mul ok.hpos).1 (omega (arith, ok.blocks))

      w_n : w < g.N
      w_n = k.sound.blkin (c / g.H) c_b

      w0 : w ≢ 0
      w0 = blk_0 g m w (c / g.H) c_b (fix_one g K ok m k.sound w w_n) refl

      fits : o + length bs ≤ g.C
      fits = omega (arith, length_recell g.W (m w) (g.W * (c % g.H)) v, cell_in g K ok m m w (λ a x q d. refl) (c % g.H) (mod-lt c ok.hpos))

      m' : ℕ → ℕ → ℕ
      m' = mem g.C (sets img (w * g.C + o) bs)

      st : Stored g.C m m' w o bs
      st = next-stored img k w o bs w_n fits small

      r : Keep g K m m' × (cnt g m' c ≡ v) × ((x : ℕ) → x < g.N → x ≢ c → cnt g m' x ≡ cnt g m x)
          × ((i j x : ℕ) → i < g.L → j < g.E → x < g.C → gread g K m' i j x ≡ gread g K m i j x)
      r = count-step g K ok m k.sound m' (next_small img k w o bs w_n fits small) c v c_n lv st

      sd : Sound g K m'
      sd = keep_sound g K ok m m' k.sound r.0 (λ x l. go x l (ℕ_discrete x c))
        where
          go : (x : ℕ) → x < g.N → Dec (x ≡ c) → refs_of g K m x ≤ cnt g m' x
          go x l (yes e) = rw (e, r.1) h
          go x l (no d) = rw (r.2 x l d) (k.sound.inv.covered x l)

  -- one L2 entry
  pub record Entered (img img' : List ℕ) (i j v : ℕ) : Type 0 where
    pub fine : Ok g K m0 img'
    pub blks : (a : ℕ) → a < g.B → blk g (mem g.C img') a ≡ blk g (mem g.C img) a
    pub cnts : (c : ℕ) → c < g.N → cnt g (mem g.C img') c ≡ cnt g (mem g.C img) c
    pub moved : (c : ℕ) → refs_of g K (mem g.C img') c + hit c (dat g K (mem g.C img) i j) ≡ refs_of g K (mem g.C img) c + hit c (K.clus v)
    pub reads : (a b x : ℕ) → a < g.L → b < g.E → x < g.C → (a ≢ i) ⊎ (b ≢ j) → gread g K (mem g.C img') a b x ≡ gread g K (mem g.C img) a b x
    pub read : (x : ℕ) → x < g.C → gread g K (mem g.C img') i j x ≡ shown (K.clus v) (K.flag v) (mem g.C img (K.clus v) x)

  pub next-entry : (img : List ℕ) (k : Ok g K m0 img) (i j v : ℕ) → i < g.L → j < g.E → tab g K (mem g.C img) i ≢ 0
      → refs_of g K (mem g.C img) (tab g K (mem g.C img) i) ≤ 1 → (dat g K (mem g.C img) i j ≢ 0 → refs_of g K (mem g.C img) (dat g K (mem g.C img) i j) ≤ 1)
      → K.good2 v → v < 256 ^ 8 → (K.clus v ≢ 0 → K.own v ≡ 1)
      → (K.clus v ≢ 0 → (refs_of g K (mem g.C img) (K.clus v) ≡ 0) × (1 ≤ cnt g (mem g.C img) (K.clus v))) ⊎ (K.clus v ≡ dat g K (mem g.C img) i j)
      → Entered img (apply g.C (entry_store g (tab g K (mem g.C img) i) j v) img) i j v
  unfolding apply entry_store
  next-entry img k i j v l n t one alone gv lv marked new =
      record {
        fine = ok_next img w o (enc 8 v) k t (away m w (tab_fix g.L g.E (fix g m) (tab g K m) (dat g K m) i l t one)) (small-enc 8 v) st (entry_rt g K ok m s m' sm i j v l n t one gv lv st) (entry-sound g K ok m s m' sm i j v l n t one gv lv st alone marked new);
        blks = entry_blk g K ok m s m' sm i j v l n t one gv lv st;
        cnts = entry_cnt g K ok m s m' sm i j v l n t one gv lv st;
        moved = entry_refs g K ok m s m' sm i j v l n t one gv lv st;
        reads = entry-reads g K ok m s m' sm i j v l n t one gv lv st;
        read = λ x h. entry_read g K ok m s m' sm i j v l n t one gv lv st x h (other new (ℕ_discrete (K.clus v) 0));
      }
    where
      m : ℕ → ℕ → ℕ
      m = mem g.C img

      s : Sound g K m
      s = k.sound

      w : ℕ
      w = tab g K m i

      o : ℕ
      o = 8 * j

      w_n : w < g.N
      w_n = tab_in g K ok m s i l

      fits : o + length (enc 8 v) ≤ g.C
      fits = omega (arith, ok.c8, length-enc 8 v)

      m' : ℕ → ℕ → ℕ
      m' = mem g.C (sets img (w * g.C + o) (enc 8 v))

      sm : (a x : ℕ) → m' a x < 256
      sm = next_small img k w o (enc 8 v) w_n fits (small-enc 8 v)

      st : Stored g.C m m' w o (enc 8 v)
      st = next-stored img k w o (enc 8 v) w_n fits (small-enc 8 v)

      other : (K.clus v ≢ 0 → (refs_of g K m (K.clus v) ≡ 0) × (1 ≤ cnt g m (K.clus v))) ⊎ (K.clus v ≡ dat g K m i j) → Dec (K.clus v ≡ 0) → K.clus v ≢ tab g K m i
      other f (yes z) y = t (sym y ∙ z)
      other (inl f) (no d) y = free_tab g.L g.E (fix g m) (tab g K m) (dat g K m) (K.clus v) (f d).0 d i l y
      other (inr e) (no d) y = tab_dat g.L g.E (fix g m) (tab g K m) (dat g K m) i i j l l n t one (sym y ∙ e)

  -- ---- a discard
  pub zeroed_then : (u : ℕ → ℕ) (i j : ℕ) (img img' img'' : List ℕ) → Zeroed g K u i j img img' → i < g.L → j < g.E
      → ((a b x : ℕ) → a < g.L → b < g.E → x < g.C → gread g K (mem g.C img'') a b x ≡ gread g K (mem g.C img') a b x) → Zeroed g K u i j img img''
  zeroed_then u i j img img' img'' z l n e = record { other = λ a b x p q h d. e a b x p q h ∙ z.other a b x p q h d; here = λ x h. ap (λ (f : ℕ → ℕ). f (u x)) (e i j x l n h) ∙ z.here x h }

  pub cnt_small : (m : ℕ → ℕ → ℕ) (c : ℕ) → cnt g m c < 2 ^ g.W
  unfolding cnt
  cnt_small m c = cell_small g.W (m (blk g m (c / g.H))) (g.W * (c % g.H))

  -- 1 is a count of any width
  pub one-fits : 1 < 2 ^ g.W
  one-fits = pow-lt ok.wpos

  pub count_store_same : (m m' : ℕ → ℕ → ℕ) (c v : ℕ) → blk g m' (c / g.H) ≡ blk g m (c / g.H) → count_store g m' c v ≡ count_store g m c v
  unfolding count_store
  count_store_same m m' c v e = λ q. record { w = e q; o = g.W * (c % g.H) / 8; bs = λ f. recell g.W f (g.W * (c % g.H)) v }

  pub in_blocks : (c : ℕ) → c < g.N → c / g.H < g.B
  in_blocks c l = (div-lt_iff_lt-mul ok.hpos).1 (omega (arith, ok.blocks))

  -- the count of c, its place worked out from an image with the same blocks
  pub then_count : (img₀ img : List ℕ) (k : Ok g K m0 img) (c v : ℕ) → c < g.N → v < 2 ^ g.W → refs_of g K (mem g.C img) c ≤ v
      → ((a : ℕ) → a < g.B → blk g (mem g.C img) a ≡ blk g (mem g.C img₀) a)
      → CountSet img (apply g.C (count_store g (mem g.C img₀) c v) img) c v
  then_count img₀ img k c v l lv h e = rw (count_store_same (mem g.C img₀) (mem g.C img) c v (e (c / g.H) (in_blocks c l))) at (next-count img k c v l lv h)

  abbrev pub MidZ : (ℕ → ℕ) → ℕ → ℕ → List ℕ → List ℕ → Type 0
  MidZ u i j img s = Ok g K m0 s × (SameGuest g K img s ⊎ Zeroed g K u i j img s)

  abbrev pub EndZ : (ℕ → ℕ) → ℕ → ℕ → List ℕ → List ℕ → Type 0
  EndZ u i j img s = Ok g K m0 s × Zeroed g K u i j img s

  module _ (img : List ℕ) (k : Ok g K m0 img) (i j : ℕ) (l : i < g.L) (n : j < g.E)
      (u : ℕ → ℕ) (e₀ : ℕ) (good : K.good2 e₀) (low : e₀ < 256 ^ 8) (bare : K.clus e₀ ≡ 0) (dark : (x : ℕ) → x < g.C → (K.flag e₀ ≢ 0) ⊎ (u x ≡ 0)) where
    -- e₀ is an entry with no place that reads as zeros. Place given: the entry becomes e₀; after a flush the count falls by one
    pub discard-run : dat g K (mem g.C img) i j ≢ 0
        → refs_of g K (mem g.C img) (tab g K (mem g.C img) i) ≤ 1 → refs_of g K (mem g.C img) (dat g K (mem g.C img) i j) ≤ 1
        → Epoch g.C (MidZ u i j img) (entry_store g (tab g K (mem g.C img) i) j e₀ ∷ []) img
        (λ s. Epoch g.C (MidZ u i j img) (count_store g (mem g.C img) (dat g K (mem g.C img) i j) (cnt g (mem g.C img) (dat g K (mem g.C img) i j) - 1) ∷ []) s (EndZ u i j img))
    unfolding SameGuest
    discard-run d one alone =
        epoch_one g.C (MidZ u i j img) _ img (λ s. Epoch g.C (MidZ u i j img) (count_store g m c v ∷ []) s (EndZ u i j img)) (k, inl (λ a b x p q h. refl)) (e.fine, inr z₁)
        (epoch_one g.C (MidZ u i j img) _ img₁ (EndZ u i j img) (e.fine, inr z₁) (c₂.fine, inr z₂) (c₂.fine, z₂))
      where
        m : ℕ → ℕ → ℕ
        m = mem g.C img

        c : ℕ
        c = dat g K m i j

        v : ℕ
        v = cnt g m c - 1

        t : tab g K m i ≢ 0
        t z = d (dat_none g K m i j z)

        img₁ : List ℕ
        img₁ = apply g.C (entry_store g (tab g K m i) j e₀) img

        e : Entered img img₁ i j e₀
        e = next-entry img k i j e₀ l n t one (λ z. alone) good low (λ f. absurd (f bare)) (inl (λ f. absurd (f bare)))

        z₁ : Zeroed g K u i j img img₁
        z₁ = record { other = e.reads; here = λ x h. ap (λ (f : ℕ → ℕ). f (u x)) (e.read x h) ∙ shown_dark (K.clus e₀) (K.flag e₀) (m (K.clus e₀) x) (u x) bare (dark x h) }

        img₂ : List ℕ
        img₂ = apply g.C (count_store g m c v) img₁

        c_n : c < g.N
        c_n = dat_in g K ok m k.sound i j l n

        c₂ : CountSet img₁ img₂ c v
        c₂ = then_count img img₁ e.fine c v c_n (omega (arith, cnt_small m c))
            (omega (arith, e.moved c, hit_self c d, ap (hit c) bare, hit_zero c, alone, k.sound.inv.covered c c_n)) e.blks

        z₂ : Zeroed g K u i j img img₂
        z₂ = zeroed_then u i j img img₁ img₂ z₁ l n c₂.reads

    -- no place given: the entry becomes e₀
    pub unmark_run : tab g K (mem g.C img) i ≢ 0 → dat g K (mem g.C img) i j ≡ 0 → refs_of g K (mem g.C img) (tab g K (mem g.C img) i) ≤ 1
        → Epoch g.C (MidZ u i j img) (entry_store g (tab g K (mem g.C img) i) j e₀ ∷ []) img (EndZ u i j img)
    unfolding SameGuest
    unmark_run t d one = epoch_one g.C (MidZ u i j img) _ img (EndZ u i j img) (k, inl (λ a b x p q h. refl)) (e.fine, inr z₁) (e.fine, z₁)
      where
        m : ℕ → ℕ → ℕ
        m = mem g.C img

        img₁ : List ℕ
        img₁ = apply g.C (entry_store g (tab g K m i) j e₀) img

        e : Entered img img₁ i j e₀
        e = next-entry img k i j e₀ l n t one (λ z. absurd (z d)) good low (λ f. absurd (f bare)) (inl (λ f. absurd (f bare)))

        z₁ : Zeroed g K u i j img img₁
        z₁ = record { other = e.reads; here = λ x h. ap (λ (f : ℕ → ℕ). f (u x)) (e.read x h) ∙ shown_dark (K.clus e₀) (K.flag e₀) (m (K.clus e₀) x) (u x) bare (dark x h) }
