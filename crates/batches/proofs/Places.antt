-- A call of a batch that overwrites data in place. Assumes nothing.
use mathlib.Core.Path.{◌≡◌, refl, sym, ap, ◌∙◌}
use mathlib.Core.Logic.{◌⊎◌, inl, inr, ◌≢◌}
use mathlib.Core.List.{List, [], ◌∷◌}
use Prim.Native.Nat.{ℕ, zero, suc, ◌+◌, ◌*◌, ◌≤◌, ◌<◌}
use native.Mathlib.Decide.{dec_lt}
use native.Mathlib.Omega.{arith}
use lib.ListN.{length}
use lib.Seq.{sets}
use Rattle.cuts.proofs.Cell.{Small, mem}
use Rattle.cuts.proofs.Meta.{Geo, GeoOk, Codec, blk, cnt, l2, tab, dat, refs_of, Keep, dat_none, dat_some, keep_tab, keep_refs}
use Rattle.cuts.proofs.Run.{Store, apply_all, fill, apply-fill, Each, none, also}
use Rattle.cuts.proofs.Step.{dat_in}
use Rattle.cuts.proofs.Write.{small_one}
use Rattle.cuts.proofs.Call.{Ok}
use Rattle.batches.proofs.Mixture.{named_tab, named_dat, mix_tab, Use, datum, Place, Put, Old, Mixture, put-place, many_refs}
use Rattle.batches.proofs.Prepared.{Ready, spare, inside, data_set}
use Rattle.batches.proofs.Stores.{keep_mixture}
use Rattle.batches.proofs.Planned.{keep_tabled, Planned}
use Rattle.batches.proofs.Order.{cell_at, Touch, fill_touch, free_aside, data_aside}
use Rattle.batches.proofs.Extend.{Step, merge-all-left}

module _ (g : Geo) (K : Codec) (ok : GeoOk g K) (m0 : ℕ → ℕ → ℕ) (img : List ℕ) (k0 : Ok g K m0 img) (role : ℕ → Use) where
  abbrev m : ℕ → ℕ → ℕ
  m = mem g.C img

  -- cluster c is the data of entry j below L1 entry i: it was in the first image, or nothing referred to it there
  pub data Home (i j c : ℕ) : Type 0 where
    old : c ≡ dat g K m i j → dat g K m i j ≢ 0 → refs_of g K m (dat g K m i j) ≤ 1 → Home i j c
    new : refs_of g K m c ≡ 0 → role c ≡ datum i j → Home i j c

  module _ (x : ℕ → ℕ → ℕ) (w : Mixture g K m role x) where
    -- one reference was one before
    pub one-before : (c : ℕ) → 1 ≤ refs_of g K m c → refs_of g K x c ≤ 1 → refs_of g K m c ≤ 1
    one-before c h one = go (dec_lt 1 (refs_of g K m c))
      where
        go : Dec (1 < refs_of g K m c) → refs_of g K m c ≤ 1
        go (yes two) = omega (arith, one, many_refs g K ok m x role k0.sound w c two)
        go (no n) = omega arith

    -- a table of the earlier image with one reference had one there
    pub one_table : (i : ℕ) → i < g.L → tab g K m i ≢ 0 → refs_of g K x (tab g K x i) ≤ 1 → (tab g K x i ≡ tab g K m i) × (refs_of g K m (tab g K m i) ≤ 1)
    one_table i l d one =
        let e : tab g K x i ≡ tab g K m i = (mix_tab g K ok m x role k0.sound w i l d).1 in
        (e, one-before (tab g K m i) (named_tab g K m i l d) (rw e at one))

    pub home : (i j : ℕ) → i < g.L → j < g.E → dat g K x i j ≢ 0 → refs_of g K x (dat g K x i j) ≤ 1 → Home i j (dat g K x i j)
    home i j l n d one = go (w.l2s i j l n some)
      where
        some : tab g K x i ≢ 0
        some z = d (dat_none g K x i j z)

        same : dat g K x i j ≡ dat g K m i j → Home i j (dat g K x i j)
        same e =
            let d' : dat g K m i j ≢ 0 = λ z. d (e ∙ z) in
            let h : 1 ≤ refs_of g K m (dat g K m i j) = named_dat g K m i j l n d' in
            old e d' (one-before (dat g K m i j) h (rw e at one))

        placed : Place g K m role i j (dat g K x i j) → Home i j (dat g K x i j)
        placed (inl z) = absurd (d z)
        placed (inr (inl e)) = same e
        placed (inr (inr e)) = new e.0 e.1

        go : Old g K m role i j (l2 g x (tab g K x i) j) ⊎ Put g K m role i j (l2 g x (tab g K x i) j) → Home i j (dat g K x i j)
        go (inl o) = same (dat_some g K x i j some ∙ ap K.clus o.entry ∙ sym (dat_some g K m i j o.some))
        go (inr q) = placed (put-place g K ok m x role k0.sound w i j some q)

  -- bytes there may be stored before the entries
  home_ready : (i j c o : ℕ) (bs : List ℕ) → i < g.L → j < g.E → c < g.N → o + length bs ≤ g.C → Small bs → Home i j c → Ready g K ok m0 img (record { w = c; o = o; bs = λ f. bs })
  home_ready i j c o bs l n c_n h p (old e d one) = rw e (inside i j o bs l n h p d one)
  home_ready i j c o bs l n c_n h p (new z e) = spare c o bs c_n h p z

  pub fill-ready : (i j c o : ℕ) (bs : List ℕ) → i < g.L → j < g.E → c < g.N → o + length bs ≤ g.C → Small bs → Home i j c → Each (Ready g K ok m0 img) (fill c o bs)
  unfolding fill
  fill-ready i j c o [] l n c_n h p e = none
  fill-ready i j c o (b ∷ bs) l n c_n h p e =
      also (home_ready i j c o (b ∷ []) l n c_n (omega arith) (small_one (p zero)) e) (fill-ready i j c (suc o) bs l n c_n (omega arith) (λ x. p (suc x)) e)

  home_aside : (i j c : ℕ) → i < g.L → j < g.E → Home i j c → (b : ℕ) → b < g.B → blk g m b ≢ c
  home_aside i j c l n (old e d one) = rw e (data_aside g K ok m0 img k0 i j l n)
  home_aside i j c l n (new z e) = free_aside g K ok m0 img k0 c z

  -- ---- a call that leaves the tables and the counts
  module _ (dead : ℕ → Type 0) (r l f : List Store) (s : List ℕ) (p : Planned g K ok m0 img k0 role dead r l f s) where
    pub quiet_step : (us : List Store) (t : List ℕ) → Each (Ready g K ok m0 img) us → Each (Touch g K ok m0 img k0 (λ c. dead c → ⊥)) us → apply_all g.C us s ≡ t → Ok g K m0 t
        → Keep g K (mem g.C s) (mem g.C t) → ((c : ℕ) → c < g.N → cnt g (mem g.C t) c ≡ cnt g (mem g.C s) c)
        → Step g K ok m0 img k0 role role dead dead us [] [] s t
    unfolding apply_all
    quiet_step us t h touched e k q same =
        record {
          grows = λ c d. refl;
          dying = λ c d. d;
          both = us;
          every = us;
          first = merge-all-left us;
          second = merge-all-left us;
          is = e;
          fine = k;
          mix = keep_mixture g K ok m role (mem g.C s) (mem g.C t) p.fine.sound p.mix q;
          ready = h;
          linking = none;
          falling = none;
          fewer = λ c n d. omega (arith, keep_refs g K ok (mem g.C s) (mem g.C t) q c);
          taken = λ c n z d. absurd (d z);
          tables = λ a i n z. keep_tabled g K ok s t q a i (p.tables a i n z);
          stays = λ a n z. keep_tab g K ok (mem g.C s) (mem g.C t) q a n;
          touch = touched;
          order = λ c n. ap (λ (y : List ℕ). cell_at g K ok m0 img k0 y c) e;
          counted = λ c n. rw (same c n) (p.counted c n);
        }

    -- data in place
    pub place-step : (i j o : ℕ) (bs : List ℕ) → i < g.L → j < g.E → o + length bs ≤ g.C → Small bs
        → dat g K (mem g.C s) i j ≢ 0 → refs_of g K (mem g.C s) (dat g K (mem g.C s) i j) ≤ 1
        → Step g K ok m0 img k0 role role dead dead (fill (dat g K (mem g.C s) i j) o bs) [] [] s (apply_all g.C (fill (dat g K (mem g.C s) i j) o bs) s)
    place-step i j o bs i_l j_e h sm d one =
        let e : apply_all g.C (fill c o bs) s ≡ sets s (c * g.C + o) bs = apply-fill g.C c o bs s in
        quiet_step (fill c o bs) _ (fill-ready i j c o bs i_l j_e (dat_in g K ok x p.fine.sound i j i_l j_e) h sm (home x p.mix i j i_l j_e d one))
        (fill_touch g K ok m0 img k0 (λ n. dead n → ⊥) c o bs (dat_in g K ok x p.fine.sound i j i_l j_e) h (home_aside i j c i_l j_e (home x p.mix i j i_l j_e d one))) refl
        (rw e q.0) (rw e q.1) (rw e q.2)
      where
        x : ℕ → ℕ → ℕ
        x = mem g.C s

        c : ℕ
        c = dat g K x i j

        q : Ok g K m0 (sets s (c * g.C + o) bs) × Keep g K x (mem g.C (sets s (c * g.C + o) bs)) × ((a : ℕ) → a < g.N → cnt g (mem g.C (sets s (c * g.C + o) bs)) a ≡ cnt g x a)
        q = data_set g K ok m0 img s p.fine i j o bs i_l j_e h sm d one
