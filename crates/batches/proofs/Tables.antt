-- A write of a batch into a new cluster, with a new table. Assumes nothing.
use mathlib.Core.Path.{◌≡◌, sym, ap, ◌∙◌, subst}
use mathlib.Core.Logic.{◌⊎◌, inl, inr, ◌≢◌}
use mathlib.Core.List.{List, [], ◌∷◌, ◌++◌}
use Prim.Native.Nat.{ℕ, ◌+◌, ◌*◌, ◌≤◌, ◌<◌}
use native.Mathlib.Nat.{zero-add}
use native.Mathlib.Decide.{ℕ_discrete}
use native.Mathlib.Omega.{arith}
use lib.ListN.{length, replicate, length-replicate}
use Rattle.cuts.proofs.Cell.{enc, length-enc, small-enc, Small, Stored, stored_num, stored-apart, mem}
use Rattle.cuts.proofs.Meta.{Geo, GeoOk, Codec, cnt, Has, l1, l2, tab, dat, refs_of, Keep, dat_none, keep_tab, keep_refs}
use Rattle.cuts.proofs.Step.{free-not-0, steps_apart}
use Rattle.cuts.proofs.Run.{Store, apply, apply_all, fill}
use Rattle.cuts.proofs.Call.{Ok, count_store, entry_store, link_store, next-stored}
use Rattle.cuts.proofs.Write.{zeros-at, keep_trans, small-replicate, num_zeros}
use Rattle.batches.proofs.Mixture.{Use, table, datum, kind, upper, used_table, used_datum, Linked, Put, put_new_lem}
use Rattle.batches.proofs.Planned.{Planned, Settled, tab_eq}
use Rattle.batches.proofs.Extend.{Step, extend, compose}
use Rattle.batches.proofs.Steps.{assign, assign_same, assign_other}
use Rattle.batches.proofs.Links.{inner_step, inner_keep, link_step}
use Rattle.batches.proofs.Allots.{no_refs, no_refs₀, allot_keep, allot_cnt, allot-apart, allot-body, allot-step, allot_plan}

module _ (g : Geo) (K : Codec) (ok : GeoOk g K) (m0 : ℕ → ℕ → ℕ) (img : List ℕ) (k0 : Ok g K m0 img) (role : ℕ → Use) (dead : ℕ → Type 0)
    (r l f : List Store) (s : List ℕ) (p : Planned g K ok m0 img k0 role dead r l f s) (settled : Settled g K ok m0 img k0 role s)
    (i j : ℕ) (i_l : i < g.L) (j_e : j < g.E) (act : i < g.M) (hi : Has g i) (z : tab g K (mem g.C s) i ≡ 0)
    (t c : ℕ) (A : List ℕ) (t_n : t < g.N) (c_n : c < g.N) (tc : t ≢ c) (zt : cnt g (mem g.C s) t ≡ 0) (zc : cnt g (mem g.C s) c ≡ 0)
    (st : dead t → ⊥) (sc : dead c → ⊥) (l_a : 0 + length A ≤ g.C) (sm_a : Small A) where
  abbrev pub m : ℕ → ℕ → ℕ
  m = mem g.C img

  abbrev pub x : ℕ → ℕ → ℕ
  x = mem g.C s

  abbrev pub Z : List ℕ
  Z = replicate g.C 0

  pub l_z : 0 + length Z ≤ g.C
  l_z = omega (arith, length-replicate {A = ℕ} g.C 0)

  linked : Linked g K m role i (l1 g x i) → tab g K x i ≢ 0
  unfolding tab
  linked k = k.some

  -- there was no table in the first image
  pub old : tab g K m i ≡ 0
  old = go (p.mix.l1s i i_l)
    where
      go : (l1 g x i ≡ l1 g m i) ⊎ Linked g K m role i (l1 g x i) → tab g K m i ≡ 0
      go (inl e) = sym (tab_eq g K x m i e) ∙ z
      go (inr k) = absurd (linked k z)

  -- ---- the table's count and zeros
  pub one : (a : ℕ) → table i ≡ table a → (a < g.L) × (tab g K x a ≡ 0)
  one a e = let h : a ≡ i = sym (ap upper e) in rw h (i_l, z)

  abbrev pub role₁ : ℕ → Use
  role₁ = assign role t (table i)

  abbrev pub s₁ : List ℕ
  s₁ = apply_all g.C (fill t 0 Z) (apply g.C (count_store g m t 1) s)

  pub step₁ : Step g K ok m0 img k0 role role₁ dead dead ((count_store g m t 1 ∷ []) ++ fill t 0 Z) ([] ++ []) ([] ++ []) s s₁
  step₁ = allot-step g K ok m0 img k0 role dead r l f s p t (table i) (used_table i) one Z t_n zt st l_z (small-replicate g.C)

  pub plan₁ : Planned g K ok m0 img k0 role₁ dead (r ++ ((count_store g m t 1 ∷ []) ++ fill t 0 Z)) (l ++ ([] ++ [])) (f ++ ([] ++ [])) s₁
  plan₁ = allot_plan g K ok m0 img k0 role dead r l f s p t (table i) (used_table i) one Z t_n zt st l_z (small-replicate g.C)

  pub keep₁ : Keep g K x (mem g.C s₁)
  keep₁ = allot_keep g K ok m0 img k0 role dead r l f s p t (table i) (used_table i) one Z t_n zt st l_z (small-replicate g.C)

  pub zc₁ : cnt g (mem g.C s₁) c ≡ 0
  zc₁ = allot_cnt g K ok m0 img k0 role dead r l f s p t (table i) (used_table i) one Z t_n zt st l_z (small-replicate g.C) c c_n (λ e. tc (sym e)) ∙ zc

  pub free_t : refs_of g K x t ≡ 0
  free_t = no_refs g K ok m0 img k0 role dead r l f s p t (table i) (used_table i) one Z t_n zt st l_z (small-replicate g.C)

  pub free_t₀ : refs_of g K m t ≡ 0
  free_t₀ = no_refs₀ g K ok m0 img k0 role dead r l f s p t (table i) (used_table i) one Z t_n zt st l_z (small-replicate g.C)

  zeros₁ : (o : ℕ) → o < g.C → mem g.C s₁ t o ≡ 0
  zeros₁ o h =
      ap (mem g.C s₁ t) (sym (zero-add o))
      ∙ allot-body g K ok m0 img k0 role dead r l f s p t (table i) (used_table i) one Z t_n zt st l_z (small-replicate g.C) o (omega (arith, length-replicate {A = ℕ} g.C 0))
      ∙ zeros-at g.C o

  -- ---- the data's count and bytes
  pub two : (a : ℕ) → datum i j ≡ table a → (a < g.L) × (tab g K (mem g.C s₁) a ≡ 0)
  two a e = omega (arith, ap kind e)

  abbrev pub role₂ : ℕ → Use
  role₂ = assign role₁ c (datum i j)

  abbrev pub s₂ : List ℕ
  s₂ = apply_all g.C (fill c 0 A) (apply g.C (count_store g m c 1) s₁)

  pub step₂ : Step g K ok m0 img k0 role₁ role₂ dead dead ((count_store g m c 1 ∷ []) ++ fill c 0 A) ([] ++ []) ([] ++ []) s₁ s₂
  step₂ = allot-step g K ok m0 img k0 role₁ dead _ _ _ s₁ plan₁ c (datum i j) (used_datum i j) two A c_n zc₁ sc l_a sm_a

  pub plan₂ : Planned g K ok m0 img k0 role₂ dead ((r ++ ((count_store g m t 1 ∷ []) ++ fill t 0 Z)) ++ ((count_store g m c 1 ∷ []) ++ fill c 0 A)) ((l ++ ([] ++ [])) ++ ([] ++ [])) ((f ++ ([] ++ [])) ++ ([] ++ [])) s₂
  plan₂ = allot_plan g K ok m0 img k0 role₁ dead _ _ _ s₁ plan₁ c (datum i j) (used_datum i j) two A c_n zc₁ sc l_a sm_a

  pub keep₂ : Keep g K x (mem g.C s₂)
  keep₂ = keep_trans g K ok m0 x (mem g.C s₁) (mem g.C s₂) keep₁ (allot_keep g K ok m0 img k0 role₁ dead _ _ _ s₁ plan₁ c (datum i j) (used_datum i j) two A c_n zc₁ sc l_a sm_a)

  free_t₁ : refs_of g K (mem g.C s₁) t ≡ 0
  free_t₁ = keep_refs g K ok x (mem g.C s₁) keep₁ t ∙ free_t

  pub free_t₂ : refs_of g K (mem g.C s₂) t ≡ 0
  free_t₂ = keep_refs g K ok x (mem g.C s₂) keep₂ t ∙ free_t

  zeros₂ : (o : ℕ) → o < g.C → mem g.C s₂ t o ≡ 0
  zeros₂ o h = allot-apart g K ok m0 img k0 role₁ dead _ _ _ s₁ plan₁ c (datum i j) (used_datum i j) two A c_n zc₁ sc l_a sm_a t o h free_t₁ tc ∙ zeros₁ o h

  pub free_c₀ : refs_of g K m c ≡ 0
  free_c₀ = no_refs₀ g K ok m0 img k0 role₁ dead _ _ _ s₁ plan₁ c (datum i j) (used_datum i j) two A c_n zc₁ sc l_a sm_a

  -- ---- the entry in the table
  abbrev pub s₃ : List ℕ
  s₃ = apply g.C (entry_store g t j (K.mk c)) s₂

  pub step₃ : Step g K ok m0 img k0 role₂ role₂ dead dead (entry_store g t j (K.mk c) ∷ []) [] [] s₂ s₃
  step₃ = inner_step g K ok m0 img k0 role₂ dead _ _ _ s₂ plan₂ t j (K.mk c) t_n j_e free_t₀ free_t₂

  pub plan₃ : Planned g K ok m0 img k0 role₂ dead
      (((r ++ ((count_store g m t 1 ∷ []) ++ fill t 0 Z)) ++ ((count_store g m c 1 ∷ []) ++ fill c 0 A)) ++ (entry_store g t j (K.mk c) ∷ []))
      (((l ++ ([] ++ [])) ++ ([] ++ [])) ++ []) (((f ++ ([] ++ [])) ++ ([] ++ [])) ++ []) s₃
  plan₃ = extend g K ok m0 img k0 role₂ role₂ dead dead _ _ _ _ _ _ s₂ s₃ plan₂ step₃

  pub keep₃ : Keep g K x (mem g.C s₃)
  keep₃ = keep_trans g K ok m0 x (mem g.C s₂) (mem g.C s₃) keep₂ (inner_keep g K ok m0 img k0 role₂ dead _ _ _ s₂ plan₂ t j (K.mk c) t_n j_e free_t₀ free_t₂)

  pub stored₃ : Stored g.C (mem g.C s₂) (mem g.C s₃) t (8 * j) (enc 8 (K.mk c))
  unfolding apply entry_store
  stored₃ = next-stored g K ok m0 s₂ plan₂.fine t (8 * j) (enc 8 (K.mk c)) t_n (omega (arith, ok.c8, length-enc 8 (K.mk c))) (small-enc 8 (K.mk c))

  -- its entries: one for c, the others zero
  pub entry_c : l2 g (mem g.C s₃) t j ≡ K.mk c
  unfolding l2
  entry_c = stored_num g.C (mem g.C s₂) (mem g.C s₃) t (8 * j) 8 (K.mk c) stored₃ (ok.laws.mk_lt c c_n)

  pub entry-0 : (b : ℕ) → b < g.E → b ≢ j → l2 g (mem g.C s₃) t b ≡ 0
  unfolding l2
  entry-0 b n d =
      stored-apart g.C (mem g.C s₂) (mem g.C s₃) t (8 * j) (enc 8 (K.mk c)) stored₃ 8 t (8 * b) (omega (arith, ok.c8))
      (steps_apart 8 b j (length (enc 8 (K.mk c))) (length-enc 8 (K.mk c)) d)
      ∙ num_zeros 8 (mem g.C s₂ t) (8 * b) (λ o u v. zeros₂ o (omega (arith, ok.c8)))

  c0 : c ≢ 0
  c0 = free-not-0 g K ok m k0.sound c free_c₀

  pub t0 : t ≢ 0
  t0 = free-not-0 g K ok m k0.sound t free_t₀

  pub mc : K.clus (K.mk c) ≡ c
  mc = ok.laws.mk_clus c c_n

  no_data : (b : ℕ) → dat g K m i b ≢ 0 → refs_of g K m (dat g K m i b) ≤ 1
  no_data b d = absurd (d (dat_none g K m i b old))

  pub filled : (b : ℕ) → b < g.E → Put g K m role₂ i b (l2 g (mem g.C s₃) t b)
  filled b n = go (ℕ_discrete b j)
    where
      go : Dec (b ≡ j) → Put g K m role₂ i b (l2 g (mem g.C s₃) t b)
      go (yes e) = rw (e, entry_c) (put_new_lem g K ok m role₂ i j c act c_n c0 (no_data j) (inr (inr (free_c₀, assign_same role₁ c (datum i j)))))
      go (no d) =
          rw (entry-0 b n d)
          (record { active = act; good = ok.laws.zero-good2; own = λ y. absurd (y ok.laws.zero_clus); plain = λ y. ok.laws.zero_flag; left = no_data b; place = inl ok.laws.zero_clus })

  -- no cluster that was lowered is named
  pub alive : (a : ℕ) → dead a → (a ≢ t) × ((b : ℕ) → b < g.E → a ≢ 0 → a ≢ K.clus (l2 g (mem g.C s₃) t b))
  alive a d = ((λ e. st (subst dead e d)), λ b n y e. go b n y e (ℕ_discrete b j))
    where
      go : (b : ℕ) → b < g.E → a ≢ 0 → a ≡ K.clus (l2 g (mem g.C s₃) t b) → Dec (b ≡ j) → ⊥
      go b n y e (yes h) = sc (subst dead (e ∙ ap (λ (k : ℕ). K.clus (l2 g (mem g.C s₃) t k)) h ∙ ap K.clus entry_c ∙ mc) d)
      go b n y e (no h) = y (e ∙ ap K.clus (entry-0 b n h) ∙ ok.laws.zero_clus)

  pub used_t : role₂ t ≡ table i
  used_t = assign_other role₁ c (datum i j) t tc ∙ assign_same role t (table i)

  -- a use that was there before, or t's
  pub was : (u a : ℕ) → role₂ u ≡ table a → Dec (u ≡ c) → Dec (u ≡ t) → (u ≡ t) ⊎ (role u ≡ table a)
  was u a e (yes h) y = absurd (omega (arith, ap kind (sym (ap role₂ h ∙ assign_same role₁ c (datum i j)) ∙ e)))
  was u a e (no h) (yes y) = inl y
  was u a e (no h) (no y) = inr (sym (assign_other role₁ c (datum i j) u h ∙ assign_other role t (table i) u y) ∙ e)

  pub only : (u : ℕ) → u < g.N → role₂ u ≡ table i → u ≡ t
  only u h e = go (was u i e (ℕ_discrete u c) (ℕ_discrete u t))
    where
      go : (u ≡ t) ⊎ (role u ≡ table i) → u ≡ t
      go (inl y) = y
      go (inr y) = absurd (free-not-0 g K ok m k0.sound u (p.free u h (λ w. used_table i (sym y ∙ w))) (sym (settled u i h y) ∙ z))

  pub rest : (u a : ℕ) → u < g.N → role₂ u ≡ table a → a ≢ i → tab g K (mem g.C s₃) a ≡ u
  rest u a h e d = go (was u a e (ℕ_discrete u c) (ℕ_discrete u t))
    where
      go : (u ≡ t) ⊎ (role u ≡ table a) → tab g K (mem g.C s₃) a ≡ u
      go (inl y) = absurd (d (ap upper (sym e ∙ ap role₂ y ∙ used_t)))
      go (inr y) = keep_tab g K ok x (mem g.C s₃) keep₃ a (p.tables u a h y).0 ∙ settled u a h y

  -- ---- and is linked
  module _ (fine : Ok g K m0 (apply g.C (link_store g i (K.mk t)) s₃)) where
    abbrev pub s₄ : List ℕ
    s₄ = apply g.C (link_store g i (K.mk t)) s₃

    pub z₃ : tab g K (mem g.C s₃) i ≡ 0
    z₃ = keep_tab g K ok x (mem g.C s₃) keep₃ i i_l ∙ z

    step₄ : Step g K ok m0 img k0 role₂ role₂ dead dead [] (link_store g i (K.mk t) ∷ []) [] s₃ s₄
    step₄ = link_step g K ok m0 img k0 role₂ dead _ _ _ s₃ plan₃ i t i_l hi act t_n t0 z₃ old free_t₀ used_t filled alive only rest fine

    pub table_call : Step g K ok m0 img k0 role role₂ dead dead
        ((((count_store g m t 1 ∷ []) ++ fill t 0 Z) ++ ((count_store g m c 1 ∷ []) ++ fill c 0 A)) ++ ((entry_store g t j (K.mk c) ∷ []) ++ []))
        ((([] ++ []) ++ ([] ++ [])) ++ ([] ++ (link_store g i (K.mk t) ∷ []))) ((([] ++ []) ++ ([] ++ [])) ++ ([] ++ [])) s s₄
    table_call =
        compose g K ok m0 img k0 role role₂ role₂ dead dead dead _ _ _ _ _ _ s s₂ s₄ p.fine.len
        (compose g K ok m0 img k0 role role₁ role₂ dead dead dead _ _ _ _ _ _ s s₁ s₂ p.fine.len step₁ step₂)
        (compose g K ok m0 img k0 role₂ role₂ role₂ dead dead dead _ _ _ _ _ _ s₂ s₃ s₄ plan₂.fine.len step₃ step₄)
