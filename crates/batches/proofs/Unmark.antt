-- A call of a batch: data go to a place under a zero mark. Assumes nothing.
use mathlib.Core.Path.{◌≡◌, sym, ap, ◌∙◌}
use mathlib.Core.Logic.{◌⊎◌, inl, inr, ◌≢◌}
use mathlib.Core.List.{List, [], ◌++◌}
use Prim.Native.Nat.{ℕ, ◌+◌, ◌≤◌, ◌<◌}
use lib.ListN.{length}
use Rattle.cuts.proofs.Cell.{Small, mem}
use Rattle.cuts.proofs.Meta.{Geo, GeoOk, Codec, l2, tab, dat, mark, refs_of, Keep, dat_some, mark_some, keep_tab, keep_dat, keep_refs}
use Rattle.cuts.proofs.Run.{Store, apply, apply_all, fill, Each, each_append}
use Rattle.cuts.proofs.Call.{Ok, entry_store}
use Rattle.batches.proofs.Mixture.{Use, Put, Old}
use Rattle.batches.proofs.Planned.{Planned}
use Rattle.batches.proofs.Steps.{before, among}
use Rattle.batches.proofs.Places.{Home, old, new, home}
use Rattle.batches.proofs.Marks.{keep₁, plan₁, c_n, value, marked_call}
use Rattle.batches.proofs.Known.{Known}
use Rattle.batches.proofs.Unseen.{Hidden}
use Rattle.batches.proofs.Overwrite.{still_known}
use Rattle.batches.proofs.Enter.{enter_knows, enter_known, enter_written, enter_early}
use Rattle.batches.proofs.Batch.{Call, hidden-fill, marked-fill}

module _ (g : Geo) (K : Codec) (ok : GeoOk g K) (m0 : ℕ → ℕ → ℕ) (img : List ℕ) (k0 : Ok g K m0 img) (past : (ℕ → ℕ → ℕ) → Type 0) (role : ℕ → Use) (dead : ℕ → Type 0)
    (r l f : List Store) (s : List ℕ) (p : Planned g K ok m0 img k0 role dead r l f s) (i j : ℕ) (i_l : i < g.L) (j_e : j < g.E) (act : i < g.M)
    (A : List ℕ) (l_a : 0 + length A ≤ g.C) (sm_a : Small A) (some : tab g K (mem g.C s) i ≢ 0) (alone : refs_of g K (mem g.C s) (tab g K (mem g.C s) i) ≤ 1)
    (d : dat g K (mem g.C s) i j ≢ 0) (one : refs_of g K (mem g.C s) (dat g K (mem g.C s) i j) ≤ 1) (flagged : mark g K (mem g.C s) i j ≢ 0)
    (fine : Ok g K m0 (apply g.C (entry_store g (tab g K (mem g.C s) i) j (K.mk (dat g K (mem g.C s) i j))) (apply_all g.C (fill (dat g K (mem g.C s) i j) 0 A) s)))
    (before_now : past (mem g.C (apply_all g.C (fill (dat g K (mem g.C s) i j) 0 A) s)))
    (now : past (mem g.C (apply g.C (entry_store g (tab g K (mem g.C s) i) j (K.mk (dat g K (mem g.C s) i j))) (apply_all g.C (fill (dat g K (mem g.C s) i j) 0 A) s)))) where
  abbrev m : ℕ → ℕ → ℕ
  m = mem g.C img

  abbrev x : ℕ → ℕ → ℕ
  x = mem g.C s

  abbrev c : ℕ
  c = dat g K x i j

  abbrev s₁ : List ℕ
  s₁ = apply_all g.C (fill c 0 A) s

  abbrev x₁ : ℕ → ℕ → ℕ
  x₁ = mem g.C s₁

  abbrev u : Store
  u = entry_store g (tab g K x i) j (K.mk c)

  abbrev s₂ : List ℕ
  s₂ = apply g.C u s₁

  kept : Keep g K x x₁
  kept = keep₁ g K ok m0 img k0 role dead r l f s p i j i_l j_e act A l_a sm_a some alone d one fine

  same : tab g K x₁ i ≡ tab g K x i
  same = keep_tab g K ok x x₁ kept i i_l

  same_dat : dat g K x₁ i j ≡ c
  same_dat = keep_dat g K ok x x₁ kept i j i_l j_e

  planned₁ : Planned g K ok m0 img k0 role dead (r ++ fill c 0 A) (l ++ []) (f ++ []) s₁
  planned₁ = plan₁ g K ok m0 img k0 role dead r l f s p i j i_l j_e act A l_a sm_a some alone d one fine

  put : Put g K m role i j (K.mk c)
  put = value g K ok m0 img k0 role dead r l f s p i j i_l j_e act A l_a sm_a some alone d one fine

  in_n : c < g.N
  in_n = c_n g K ok m0 img k0 role dead r l f s p i j i_l j_e act A l_a sm_a some alone d one fine

  clus : K.clus (K.mk c) ≡ c
  clus = ok.laws.mk_clus c in_n

  some₁ : tab g K x₁ i ≢ 0
  some₁ z = some (sym same ∙ z)

  alone₁ : refs_of g K x₁ (tab g K x₁ i) ≤ 1
  alone₁ = rw (same, keep_refs g K ok x x₁ kept (tab g K x i)) alone

  one₁ : dat g K x₁ i j ≢ 0 → refs_of g K x₁ (dat g K x₁ i j) ≤ 1
  one₁ y = rw (same_dat, keep_refs g K ok x x₁ kept c) one

  plain : K.clus (K.mk c) ≢ 0 → K.flag (K.mk c) ≡ 0
  plain y = ok.laws.mk_flag c in_n

  knows₂ : (a b w : ℕ) → a < g.L → b < g.E → K.clus w < g.N → Known g K past x dead a b w → Known g K past (mem g.C s₂) dead a b w
  knows₂ a b w a_l b_e w_n k =
      rw same at
      (enter_knows g K ok m0 img k0 past role dead _ _ _ s₁ planned₁ i j (K.mk c) i_l j_e (ok.laws.mk_lt c in_n) some₁ alone₁ put plain one₁ a b w a_l b_e w_n
      (still_known g K ok m0 img k0 past role dead r l f s p i j 0 A i_l j_e l_a sm_a d one before_now a b w a_l b_e w_n k) (λ y z e. clus ∙ sym same_dat))

  known₂ : Known g K past (mem g.C s₂) dead i j (K.mk c)
  known₂ = rw same at (enter_known g K ok m0 img k0 past role dead _ _ _ s₁ planned₁ i j (K.mk c) i_l j_e (ok.laws.mk_lt c in_n) some₁ alone₁ put plain one₁ (rw same now))

  -- the mark stood in the first image
  marked-before : c ≡ dat g K m i j → mark g K m i j ≢ 0
  marked-before e z = go (p.mix.l2s i j i_l j_e some)
    where
      go : Old g K m role i j (l2 g x (tab g K x i) j) ⊎ Put g K m role i j (l2 g x (tab g K x i) j) → ⊥
      go (inl o) = flagged (mark_some g K x i j some ∙ ap K.flag o.entry ∙ sym (mark_some g K m i j o.some) ∙ z)
      go (inr q) = flagged (mark_some g K x i j some ∙ q.plain (λ y. d (dat_some g K x i j some ∙ y)))

  pub filled : Home g K ok m0 img k0 role i j c → Each (Hidden g K ok m0 img) (fill c 0 A)
  filled (old e d₀ one₀) = rw e (marked-fill g K ok m0 img k0 past i j 0 A i_l j_e l_a sm_a d₀ one₀ (marked-before e))
  filled (new z e) = hidden-fill g K ok m0 img k0 past c 0 A in_n l_a sm_a z

  pub unmarked : (y : Dec (tab g K m i ≡ 0)) → Call g K ok m0 img k0 past role role dead dead (fill c 0 A ++ before y u) ([] ++ among y u) ([] ++ []) s s₂
  unmarked y =
      record {
        step = marked_call g K ok m0 img k0 role dead r l f s p i j i_l j_e act A l_a sm_a some alone d one fine y;
        knows = knows₂;
        written = rw same at
            (enter_written g K ok m0 img k0 past role dead _ _ _ s₁ planned₁ i j (K.mk c) i_l j_e (ok.laws.mk_lt c in_n) some₁ alone₁ put plain one₁ (Known g K past (mem g.C s₂) dead) known₂ y);
        early = inl (each_append (filled (home g K ok m0 img k0 role x p.mix i j i_l j_e d one))
            (rw same at (enter_early g K ok m0 img k0 past role dead _ _ _ s₁ planned₁ i j (K.mk c) i_l j_e (ok.laws.mk_lt c in_n) some₁ alone₁ put plain one₁ y)));
        linked = λ t a n e. inl e;
      }
