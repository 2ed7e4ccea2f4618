-- A call of a batch: data go into a new cluster, below a table that is there. Assumes nothing.
use mathlib.Core.Path.{◌≡◌, sym, ap, ◌∙◌}
use mathlib.Core.Logic.{inl, ◌≢◌}
use mathlib.Core.List.{List, [], ◌∷◌, ◌++◌}
use Prim.Native.Nat.{ℕ, ◌+◌, ◌≤◌, ◌<◌}
use native.Mathlib.Decide.{ℕ_discrete}
use native.Mathlib.Omega.{arith}
use lib.ListN.{length}
use Rattle.cuts.proofs.Cell.{Small, mem}
use Rattle.cuts.proofs.Meta.{Geo, GeoOk, Codec, cnt, tab, dat, refs_of, Keep, keep_tab, keep_dat, keep_refs}
use Rattle.cuts.proofs.Run.{Store, apply, apply_all, fill, Each, also, each_append}
use Rattle.cuts.proofs.Call.{Ok, count_store, entry_store, one-fits}
use Rattle.batches.proofs.Mixture.{Use, table, datum, kind, used_datum, Put}
use Rattle.batches.proofs.Planned.{Planned}
use Rattle.batches.proofs.Steps.{assign, assign_same, assign_other, before, among}
use Rattle.batches.proofs.Allots.{no_refs, no_refs₀, allot_keep, allot_plan}
use Rattle.batches.proofs.Writes.{value, alloc_call}
use Rattle.batches.proofs.Known.{Known, fresh-apart}
use Rattle.batches.proofs.Knows.{knows_allot}
use Rattle.batches.proofs.Unseen.{Hidden, counted}
use Rattle.batches.proofs.Enter.{enter_knows, enter_known, enter_written, enter_early}
use Rattle.batches.proofs.Batch.{Call, hidden-fill}

module _ (g : Geo) (K : Codec) (ok : GeoOk g K) (m0 : ℕ → ℕ → ℕ) (img : List ℕ) (k0 : Ok g K m0 img) (past : (ℕ → ℕ → ℕ) → Type 0) (role : ℕ → Use) (dead : ℕ → Type 0)
    (r l f : List Store) (s : List ℕ) (p : Planned g K ok m0 img k0 role dead r l f s) (i j : ℕ) (i_l : i < g.L) (j_e : j < g.E) (act : i < g.M)
    (c : ℕ) (A : List ℕ) (c_n : c < g.N) (zeroed : cnt g (mem g.C s) c ≡ 0) (spared : dead c → ⊥) (l_a : 0 + length A ≤ g.C) (sm_a : Small A)
    (some : tab g K (mem g.C s) i ≢ 0) (alone : refs_of g K (mem g.C s) (tab g K (mem g.C s) i) ≤ 1) (bare : dat g K (mem g.C s) i j ≡ 0)
    (fine : Ok g K m0 (apply g.C (entry_store g (tab g K (mem g.C s) i) j (K.mk c)) (apply_all g.C (fill c 0 A) (apply g.C (count_store g (mem g.C img) c 1) s))))
    (now : past (mem g.C (apply g.C (entry_store g (tab g K (mem g.C s) i) j (K.mk c)) (apply_all g.C (fill c 0 A) (apply g.C (count_store g (mem g.C img) c 1) s))))) where
  abbrev m : ℕ → ℕ → ℕ
  m = mem g.C img

  abbrev x : ℕ → ℕ → ℕ
  x = mem g.C s

  abbrev s₂ : List ℕ
  s₂ = apply_all g.C (fill c 0 A) (apply g.C (count_store g m c 1) s)

  abbrev x₂ : ℕ → ℕ → ℕ
  x₂ = mem g.C s₂

  abbrev given : ℕ → Use
  given = assign role c (datum i j)

  abbrev u : Store
  u = entry_store g (tab g K x i) j (K.mk c)

  abbrev s₃ : List ℕ
  s₃ = apply g.C u s₂

  no_t : (a : ℕ) → datum i j ≡ table a → (a < g.L) × (tab g K x a ≡ 0)
  no_t a e = omega (arith, ap kind e)

  keep₂ : Keep g K x x₂
  keep₂ = allot_keep g K ok m0 img k0 role dead r l f s p c (datum i j) (used_datum i j) no_t A c_n zeroed spared l_a sm_a

  plan₂ : Planned g K ok m0 img k0 given dead (r ++ ((count_store g m c 1 ∷ []) ++ fill c 0 A)) (l ++ ([] ++ [])) (f ++ ([] ++ [])) s₂
  plan₂ = allot_plan g K ok m0 img k0 role dead r l f s p c (datum i j) (used_datum i j) no_t A c_n zeroed spared l_a sm_a

  same : tab g K x₂ i ≡ tab g K x i
  same = keep_tab g K ok x x₂ keep₂ i i_l

  put : Put g K m given i j (K.mk c)
  put = value g K ok m0 img k0 role dead r l f s p i j i_l j_e act c A c_n zeroed spared l_a sm_a some alone bare fine

  mc : K.clus (K.mk c) ≡ c
  mc = ok.laws.mk_clus c c_n

  none₂ : dat g K x₂ i j ≢ 0 → refs_of g K x₂ (dat g K x₂ i j) ≤ 1
  none₂ d = absurd (d (keep_dat g K ok x x₂ keep₂ i j i_l j_e ∙ bare))

  some₂ : tab g K x₂ i ≢ 0
  some₂ z = some (sym same ∙ z)

  alone₂ : refs_of g K x₂ (tab g K x₂ i) ≤ 1
  alone₂ = rw (same, keep_refs g K ok x x₂ keep₂ (tab g K x i)) alone

  plain : K.clus (K.mk c) ≢ 0 → K.flag (K.mk c) ≡ 0
  plain d = ok.laws.mk_flag c c_n

  knows₂ : (a b w : ℕ) → a < g.L → b < g.E → K.clus w < g.N → Known g K past x dead a b w → Known g K past x₂ dead a b w
  knows₂ = knows_allot g K ok m0 img k0 role dead r l f s p past c (datum i j) (used_datum i j) no_t A c_n zeroed spared l_a sm_a

  knows₃ : (a b w : ℕ) → a < g.L → b < g.E → K.clus w < g.N → Known g K past x dead a b w → Known g K past (mem g.C s₃) dead a b w
  knows₃ a b w a_l b_e w_n k =
      rw same at
      (enter_knows g K ok m0 img k0 past given dead _ _ _ s₂ plan₂ i j (K.mk c) i_l j_e (ok.laws.mk_lt c c_n) some₂ alone₂ put plain none₂ a b w a_l b_e w_n (knows₂ a b w a_l b_e w_n k)
      (λ y d e. absurd (fresh-apart g K ok past x x₂ p.fine.sound dead c (no_refs g K ok m0 img k0 role dead r l f s p c (datum i j) (used_datum i j) no_t A c_n zeroed spared l_a sm_a) zeroed spared a b w a_l b_e k y d (e ∙ mc))))

  known₃ : Known g K past (mem g.C s₃) dead i j (K.mk c)
  known₃ = rw same at (enter_known g K ok m0 img k0 past given dead _ _ _ s₂ plan₂ i j (K.mk c) i_l j_e (ok.laws.mk_lt c c_n) some₂ alone₂ put plain none₂ (rw same now))

  pub hidden : (y : Dec (tab g K m i ≡ 0)) → Each (Hidden g K ok m0 img) (((count_store g m c 1 ∷ []) ++ fill c 0 A) ++ before y u)
  hidden y =
      each_append
      (also (counted c 1 c_n (one-fits g K ok m0) (omega arith) (omega (arith, z₀))) (hidden-fill g K ok m0 img k0 past c 0 A c_n l_a sm_a z₀))
      (rw same at (enter_early g K ok m0 img k0 past given dead _ _ _ s₂ plan₂ i j (K.mk c) i_l j_e (ok.laws.mk_lt c c_n) some₂ alone₂ put plain none₂ y))
    where
      z₀ : refs_of g K m c ≡ 0
      z₀ = no_refs₀ g K ok m0 img k0 role dead r l f s p c (datum i j) (used_datum i j) no_t A c_n zeroed spared l_a sm_a

  pub was_table : (t a : ℕ) → given t ≡ table a → Dec (t ≡ c) → role t ≡ table a
  was_table t a e (yes h) = absurd (omega (arith, ap kind (sym (ap given h ∙ assign_same role c (datum i j)) ∙ e)))
  was_table t a e (no h) = sym (assign_other role c (datum i j) t h) ∙ e

  pub alloc : (y : Dec (tab g K m i ≡ 0))
      → Call g K ok m0 img k0 past role given dead dead (((count_store g m c 1 ∷ []) ++ fill c 0 A) ++ before y u) (([] ++ []) ++ among y u) (([] ++ []) ++ []) s s₃
  alloc y =
      record {
        step = alloc_call g K ok m0 img k0 role dead r l f s p i j i_l j_e act c A c_n zeroed spared l_a sm_a some alone bare fine y;
        knows = knows₃;
        written = rw same at
            (enter_written g K ok m0 img k0 past given dead _ _ _ s₂ plan₂ i j (K.mk c) i_l j_e (ok.laws.mk_lt c c_n) some₂ alone₂ put plain none₂ (Known g K past (mem g.C s₃) dead) known₃ y);
        early = inl (hidden y);
        linked = λ t a n e. inl (was_table t a e (ℕ_discrete t c));
      }
