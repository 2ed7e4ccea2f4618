-- A write of a batch into a new cluster. Assumes nothing.
use mathlib.Core.Path.{◌≡◌, sym, ap, ◌∙◌, subst}
use mathlib.Core.Logic.{inr, ◌≢◌}
use mathlib.Core.List.{List, [], ◌∷◌, ◌++◌}
use Prim.Native.Nat.{ℕ, ◌+◌, ◌≤◌, ◌<◌}
use native.Mathlib.Omega.{arith}
use lib.ListN.{length}
use Rattle.cuts.proofs.Cell.{Small, mem}
use Rattle.cuts.proofs.Meta.{Geo, GeoOk, Codec, cnt, tab, dat, refs_of, Keep, keep_tab, keep_refs}
use Rattle.cuts.proofs.Step.{free-not-0}
use Rattle.cuts.proofs.Run.{Store, apply, apply_all, fill}
use Rattle.cuts.proofs.Call.{Ok, count_store, entry_store}
use Rattle.batches.proofs.Mixture.{Use, table, datum, kind, used_datum, Put, put_new_lem}
use Rattle.batches.proofs.Planned.{Planned}
use Rattle.batches.proofs.Extend.{Step, compose}
use Rattle.batches.proofs.Steps.{assign, assign_same, before, among, entry-step}
use Rattle.batches.proofs.Discards.{left_of}
use Rattle.batches.proofs.Allots.{no_refs₀, allot_keep, allot-step, allot_plan}

module _ (g : Geo) (K : Codec) (ok : GeoOk g K) (m0 : ℕ → ℕ → ℕ) (img : List ℕ) (k0 : Ok g K m0 img) (role : ℕ → Use) (dead : ℕ → Type 0)
    (r l f : List Store) (s : List ℕ) (p : Planned g K ok m0 img k0 role dead r l f s) (i j : ℕ) (i_l : i < g.L) (j_e : j < g.E) (act : i < g.M) where
  abbrev m : ℕ → ℕ → ℕ
  m = mem g.C img

  abbrev x : ℕ → ℕ → ℕ
  x = mem g.C s

  -- ---- a write into a new cluster c, which holds A
  module _ (c : ℕ) (A : List ℕ) (c_n : c < g.N) (zeroed : cnt g x c ≡ 0) (spared : dead c → ⊥) (l_a : 0 + length A ≤ g.C) (sm_a : Small A) where
    pub no_table : (a : ℕ) → datum i j ≡ table a → (a < g.L) × (tab g K x a ≡ 0)
    no_table a e = omega (arith, ap kind e)

    abbrev given : ℕ → Use
    given = assign role c (datum i j)

    abbrev t₂ : List ℕ
    t₂ = apply_all g.C (fill c 0 A) (apply g.C (count_store g m c 1) s)

    gone : refs_of g K m c ≡ 0
    gone = no_refs₀ g K ok m0 img k0 role dead r l f s p c (datum i j) (used_datum i j) no_table A c_n zeroed spared l_a sm_a

    kept₂ : Keep g K x (mem g.C t₂)
    kept₂ = allot_keep g K ok m0 img k0 role dead r l f s p c (datum i j) (used_datum i j) no_table A c_n zeroed spared l_a sm_a

    -- count and bytes, and the entry
    module _ (some : tab g K x i ≢ 0) (alone : refs_of g K x (tab g K x i) ≤ 1) (none : dat g K x i j ≡ 0) (fine : Ok g K m0 (apply g.C (entry_store g (tab g K x i) j (K.mk c)) t₂)) where
      c0 : c ≢ 0
      c0 = free-not-0 g K ok m k0.sound c gone

      mc : K.clus (K.mk c) ≡ c
      mc = ok.laws.mk_clus c c_n

      pub value : Put g K m given i j (K.mk c)
      value = put_new_lem g K ok m given i j c act c_n c0 (left_of g K ok m0 img k0 role dead r l f s p i j i_l j_e act some (λ d. absurd (d none))) (inr (inr (gone, assign_same role c (datum i j))))

      same : tab g K (mem g.C t₂) i ≡ tab g K x i
      same = keep_tab g K ok x (mem g.C t₂) kept₂ i i_l

      step₃ : (d : Dec (tab g K m i ≡ 0)) → Step g K ok m0 img k0 given given dead dead (before d (entry_store g (tab g K x i) j (K.mk c))) (among d (entry_store g (tab g K x i) j (K.mk c))) []
          t₂ (apply g.C (entry_store g (tab g K x i) j (K.mk c)) t₂)
      step₃ d =
          rw same at
          (entry-step g K ok m0 img k0 given dead _ _ _ t₂ (allot_plan g K ok m0 img k0 role dead r l f s p c (datum i j) (used_datum i j) no_table A c_n zeroed spared l_a sm_a) i j (K.mk c) i_l j_e (ok.laws.mk_lt c c_n) (λ z. some (sym same ∙ z))
          (rw (same, keep_refs g K ok x (mem g.C t₂) kept₂ (tab g K x i)) alone) value (λ a b z e. absurd (spared (subst dead (e ∙ mc) b))) (rw same fine) d)

      pub alloc_call : (d : Dec (tab g K m i ≡ 0))
          → Step g K ok m0 img k0 role given dead dead (((count_store g m c 1 ∷ []) ++ fill c 0 A) ++ before d (entry_store g (tab g K x i) j (K.mk c)))
          (([] ++ []) ++ among d (entry_store g (tab g K x i) j (K.mk c))) (([] ++ []) ++ []) s (apply g.C (entry_store g (tab g K x i) j (K.mk c)) t₂)
      alloc_call d = compose g K ok m0 img k0 role given given dead dead dead _ _ _ _ _ _ s t₂ _ p.fine.len (allot-step g K ok m0 img k0 role dead r l f s p c (datum i j) (used_datum i j) no_table A c_n zeroed spared l_a sm_a) (step₃ d)
