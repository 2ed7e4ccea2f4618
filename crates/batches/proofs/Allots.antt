-- A call of a batch takes a cluster and fills it. Assumes nothing.
use mathlib.Core.Path.{◌≡◌, ◌∙◌}
use mathlib.Core.Logic.{◌≢◌}
use mathlib.Core.List.{List, [], ◌∷◌, ◌++◌}
use Prim.Native.Nat.{ℕ, ◌+◌, ◌≤◌, ◌<◌}
use native.Mathlib.Omega.{arith}
use lib.ListN.{length, get_or}
use Rattle.cuts.proofs.Cell.{Small, Stored, mem}
use Rattle.cuts.proofs.Meta.{Geo, GeoOk, Codec, cnt, tab, refs_of, Keep, keep_refs}
use Rattle.cuts.proofs.Run.{Store, apply, apply_all, fill, apply-fill}
use Rattle.cuts.proofs.Call.{Ok, count_store, one-fits, next-stored, CountSet}
use Rattle.cuts.proofs.Write.{keep_trans}
use Rattle.batches.proofs.Mixture.{Use, unused, table}
use Rattle.batches.proofs.Planned.{Planned}
use Rattle.batches.proofs.Extend.{Step, extend, compose}
use Rattle.batches.proofs.Steps.{assign, fresh, set-count, take_step}
use Rattle.batches.proofs.Links.{fill_step, fill_keep, fill_cnt}

module _ (g : Geo) (K : Codec) (ok : GeoOk g K) (m0 : ℕ → ℕ → ℕ) (img : List ℕ) (k0 : Ok g K m0 img) (role : ℕ → Use) (dead : ℕ → Type 0)
    (r l f : List Store) (s : List ℕ) (p : Planned g K ok m0 img k0 role dead r l f s) where
  abbrev m : ℕ → ℕ → ℕ
  m = mem g.C img

  abbrev x : ℕ → ℕ → ℕ
  x = mem g.C s

  -- a cluster c is taken for a use, and holds A
  module _ (c : ℕ) (u : Use) (some : u ≢ unused) (empties : (i : ℕ) → u ≡ table i → (i < g.L) × (tab g K x i ≡ 0)) (A : List ℕ)
      (c_n : c < g.N) (zeroed : cnt g x c ≡ 0) (spared : dead c → ⊥) (l_a : 0 + length A ≤ g.C) (sm_a : Small A) where
    abbrev pub taken : ℕ → Use
    taken = assign role c u

    abbrev pub s₁ : List ℕ
    s₁ = apply g.C (count_store g m c 1) s

    abbrev pub s₂ : List ℕ
    s₂ = apply_all g.C (fill c 0 A) s₁

    pub no_refs : refs_of g K x c ≡ 0
    no_refs = omega (arith, zeroed, p.fine.sound.inv.covered c c_n)

    pub no_refs₀ : refs_of g K m c ≡ 0
    no_refs₀ = (fresh g K ok m0 img k0 role dead r l f s p c c_n zeroed spared).1

    set₁ : CountSet g K ok m0 s s₁ c 1
    set₁ = set-count g K ok m0 img k0 role dead r l f s p c 1 c_n (one-fits g K ok m0) (omega (arith, no_refs))

    step₁ : Step g K ok m0 img k0 role taken dead dead (count_store g m c 1 ∷ []) [] [] s s₁
    step₁ = take_step g K ok m0 img k0 role dead r l f s p c u some c_n zeroed spared empties

    plan₁ : Planned g K ok m0 img k0 taken dead (r ++ (count_store g m c 1 ∷ [])) (l ++ []) (f ++ []) s₁
    plan₁ = extend g K ok m0 img k0 role taken dead dead r l f (count_store g m c 1 ∷ []) [] [] s s₁ p step₁

    no_refs₁ : refs_of g K (mem g.C s₁) c ≡ 0
    no_refs₁ = keep_refs g K ok x (mem g.C s₁) set₁.keep c ∙ no_refs

    step₂ : Step g K ok m0 img k0 taken taken dead dead (fill c 0 A) [] [] s₁ s₂
    step₂ = fill_step g K ok m0 img k0 taken dead _ _ _ s₁ plan₁ c 0 A c_n l_a sm_a no_refs₀ no_refs₁

    pub allot_keep : Keep g K x (mem g.C s₂)
    allot_keep = keep_trans g K ok m0 x (mem g.C s₁) (mem g.C s₂) set₁.keep (fill_keep g K ok m0 img k0 taken dead _ _ _ s₁ plan₁ c 0 A c_n l_a sm_a no_refs₀ no_refs₁)

    pub allot_cnt : (a : ℕ) → a < g.N → a ≢ c → cnt g (mem g.C s₂) a ≡ cnt g x a
    allot_cnt a h d = fill_cnt g K ok m0 img k0 taken dead _ _ _ s₁ plan₁ c 0 A c_n l_a sm_a no_refs₀ no_refs₁ a h ∙ set₁.rest a h d

    stored₂ : Stored g.C (mem g.C s₁) (mem g.C s₂) c 0 A
    stored₂ = rw (apply-fill g.C c 0 A s₁) (next-stored g K ok m0 s₁ set₁.fine c 0 A c_n l_a sm_a)

    -- another cluster to which nothing refers stays
    pub allot-apart : (a o : ℕ) → o < g.C → refs_of g K x a ≡ 0 → a ≢ c → mem g.C s₂ a o ≡ x a o
    allot-apart a o h z d = stored₂.cluster a o h d ∙ set₁.free a o h z

    pub allot-body : (o : ℕ) → o < length A → mem g.C s₂ c (0 + o) ≡ get_or A o 0
    allot-body o h = stored₂.inside o h

    pub allot-step : Step g K ok m0 img k0 role taken dead dead ((count_store g m c 1 ∷ []) ++ fill c 0 A) ([] ++ []) ([] ++ []) s s₂
    allot-step = compose g K ok m0 img k0 role taken taken dead dead dead (count_store g m c 1 ∷ []) [] [] (fill c 0 A) [] [] s s₁ s₂ p.fine.len step₁ step₂

    pub allot_plan : Planned g K ok m0 img k0 taken dead (r ++ ((count_store g m c 1 ∷ []) ++ fill c 0 A)) (l ++ ([] ++ [])) (f ++ ([] ++ [])) s₂
    allot_plan = extend g K ok m0 img k0 role taken dead dead r l f _ _ _ s s₂ p allot-step
