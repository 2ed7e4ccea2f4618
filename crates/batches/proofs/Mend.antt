-- A call of a batch: counts fall to the references, as in a repair. Assumes nothing.
use mathlib.Core.Path.{◌≡◌}
use mathlib.Core.Logic.{◌⊎◌, inl}
use mathlib.Core.List.{List, [], ◌∷◌, ◌++◌}
use Prim.Native.Nat.{ℕ, ◌<◌}
use Rattle.cuts.proofs.Cell.{mem}
use Rattle.cuts.proofs.Meta.{Geo, GeoOk, Codec}
use Rattle.cuts.proofs.Run.{Store, apply, apply_all, none}
use Rattle.cuts.proofs.Call.{Ok, count_store}
use Rattle.batches.proofs.Mixture.{Use}
use Rattle.batches.proofs.Planned.{Planned}
use Rattle.batches.proofs.Extend.{extend}
use Rattle.batches.proofs.Steps.{fall_step, set-count}
use Rattle.batches.proofs.Repairs.{Fall, fall_units, lowered, Covers, one_more, covers_keep, falls_call}
use Rattle.batches.proofs.Known.{Known}
use Rattle.batches.proofs.Knows.{knows_fall}
use Rattle.batches.proofs.Batch.{Call}

module _ (g : Geo) (K : Codec) (ok : GeoOk g K) (m0 : ℕ → ℕ → ℕ) (img : List ℕ) (k0 : Ok g K m0 img) (past : (ℕ → ℕ → ℕ) → Type 0) (role : ℕ → Use) where
  abbrev m : ℕ → ℕ → ℕ
  m = mem g.C img

  falls_knows : (fs : List Fall) (dead : ℕ → Type 0) (r l f : List Store) (s : List ℕ) → Planned g K ok m0 img k0 role dead r l f s → Covers g K ok m0 img k0 role (mem g.C s) fs
      → (i j v : ℕ) → i < g.L → j < g.E → K.clus v < g.N → Known g K past (mem g.C s) dead i j v
      → Known g K past (mem g.C (apply_all g.C (fall_units g K ok m0 img k0 role fs) s)) (lowered g K ok m0 img k0 role fs dead) i j v
  unfolding apply_all fall_units lowered
  falls_knows [] dead r l f s p c i j v i_l j_e v_n k = k
  falls_knows (a ∷ fs) dead r l f s p (one_more h lv n c) i j v i_l j_e v_n k =
      falls_knows fs (λ b. dead b ⊎ (b ≡ a.cluster)) (r ++ []) (l ++ []) (f ++ (count_store g m a.cluster a.value ∷ [])) (apply g.C (count_store g m a.cluster a.value) s)
      (extend g K ok m0 img k0 role role dead (λ b. dead b ⊎ (b ≡ a.cluster)) r l f [] [] (count_store g m a.cluster a.value ∷ []) s _ p
      (fall_step g K ok m0 img k0 role dead r l f s p a.cluster a.value h lv n))
      (covers_keep g K ok m0 img k0 role (mem g.C s) _ (set-count g K ok m0 img k0 role dead r l f s p a.cluster a.value h lv n).keep c)
      i j v i_l j_e v_n (knows_fall g K ok m0 img k0 role dead r l f s p past a.cluster a.value h lv n i j v i_l j_e v_n k)

  pub mend : (fs : List Fall) (dead : ℕ → Type 0) (r l f : List Store) (s : List ℕ) → Planned g K ok m0 img k0 role dead r l f s → Covers g K ok m0 img k0 role (mem g.C s) fs
      → Call g K ok m0 img k0 past role role dead (lowered g K ok m0 img k0 role fs dead) [] [] (fall_units g K ok m0 img k0 role fs) s (apply_all g.C (fall_units g K ok m0 img k0 role fs) s)
  mend fs dead r l f s p c =
      record {
        step = falls_call g K ok m0 img k0 role fs dead r l f s p c;
        knows = falls_knows fs dead r l f s p c;
        written = none;
        early = inl none;
        linked = λ t a n e. inl e;
      }
