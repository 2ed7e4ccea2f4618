-- A repair in a batch: counts that fall to the references. Assumes nothing.
use mathlib.Core.Path.{◌≡◌, refl}
use mathlib.Core.Logic.{◌⊎◌}
use mathlib.Core.List.{List, [], ◌∷◌, ◌++◌}
use Prim.Native.Nat.{ℕ, ◌^◌, ◌≤◌, ◌<◌}
use Rattle.cuts.proofs.Cell.{mem}
use Rattle.cuts.proofs.Meta.{Geo, GeoOk, Codec, refs_of, Keep, keep_refs}
use Rattle.cuts.proofs.Run.{Store, apply, apply_all, none}
use Rattle.cuts.proofs.Call.{Ok, count_store}
use Rattle.batches.proofs.Mixture.{Use}
use Rattle.batches.proofs.Planned.{Planned}
use Rattle.batches.proofs.Extend.{Step, extend, compose}
use Rattle.batches.proofs.Places.{quiet_step}
use Rattle.batches.proofs.Steps.{fall_step, set-count}

-- clusters whose counts are to fall, and to what
pub record Fall : Type 0 where
  pub cluster : ℕ
  pub value : ℕ

module _ (g : Geo) (K : Codec) (ok : GeoOk g K) (m0 : ℕ → ℕ → ℕ) (img : List ℕ) (k0 : Ok g K m0 img) (role : ℕ → Use) where
  abbrev m : ℕ → ℕ → ℕ
  m = mem g.C img

  -- their units, and the clusters that are lowered then
  unfoldable pub fall_units : List Fall → List Store
  fall_units [] = []
  fall_units (a ∷ as') = count_store g m a.cluster a.value ∷ fall_units as'

  unfoldable pub lowered : List Fall → (ℕ → Type 0) → ℕ → Type 0
  lowered [] dead = dead
  lowered (a ∷ as') dead = lowered as' (λ c. dead c ⊎ (c ≡ a.cluster))

  -- each covers the references in x
  pub data Covers (x : ℕ → ℕ → ℕ) : List Fall → Type 0 where
    no_more : Covers x []
    one_more : {a : Fall} {as' : List Fall} → a.cluster < g.N → a.value < 2 ^ g.W → refs_of g K x a.cluster ≤ a.value → Covers x as' → Covers x (a ∷ as')

  pub covers_keep : (x y : ℕ → ℕ → ℕ) → Keep g K x y → {fs : List Fall} → Covers x fs → Covers y fs
  covers_keep x y k no_more = no_more
  covers_keep x y k (one_more {a} h lv n c) = one_more h lv (rw (keep_refs g K ok x y k a.cluster) n) (covers_keep x y k c)

  -- nothing is done
  pub idle_step : (dead : ℕ → Type 0) (r l f : List Store) (s : List ℕ) → Planned g K ok m0 img k0 role dead r l f s → Step g K ok m0 img k0 role role dead dead [] [] [] s s
  unfolding apply_all
  idle_step dead r l f s p =
      quiet_step g K ok m0 img k0 role dead r l f s p [] s none none refl p.fine (record { small = p.fine.sound.bytes; rts = λ a h. refl; l1s = λ a h. refl; l2s = λ a b h n d. refl }) (λ c n. refl)

  pub falls_call : (fs : List Fall) (dead : ℕ → Type 0) (r l f : List Store) (s : List ℕ) → Planned g K ok m0 img k0 role dead r l f s → Covers (mem g.C s) fs
      → Step g K ok m0 img k0 role role dead (lowered fs dead) [] [] (fall_units fs) s (apply_all g.C (fall_units fs) s)
  unfolding apply_all fall_units lowered
  falls_call [] dead r l f s p c = idle_step dead r l f s p
  falls_call (a ∷ fs) dead r l f s p (one_more h lv n c) =
      compose g K ok m0 img k0 role role role dead (λ b. dead b ⊎ (b ≡ a.cluster)) (lowered fs (λ b. dead b ⊎ (b ≡ a.cluster))) [] [] (count_store g m a.cluster a.value ∷ [])
      [] [] (fall_units fs) s (apply g.C (count_store g m a.cluster a.value) s) _ p.fine.len
      (fall_step g K ok m0 img k0 role dead r l f s p a.cluster a.value h lv n)
      (falls_call fs (λ b. dead b ⊎ (b ≡ a.cluster)) (r ++ []) (l ++ []) (f ++ (count_store g m a.cluster a.value ∷ [])) (apply g.C (count_store g m a.cluster a.value) s)
      (extend g K ok m0 img k0 role role dead (λ b. dead b ⊎ (b ≡ a.cluster)) r l f [] [] (count_store g m a.cluster a.value ∷ []) s _ p
      (fall_step g K ok m0 img k0 role dead r l f s p a.cluster a.value h lv n))
      (covers_keep (mem g.C s) _ (set-count g K ok m0 img k0 role dead r l f s p a.cluster a.value h lv n).keep c))
