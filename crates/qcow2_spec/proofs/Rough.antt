-- Laws of what a rough cut stores. Assumes nothing.
use Prim.Native.Nat.{ℕ, zero, suc, ◌≤◌}
use native.Mathlib.Nat.{not-suc-le-zero, le_of_suc-le-suc}
use mathlib.Core.Path.{◌≡◌, refl, ap}
use mathlib.Core.Bool.{Bool}
use mathlib.Core.List.{List, [], ◌∷◌, append-nil}
use lib.ListN.{length, take}
use Rattle.units.specs.Units.{UnitStore, apply_all}
use Rattle.units.specs.Plan.{Plan, plan_units, after}
use Rattle.qcow2_spec.specs.Rough.{chosen, roughly, after_rough}

pub roughly_nil : (a : ℕ) (cs : List Bool) → roughly [] a cs ≡ []
unfolding roughly chosen
roughly_nil zero [] = refl
roughly_nil zero (c ∷ cs) = refl
roughly_nil (suc a) [] = refl
roughly_nil (suc a) (c ∷ cs) = refl

-- a list that is stored whole is not cut
pub roughly-all : (us : List UnitStore) (a : ℕ) (cs : List Bool) → length us ≤ a → roughly us a cs ≡ us
unfolding roughly
roughly-all [] a cs h = roughly_nil a cs
roughly-all (u ∷ us) zero cs h = absurd (not-suc-le-zero h)
roughly-all (u ∷ us) (suc a) cs h = ap (λ (vs : List UnitStore). u ∷ vs) (roughly-all us a cs (le_of_suc-le-suc h))

-- the smooth cut is the rough one that chooses no byte
pub smooth_cut : (p : Plan) (a : ℕ) (s : List ℕ) → after_rough p a [] s ≡ after p a s
unfolding after_rough after roughly chosen
smooth_cut p a s = ap (λ (us : List UnitStore). apply_all us s) (append-nil (take a (plan_units p)))
