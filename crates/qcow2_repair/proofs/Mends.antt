-- What a repair does by the verdict is the plan of the definition. Assumes nothing.
use Rattle.std.specs.Prelude.{Result, Ok, Err}
use Prim.Native.Nat.{ℕ}
use native.Mathlib.Omega.{arith}
use mathlib.Core.Path.{◌≡◌, refl, sym, ap, subst, ◌∙◌}
use mathlib.Core.List.{List}
use Rattle.qcow2_spec.specs.Causes.{number, cause_of}
use Rattle.qcow2_spec.specs.Check.{verdict, verdict_plan}
use Rattle.qcow2_spec.specs.Opened.{Opened}
use Rattle.qcow2_spec.specs.Series.{Bytes}
use Rattle.qcow2_spec.specs.declared.Geometry.{Geometry}
use Rattle.qcow2_spec.specs.declared.Verdict.{Verdict}
use Rattle.qcow2_spec.specs.declared.Verdict.TheVariants.{Sound, Leaks, BadL1, BadL2, Shared, Short, MarkL1, MarkL2, Refused}
use Rattle.qcow2_repair.specs.Leaks.{Figured, Leaking}
use Rattle.qcow2_repair.specs.Mends.{mending_of, mend_plan}
use Rattle.qcow2_repair.specs.declared.Mending.{Mending}
use Rattle.qcow2_repair.specs.declared.Mending.TheVariants.{Counts}
use Rattle.qcow2_repair.proofs.Real.{unrefused}
use Rattle.qcow2_repair.proofs.Repairs.{leaking}

plan_is : (s : List ℕ) (v : Verdict) → verdict_plan s v ≡ mend_plan s (mending_of v)
unfolding mending_of verdict_plan
plan_is s Sound = refl
plan_is s (Leaks m) = refl
plan_is s (BadL1 t i) = refl
plan_is s (BadL2 t i j) = refl
plan_is s (Shared k) = refl
plan_is s (Short k) = refl
plan_is s (MarkL1 i) = refl
plan_is s (MarkL2 i j) = refl
plan_is s (Refused k) = refl

-- of the code's m, which is n
pub plan_mends : (s : List ℕ) (v : Verdict) (m n : Result Mending ℕ) → m ≡ mending_of v → m ≡ n → verdict_plan s v ≡ mend_plan s n
plan_mends s v m n e f = plan_is s v ∙ ap (mend_plan s) (sym e ∙ f)

-- a number that has a cause is that of its cause
damaged : (k : ℕ) → ◌≡◌ {A = Result Mending ℕ} (Err 17) (Err k) → number (cause_of k) ≡ k
damaged k e = let z : 17 ≡ k = cc in subst (λ (n : ℕ). number (cause_of n) ≡ n) z refl

-- the code's m of an image's verdict is refused for a cause
pub told : (s : List ℕ) (v : Verdict) (m : Result Mending ℕ) (k : ℕ) → v ≡ verdict s → m ≡ mending_of v → m ≡ Err k → number (cause_of k) ≡ k
unfolding mending_of
told s Sound m k q e f = absurd (let z : ◌≡◌ {A = ℕ} 0 1 = cc in omega arith)
told s (Leaks n) m k q e f = absurd (let z : ◌≡◌ {A = ℕ} 0 1 = cc in omega arith)
told s (BadL1 t i) m k q e f = damaged k (sym e ∙ f)
told s (BadL2 t i j) m k q e f = damaged k (sym e ∙ f)
told s (Shared n) m k q e f = damaged k (sym e ∙ f)
told s (Short n) m k q e f = damaged k (sym e ∙ f)
told s (MarkL1 i) m k q e f = damaged k (sym e ∙ f)
told s (MarkL2 i j) m k q e f = damaged k (sym e ∙ f)
told s (Refused n) m k q e f = absurd (unrefused s n (sym q))

-- counts are set where the image leaks
counts-leak : (v : Verdict) (m : Result Mending ℕ) → m ≡ mending_of v → m ≡ Ok Counts → (k : ℕ) × (v ≡ Leaks k)
unfolding mending_of
counts-leak Sound m e f = absurd (let z : ◌≡◌ {A = ℕ} 0 1 = cc in omega arith)
counts-leak (Leaks k) m e f = (k, refl)
counts-leak (BadL1 t i) m e f = absurd (let z : ◌≡◌ {A = ℕ} 0 1 = cc in omega arith)
counts-leak (BadL2 t i j) m e f = absurd (let z : ◌≡◌ {A = ℕ} 0 1 = cc in omega arith)
counts-leak (Shared k) m e f = absurd (let z : ◌≡◌ {A = ℕ} 0 1 = cc in omega arith)
counts-leak (Short k) m e f = absurd (let z : ◌≡◌ {A = ℕ} 0 1 = cc in omega arith)
counts-leak (MarkL1 i) m e f = absurd (let z : ◌≡◌ {A = ℕ} 0 1 = cc in omega arith)
counts-leak (MarkL2 i j) m e f = absurd (let z : ◌≡◌ {A = ℕ} 0 1 = cc in omega arith)
counts-leak (Refused k) m e f = absurd (let z : ◌≡◌ {A = ℕ} 0 1 = cc in omega arith)

pub counts_leaking : (g : Geometry) (s refs : List ℕ) (v : Verdict) (m : Result Mending ℕ) → Bytes s → Opened g s → Figured s refs → v ≡ verdict s → m ≡ mending_of v → m ≡ Ok Counts → Leaking g s refs
counts_leaking g s refs v m by o f q e h = let k = counts-leak v m e h in leaking g s refs k.0 by o f (sym q ∙ k.1)
