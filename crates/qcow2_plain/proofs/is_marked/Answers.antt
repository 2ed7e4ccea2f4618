use Rattle.std.proofs.Common.{◌≡◌, ℕ, zero, suc, ◌-◌, ◌^◌, ◌<◌, ◌||◌, eqb, refl, arith, eq-eqb, ne_eqb}
use Rattle.qcow2_plain.specs.Plain.{bare, plain, marked}
use Rattle.qcow2_plain.proofs.is_marked.Goals as goal

pub returns-then-version-ne3 : goal.returns-then-version-ne3
unfolding marked
returns-then-version-ne3 c = rw (ne_eqb c.args.version 3 c.if-version-ne3.true)

pub returns-then-e-lt2 : goal.returns-then-e-lt2
unfolding marked plain bare
returns-then-e-lt2 c = rw (eq-eqb c.args.version 3 c.if-version-ne3.false) (go c.args.e c.if-e-lt2.true)
  where
    go : (e : ℕ) → e < 2 → eqb e 1 ≡ (eqb e 1 || plain (2 ^ c.args.bits) c.args.n (e - 1))
    go zero h = refl
    go (suc zero) h = refl
    go (suc (suc e)) h = absurd (omega arith)

pub returns : goal.returns
unfolding marked
returns c =
    let a = c.args in
    rw (eq-eqb a.version 3 c.if-version-ne3.false, ne_eqb a.e 1 (λ z. omega (arith, z, c.if-e-lt2.false))) c.is_plain.ensures
