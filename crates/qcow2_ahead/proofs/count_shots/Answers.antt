use native.Mathlib.Omega.{arith}
use Prim.Native.Nat.{ℕ, suc, ◌+◌, ◌-◌, ◌<◌}
use mathlib.Core.Path.{◌≡◌, ap, ◌∙◌}
use Rattle.qcow2_spec.specs.Header.{roots, root_size}
use Rattle.qcow2_spec.proofs.Facts.{facts, root-count, root-few}
use Rattle.qcow2_ahead.proofs.Sums.{ahead-sum}
use Rattle.qcow2_ahead.proofs.count_shots.Goals as goal
use Rattle.qcow2_ahead.proofs.count_shots.Goals.{After-saturating_sub-own, Start}

pub place_of-p-requires : goal.place_of-p-requires
place_of-p-requires c = (c.requires.0, omega (arith, c.requires.1))

pub size_at-requires : goal.size_at-requires
size_at-requires c = (c.requires, c.place_of-p.ensures)

pub next_place-requires : goal.next_place-requires
next_place-requires c = (c.requires, c.place_of-p.ensures)

pub count_from-requires : goal.count_from-requires
count_from-requires c =
    let p = c.requires in
    let e : suc c.args.k ≡ c.args.k + 1 = omega arith in
    ((p.0, omega (arith, p.1)), rw e at c.next_place.ensures)

-- its table is there
there : (c : Start) → suc c.args.k < roots c.args.image.now
there c = omega (arith, c.requires.1, root-count _ (facts _ c.requires.0.accepted))

-- what it has from i on
own : (c : After-saturating_sub-own) → c.saturating_sub-own.result ≡ root_size c.args.image.now (suc c.args.k) - c.args.i
own c = c.saturating_sub-own.ensures ∙ ap (λ (n : ℕ). n - c.args.i) c.size_at.ensures

pub overflow_add-result : goal.overflow_add-result
overflow_add-result c = omega (arith, own (goal.at.overflow_add-result c).After-saturating_sub-own, root-few _ (facts _ c.requires.0.accepted) _ (there (goal.at.overflow_add-result c).Start), c.count_from.ensures.1)

pub returns : goal.returns
returns c =
    let a = c.args in
    let e : a.k + 1 ≡ suc a.k = omega arith in
    omega (arith, own (goal.at.returns c).After-saturating_sub-own, rw e at c.count_from.ensures.0, ahead-sum a.image.now (suc a.k) a.i (there (goal.at.returns c).Start))
