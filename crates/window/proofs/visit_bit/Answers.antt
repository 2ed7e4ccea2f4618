use native.Mathlib.Omega.{arith}
use native.Mathlib.Nat.{mod-one}
use Rattle.window.proofs.Steps.{bit-outside, bit-again, bit-first}
use Rattle.window.proofs.visit_bit.Goals as goal

pub returns-then-target-j : goal.returns-then-target-j
returns-then-target-j c = let a = c.args in bit-outside a.target.now a.low a.j a.c c.if-target-j.true

pub load-requires : goal.load-requires
load-requires c = record { few = omega arith; aligned = mod-one _; fits = omega arith }

pub returns-then-load-eq1 : goal.returns-then-load-eq1
returns-then-load-eq1 c =
    let a = c.args in
    bit-again a.target.now a.low a.j a.c _ _ c.if-target-j.false c.load.ensures c.if-load-eq1.true c.min.ensures

pub store-requires : goal.store-requires
store-requires c = record { few = omega arith; aligned = mod-one _; fits = omega arith }

pub returns : goal.returns
returns c =
    let a = c.args in
    bit-first a.target.now a.low a.j a.c _ _ c.if-target-j.false c.load.ensures c.if-load-eq1.false c.store.ensures
