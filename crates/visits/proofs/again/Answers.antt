use native.Mathlib.Omega.{arith}
use mathlib.Core.Path.{sym}
use Rattle.tally.proofs.Steps.{step_role, step-again, step-full, step-next}
use Rattle.visits.proofs.again.Goals as goal

pub returns-then-x-kind : goal.returns-then-x-kind
returns-then-x-kind c =
    let a = c.args in
    sym (step_role a.kind (λ e. omega (arith, c.requires.0, e)) a.x (λ e. omega (arith, c.requires.2, e)) c.if-x-kind.true)

pub returns-then-x-kind-2 : goal.returns-then-x-kind-2
returns-then-x-kind-2 c =
    let a = c.args in
    sym (step-again a.kind (λ e. omega (arith, c.requires.0, e)) a.x (λ e. omega (arith, c.requires.2, e)) c.if-x-kind.false c.if-x-kind-2.true)

pub returns-then-x-lt65024 : goal.returns-then-x-lt65024
returns-then-x-lt65024 c =
    let a = c.args in
    sym (step-next a.kind (λ e. omega (arith, c.requires.0, e)) a.x (λ e. omega (arith, c.requires.2, e)) c.if-x-kind.false c.if-x-kind-2.false c.if-x-lt65024.true)

pub returns : goal.returns
returns c =
    let a = c.args in
    sym (step-full a.kind (λ e. omega (arith, c.requires.0, e)) a.x (λ e. omega (arith, c.requires.2, e)) c.if-x-kind.false c.if-x-kind-2.false c.if-x-lt65024.false)
