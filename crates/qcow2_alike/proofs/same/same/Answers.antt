use mathlib.Core.Path.{◌≡◌, sym, ◌∙◌}
use borrow.Author.Tests.{eq-eqb, ne_eqb}
use Rattle.qcow2_spec.specs.Runs.{found_kind, same_found}
use Rattle.qcow2_alike.proofs.same.same.Goals as goal

pub returns-then-kind : goal.returns-then-kind
unfolding same_found
returns-then-kind c =
    let a = c.args in
    rw (ne_eqb (found_kind a.e.now) (found_kind a.f.now) (λ z. c.if-kind.true (c.kind.ensures ∙ z ∙ sym c.kind-2.ensures)))

pub returns : goal.returns
unfolding same_found
returns c =
    let a = c.args in
    let k : found_kind a.e.now ≡ found_kind a.f.now = sym c.kind.ensures ∙ c.if-kind.false ∙ c.kind-2.ensures in
    rw (eq-eqb (found_kind a.e.now) (found_kind a.f.now) k, c.number.ensures, c.number-2.ensures)
