use native.Mathlib.Omega.{arith}
use Rattle.std.specs.Prelude.{Err}
use mathlib.Core.Path.{sym, ap, ◌∙◌}
use Rattle.qcow2_found.proofs.Marked.{found_plain, found-empty, found-marked, found-refused}
use Rattle.qcow2_found.proofs.found.Goals as goal

pub overflow_add-result : goal.overflow_add-result
overflow_add-result c =
    omega (arith, c.bare_of.ensures.1, c.requires.1)

pub returns-then-is_plain : goal.returns-then-is_plain
returns-then-is_plain c =
    let a = c.args in
    rw c.bare_of.ensures.0 (sym (found_plain a.version a.bits a.n a.e a.o c.requires.0.0.0 c.requires.0.1.1 (sym c.is_plain.ensures ∙ c.if-is_plain.true)))

pub returns-then-e-eq0 : goal.returns-then-e-eq0
returns-then-e-eq0 c = sym (found-empty _ _ _ _ _ c.if-e-eq0.true)

pub returns-then-is_marked : goal.returns-then-is_marked
returns-then-is_marked c =
    let a = c.args in
    sym (found-marked a.version a.bits a.n a.e a.o c.requires.0.0.0 c.requires.0.1.1 (sym c.is_marked.ensures ∙ c.if-is_marked.true))

pub returns : goal.returns
returns c =
    ap Err (c.into.ensures ∙ c.refusal.ensures) ∙ sym (found-refused _ _ _ _ _ (sym c.is_plain.ensures ∙ c.if-is_plain.false) c.if-e-eq0.false (sym c.is_marked.ensures ∙ c.if-is_marked.false))
