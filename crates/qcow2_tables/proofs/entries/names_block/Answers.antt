use borrow.Author.Tests.{eq-eqb}
use native.Mathlib.Omega.{arith}
use Prim.Native.Nat.{ℕ, ◌^◌}
use mathlib.Core.Path.{ap, ◌∙◌}
use lib.Dec.{eqb}
use Rattle.qcow2_spec.specs.Header.{good_block}
use Rattle.qcow2_tables.proofs.Laws.{block_by, block_past}
use Rattle.qcow2_tables.proofs.entries.names_block.Goals as goal

pub returns-then-e-eq0 : goal.returns-then-e-eq0
unfolding good_block
returns-then-e-eq0 c = rw (eq-eqb _ 0 c.if-e-eq0.true)

pub returns-then-e-n : goal.returns-then-e-n
returns-then-e-n c =
    let a = c.args in
    block_past a.e a.n (2 ^ a.bits) c.if-e-eq0.false (omega arith)

pub returns : goal.returns
returns c =
    let a = c.args in
    ap (λ (x : ℕ). eqb x 0) c.rest.ensures.0
    ∙ block_by a.e a.n a.bits (omega arith) c.if-e-eq0.false (omega arith)
