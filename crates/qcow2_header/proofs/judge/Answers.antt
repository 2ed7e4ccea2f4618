use borrow.Author.Tests.{ltb-false}
use mathlib.Core.Path.{sym, ◌∙◌}
use Rattle.qcow2_header.specs.Chain.{from1}
use Rattle.qcow2_header.proofs.Chain.{chain}
use Rattle.qcow2_header.proofs.judge.Goals as goal

pub returns-then-too_short : goal.returns-then-too_short
unfolding from1
returns-then-too_short c = rw (chain, ← c.too_short.ensures, c.if-too_short.true) cc

pub returns : goal.returns
unfolding from1
returns c = rw (chain, ← c.too_short.ensures, c.if-too_short.false) c.judge_magic.ensures

pub judge_magic-requires : goal.judge_magic-requires
judge_magic-requires c = ltb-false _ _ (sym c.too_short.ensures ∙ c.if-too_short.false)
