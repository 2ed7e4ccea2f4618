use native.Mathlib.Omega.{arith}
use mathlib.Core.Path.{◌≡◌}
use Rattle.qcow2_counts.specs.Blocks.{per_of}
use Rattle.qcow2_counts.proofs.run_of.Goals as goal

pub overflow_sub-left : goal.overflow_sub-left
overflow_sub-left c =
    let e : c.per_block-per.result ≡ per_of c.args.g = c.per_block-per.ensures in
    omega (arith, e, c.index_of.ensures.1)

pub returns : goal.returns
returns c =
    let e : c.per_block-per.result ≡ per_of c.args.g = c.per_block-per.ensures in
    let i = c.index_of.ensures in
    ((omega (arith, e, i.0, i.1, c.min.ensures), omega (arith, e, i.0, i.1, c.min.ensures)), omega (arith, e, i.0, i.1, c.min.ensures))
