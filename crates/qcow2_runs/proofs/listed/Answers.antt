use Rattle.std.specs.Prelude.{Err}
use native.Mathlib.Omega.{arith}
use Prim.Native.Nat.{◌+◌}
use mathlib.Core.Path.{sym, ap, ◌∙◌}
use borrow.Author.Tests.{ltb-false}
use Rattle.qcow2_runs.proofs.Listing.{past-refused, runs-listed}
use Rattle.qcow2_runs.proofs.listed.Goals as goal

pub returns-then-past : goal.returns-then-past
returns-then-past c =
    let a = c.args in
    let p = past-refused a.g a.image.now c.requires a.x a.len (sym c.past.ensures ∙ c.if-past.true) a.rows.now in
    (ap Err c.into.ensures ∙ p.0, p.1)

pub store_runs-requires : goal.store_runs-requires
store_runs-requires c =
    (c.requires, omega (arith, c.requires.is-size, ltb-false c.args.g.size (c.args.x + c.args.len) (sym c.past.ensures ∙ c.if-past.false)))

pub returns : goal.returns
returns c =
    let a = c.args in
    let n = c.store_runs in
    runs-listed a.g a.image.now c.requires a.x a.len (sym c.past.ensures ∙ c.if-past.false) a.rows.now n.result n.ensures.0 _ n.ensures.1
