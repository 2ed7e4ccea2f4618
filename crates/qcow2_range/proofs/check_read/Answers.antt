use native.Mathlib.Omega.{arith}
use Prim.Native.Nat.{◌^◌}
use Rattle.std.specs.Prelude.{Err}
use mathlib.Core.Path.{sym, ap, ◌∙◌}
use Rattle.qcow2_spec.specs.Causes.{answer}
use Rattle.qcow2_guest.proofs.Numbers.{touched-most, number_offset, number_range, number-ways, range_in}
use Rattle.qcow2_range.proofs.check_read.Goals as goal

pub returns-then-g-x : goal.returns-then-g-x
returns-then-g-x c = ap Err c.into.ensures ∙ sym (ap answer (number_offset c.args.g c.args.image.now c.requires c.args.x c.args.len (omega arith)))

pub returns-then-g-x-2 : goal.returns-then-g-x-2
returns-then-g-x-2 c = ap Err c.into-then-g-x-2.ensures ∙ sym (ap answer (number_range c.args.g c.args.image.now c.requires c.args.x c.args.len (omega arith) (omega arith)))

pub check_ways-requires : goal.check_ways-requires
check_ways-requires c =
    let a = c.args in
    let m = touched-most (2 ^ a.g.bits) a.x a.len in
    let i = range_in a.g a.image.now c.requires a.x a.len (omega arith) in
    (c.requires, rw (c.quotient.ensures.0, c.touched_count-count.ensures) (omega arith, i))

pub returns : goal.returns
returns c =
    c.check_ways.ensures
    ∙ rw (c.quotient.ensures.0, c.touched_count-count.ensures) (ap answer (sym (number-ways c.args.g c.args.image.now c.requires c.args.x c.args.len (omega arith) (omega arith))))
