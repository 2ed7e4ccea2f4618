use Rattle.std.proofs.Common.{◌/◌, ◌^◌, length, arith, rules}
use Rattle.qcow2_groups.proofs.Walks.{all-good-next}
use Rattle.qcow2_groups.proofs.Passes.{stepped_yes, stepped_no}
use Rattle.qcow2_groups.proofs.walk_each.Goals as goal

pub loop-j-preserved : goal.loop-j-preserved
loop-j-preserved c =
    let a = c.args in
    let T = a.table.now in
    let r = stepped_yes a.kind a.version (2 ^ a.bits) a.n c.load64-e.result c.loop-j.scratch c.walk_entry.ensures c.if-not-walk_entry.false in
    all-good-next (length T / 8) c.loop-j.j T c.loop-j.invariant (omega (arith, c.loop-j-test.true, c.requires.1)) (rw (← c.load64-e.ensures) r.1) (rw (← c.load64-e.ensures) r.0)

pub returns-then-not-walk_entry : goal.returns-then-not-walk_entry
returns-then-not-walk_entry c =
    let a = c.args in
    let r = stepped_no a.kind a.version (2 ^ a.bits) a.n c.load64-e.result c.loop-j.scratch c.walk_entry.ensures c.if-not-walk_entry.true in
    (search rules, rw r.1 c.loop-j.invariant)
