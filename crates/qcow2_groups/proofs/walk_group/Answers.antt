use Rattle.std.proofs.Common.{◌*◌, ◌/◌, ◌^◌, length, sym, refl, ◌∙◌, arith, rules}
use Rattle.qcow2_groups.proofs.Walks.{zeros_passed}
use Rattle.packed.proofs.Parts.{part_of}
use Rattle.qcow2_groups.proofs.walk_group.Goals as goal

pub returns-then-all_zeros : goal.returns-then-all_zeros
returns-then-all_zeros c =
    let a = c.args in
    let T = a.table.now in
    let e = rw (part_of T (8 * a.i) 512 512 refl) at (sym c.all_zeros.ensures ∙ c.if-all_zeros.true) in
    (search rules, zeros_passed a.kind a.version (2 ^ a.bits) a.n (length T / 8) a.i T a.scratch.now 64 (omega (arith, c.requires.1)) (omega arith) e)

pub walk_each-requires : goal.walk_each-requires
walk_each-requires c = let p = c.requires in ((p.0.0, omega arith), p.1)

pub returns-then-kind-eq0 : goal.returns-then-kind-eq0
returns-then-kind-eq0 c = rw c.if-kind-eq0.true c.walk_each.ensures

pub walk_each-requires-2 : goal.walk_each-requires-2
walk_each-requires-2 c = c.requires

pub returns : goal.returns
returns c = c.walk_each-2.ensures
