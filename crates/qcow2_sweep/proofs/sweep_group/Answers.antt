use Rattle.std.proofs.Common.{◌≡◌, ◌*◌, ◌^◌, true, take, drop, sym, refl, ap, ◌∙◌, arith}
use Rattle.choice.specs.Pick.{all}
use Rattle.blank.proofs.Zeros.{is_zero}
use Rattle.window.specs.Window.{board}
use Rattle.packed.proofs.Parts.{part_of}
use Rattle.qcow2_sweep.proofs.Tables.{group-zeros}
use Rattle.qcow2_sweep.proofs.sweep_group.Goals as goal

pub returns-then-all_zeros : goal.returns-then-all_zeros
returns-then-all_zeros c =
    let a = c.args in
    let T = a.table.now in
    let e : all is_zero (take 512 (drop (8 * a.i) T)) ≡ true = ap (all is_zero) (sym (part_of T (8 * a.i) 512 512 refl)) ∙ sym c.all_zeros.ensures ∙ c.if-all_zeros.true in
    let z = group-zeros a.kind a.version (2 ^ a.bits) a.n T a.i c.requires.1 e in
    (z.0, z.1 a.b (board a.target.now a.low))

pub sweep_each-requires : goal.sweep_each-requires
sweep_each-requires c = let p = c.requires in ((p.0.0, omega arith), p.1)

pub returns-then-kind-eq-BITS : goal.returns-then-kind-eq-BITS
returns-then-kind-eq-BITS c = rw c.if-kind-eq-BITS.true c.sweep_each.ensures

pub sweep_each-requires-then-b-eq0 : goal.sweep_each-requires-then-b-eq0
sweep_each-requires-then-b-eq0 c = let p = c.requires in ((p.0.0, omega arith), p.1)

pub returns-then-b-eq0 : goal.returns-then-b-eq0
returns-then-b-eq0 c = rw (c.if-kind-eq0.true, c.if-b-eq0.true) c.sweep_each-then-b-eq0.ensures

pub sweep_each-requires-2 : goal.sweep_each-requires-2
sweep_each-requires-2 c = c.requires

pub returns : goal.returns
returns c = c.sweep_each-2.ensures
