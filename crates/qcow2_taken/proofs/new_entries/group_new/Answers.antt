use native.Mathlib.Omega.{arith}
use Prim.Native.Nat.{◌+◌, ◌-◌, ◌*◌}
use mathlib.Core.Path.{◌≡◌, sym, ◌∙◌}
use mathlib.Core.Bool.{true}
use lib.ListN.{drop, length-drop}
use Rattle.choice.specs.Pick.{all}
use Rattle.endian.specs.Big.{entries}
use Rattle.blank.proofs.Zeros.{is_zero, entries-zeros}
use Rattle.qcow2_taken.proofs.Runs.{zeros_new}
use Rattle.qcow2_taken.proofs.new_entries.group_new.Goals as goal

pub returns-then-all_zeros : goal.returns-then-all_zeros
returns-then-all_zeros c =
    let a = c.args in
    let d : 8 * a.i + 512 - 8 * a.i ≡ 512 = omega arith in
    let z = entries-zeros 64 (drop (8 * a.i) a.table.now) (simp length-drop (omega (arith, c.requires.0))) in
    let h : all is_zero (entries 64 (drop (8 * a.i) a.table.now)) ≡ true = sym z ∙ (rw d at (sym c.all_zeros.ensures ∙ c.if-all_zeros.true)) in
    sym (zeros_new a.table.now a.span a.i 64 h)

pub returns : goal.returns
returns c =
    let d : c.args.i + 64 - c.args.i ≡ 64 = omega arith in
    rw d at c.each_new.ensures
