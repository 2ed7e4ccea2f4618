use borrow.Author.Rules.{rules}
use native.Mathlib.Omega.{arith}
use Prim.Native.Nat.{◌*◌, ◌^◌}
use mathlib.Core.Path.{◌≡◌, refl, sym, ap, ◌∙◌}
use mathlib.Core.Bool.{true}
use lib.ListN.{take, drop}
use Rattle.choice.specs.Pick.{all}
use Rattle.blank.proofs.Zeros.{is_zero}
use Rattle.packed.proofs.Parts.{part_of}
use Rattle.qcow2_marks.proofs.Rights.{rights_zeros}
use Rattle.qcow2_marks.proofs.group_right.Goals as goal

pub returns-then-all_zeros : goal.returns-then-all_zeros
returns-then-all_zeros c =
    let a = c.args in
    let T = a.table.now in
    let e : all is_zero (take 512 (drop (8 * a.i) T)) ≡ true = sym (ap (all is_zero) (part_of T (8 * a.i) 512 512 refl)) ∙ sym c.all_zeros.ensures ∙ c.if-all_zeros.true in
    (search rules, rights_zeros (2 ^ a.bits) a.scratch.now T a.i 64 (omega (arith, c.requires.1)) e)

pub each_right-requires : goal.each_right-requires
each_right-requires c = c.requires

pub returns : goal.returns
returns c = c.each_right.ensures
