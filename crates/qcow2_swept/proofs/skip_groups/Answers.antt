use native.Mathlib.Nat.{add-zero}
use native.Mathlib.Omega.{arith}
use Prim.Native.Nat.{◌-◌, ◌+◌, ◌*◌, ◌/◌}
use mathlib.Core.Path.{◌≡◌, refl, sym, ap, ◌∙◌}
use mathlib.Core.Bool.{true}
use lib.ListN.{take, drop}
use Rattle.choice.specs.Pick.{all}
use Rattle.blank.proofs.Zeros.{is_zero}
use Rattle.packed.proofs.Parts.{part_of}
use Rattle.qcow2_swept.proofs.Blanks.{blank_none, blank_group}
use Rattle.qcow2_swept.proofs.skip_groups.Goals as goal

pub loop-d-init : goal.loop-d-init
loop-d-init c = rw add-zero (blank_none c.args.image.now c.args.at c.args.i)

pub returns-then-not-all_zeros : goal.returns-then-not-all_zeros
returns-then-not-all_zeros c = (c.loop-d.invariant, omega arith)

pub loop-d-preserved : goal.loop-d-preserved
loop-d-preserved c =
    let a = c.args in
    let s = a.image.now in
    let j = a.i + 64 * c.loop-d.d in
    let z : all is_zero (take 512 (drop (a.at + 8 * j) s)) ≡ true = ap (all is_zero) (sym (part_of s (a.at + 8 * j) 512 512 refl)) ∙ sym c.all_zeros.ensures ∙ c.if-not-all_zeros.false in
    let next : a.i + 64 * (c.loop-d.d + 1) ≡ j + 64 = omega arith in
    rw next (blank_group s a.at a.i j c.loop-d.invariant (omega arith) z)

pub returns : goal.returns
returns c =
    let e : c.loop-d.d ≡ (c.args.to - c.args.i) / 64 = omega arith in
    (rw e at c.loop-d.invariant, omega arith)
