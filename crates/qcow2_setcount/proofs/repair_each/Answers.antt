use native.Mathlib.Nat.{mul-le-mul_left}
use native.Mathlib.Omega.{arith}
use Prim.Native.Nat.{ℕ, ◌+◌, ◌-◌, ◌*◌, ◌^◌, ◌≤◌, ◌<◌}
use mathlib.Core.Path.{◌≡◌, refl, sym, ap, ◌∙◌}
use lib.ListN.{length, get_or}
use Rattle.packed_twos.specs.Twos.{many, figures_in}
use Rattle.packed_twos.proofs.Laws.{get_or-twos}
use Rattle.qcow2_counts.proofs.Sizes.{row_inside}
use Rattle.qcow2_setcount.specs.Fixed.{fixes}
use Rattle.qcow2_setcount.proofs.Fixes.{run-first, run-next, fixes-most}
use Rattle.qcow2_setcount.proofs.repair_each.Goals as goal
use Rattle.qcow2_setcount.proofs.repair_each.Goals.{In-loop-j}

pub loop-j-init : goal.loop-j-init
loop-j-init c = let a = c.args in (refl, run-first a.order a.image.now a.at (figures_in a.refs.now) a.n a.allowance)

inside : (c : In-loop-j) → c.loop-j.j ≤ many c.args.refs.now
inside c = omega arith

-- no place is past the image's end
room : (c : In-loop-j) → c.args.at + c.power-width.result * c.loop-j.j ≤ 8 * length c.args.image.now
room c =
    let w = 2 ^ c.args.order in
    let j = c.loop-j.j in
    let e : c.power-width.result * j ≡ w * j = ap (λ (x : ℕ). x * j) c.power-width.ensures.0 in
    omega (arith, mul-le-mul_left w (inside c), c.requires.0.fits)

pub overflow_mul-width : goal.overflow_mul-width
overflow_mul-width c = omega (arith, room (goal.at.overflow_mul-width c).In-loop-j, c.requires.1.0)

pub overflow_add-at : goal.overflow_add-at
overflow_add-at c = omega (arith, room (goal.at.overflow_add-at c).In-loop-j, c.requires.1.0)

pub repair_count-spent-requires : goal.repair_count-spent-requires
repair_count-spent-requires c =
    let a = c.args in (
      rw (c.power-width.ensures.0, c.loop-j.invariant.0) (row_inside c.requires.0 c.loop-j.j (omega arith)),
      omega (arith, c.loop-j.invariant.1.counted, fixes-most a.order a.image.now a.at (figures_in a.refs.now) c.loop-j.j, c.requires.1.1),
    )

pub loop-j-preserved : goal.loop-j-preserved
loop-j-preserved c =
    let a = c.args in
    let f = a.refs.now in
    let r = c.repair_count-spent in
    let w = c.load16-want in
    let l : c.loop-j.j < many f = omega arith in
    let v : w.result ≡ get_or (figures_in f) c.loop-j.j 0 = w.ensures ∙ sym (get_or-twos f (many f) c.loop-j.j l) in
    let e = rw c.power-width.ensures.0 at r.ensures in (
      omega arith,
      run-next a.order a.image.now a.at (figures_in f) c.requires.0 a.n a.allowance c.loop-j.j c.loop-j.spent c.loop-j.image w.result r.result r.new.image l v c.loop-j.invariant.1 e.0 e.1,
    )

pub returns : goal.returns
returns c =
    let a = c.args in
    let e : c.loop-j.j ≡ many a.refs.now = omega arith in
    let i = c.loop-j.invariant.1 in
    let s = a.image.now in
    let u : fixes a.order s a.at (figures_in a.refs.now) c.loop-j.j ≡ fixes a.order s a.at (figures_in a.refs.now) (many a.refs.now) = ap (fixes a.order s a.at (figures_in a.refs.now)) e in
    rw (← u) (i.counted, i.image)

pub power-width-requires : goal.power-width-requires
power-width-requires c = omega (arith, c.requires.0.few)
