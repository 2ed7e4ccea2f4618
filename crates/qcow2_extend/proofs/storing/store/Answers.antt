use native.Mathlib.Omega.{arith}
use native.Mathlib.Nat.{mul-le-mul}
use Prim.Native.Nat.{◌+◌, ◌-◌, ◌≤◌}
use Rattle.std.specs.Prelude.{Ok}
use Rattle.units.specs.Plan.{units, Done}
use Rattle.units.proofs.Steps.{stored}
use Rattle.qcow2_noted.specs.Noting.{unmade}
use Rattle.qcow2_extend.specs.Making.{made_where}
use Rattle.qcow2_clear.proofs.Clears.{within, clear_first}
use Rattle.qcow2_extend.proofs.Found.{seen_units, seen_length, seen_few, done_all, all-some}
use Rattle.qcow2_extend.proofs.storing.store.Goals as goal
use Rattle.qcow2_extend.proofs.storing.store.Goals.{After-end_of}

pub clear_field-left-requires : goal.clear_field-left-requires
clear_field-left-requires c = let p = c.requires.0 in (p.long, p.is-version)

pub make_all-requires : goal.make_all-requires
make_all-requires c =
    let p = c.requires in
    (rw c.clear_field-left.auto.image p.0.fits, (omega (arith, p.0.earlier, p.1.0.within), omega (arith, p.1.0.within, p.1.1)))

pub overflow_mul-n : goal.overflow_mul-n
overflow_mul-n c =
    let a = c.args in
    let p = c.requires in
    let m : a.n.missing ≤ 32768 = omega (arith, seen_few a.p _ _ _ _ _ p.1.0 p.0.earlier p.0.fits.owned, p.0.few) in
    let n : a.p.size + 1 ≤ 2097153 = omega (arith, p.0.fits.small) in
    omega (arith, mul-le-mul m n)

-- how the blocks alone end, within what the clearing unit left
blocks-done : (c : After-end_of) → Done (units (made_where c.args.p (unmade c.args.image.now c.args.p.table) c.args.start (c.args.p.blocks - c.args.start))) c.clear_field-left.result c.clear_field-left.new.image (Ok c.end_of.result) c.make_all.new.image
blocks-done c =
    let a = c.args in
    let p = c.requires in
    let w = p.1.0 in
    let e = p.0.earlier in
    let o = p.0.fits.owned in
    done_all a.p _ _ _ _ _ w e o _ _ _ _ (omega (arith, c.clear_field-left.ensures.0)) (stored _ _ _ _ _ _ (seen_length a.p _ _ _ _ _ w e o) c.end_of.ensures (rw (seen_units a.p _ _ _ _ _ w e) at c.make_all.ensures))

pub ended_after-requires : goal.ended_after-requires
ended_after-requires c = (omega (arith, c.clear_field-left.ensures.0), within _ _ _ _ _ (blocks-done (goal.at.ended_after-requires c).After-end_of))

pub returns : goal.returns
returns c =
    let a = c.args in
    let f = c.clear_field-left in
    let some = all-some a.p _ _ _ _ _ c.requires.1.0 c.requires.0.earlier c.requires.0.fits.owned c.requires.1.2 in
    rw c.ended_after.ensures (clear_first a.image.now a.allowance _ f.result f.new.image _ _ some f.ensures.0 f.ensures.1 (blocks-done (goal.at.returns c).After-end_of))
