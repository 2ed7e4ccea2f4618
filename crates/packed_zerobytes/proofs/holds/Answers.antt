use native.Mathlib.Omega.{arith}
use mathlib.Core.Path.{◌≡◌}
use Rattle.packed_zerobytes.proofs.Holding.{holds0, holds1, holds2, holds3}
use Rattle.packed_zerobytes.proofs.holds.Goals as goal

pub returns-in-0 : goal.returns-in-0
returns-in-0 c = rw c.in-0.is (holds0 c.args.x c.ranges.x.fits)

pub returns-in-1 : goal.returns-in-1
returns-in-1 c = rw c.in-1.is (holds1 c.args.x c.ranges.x.fits)

pub returns-in-2 : goal.returns-in-2
returns-in-2 c = rw c.in-2.is (holds2 c.args.x c.ranges.x.fits)

pub returns-in_default : goal.returns-in_default
returns-in_default c =
    let e : c.args.order ≡ 3 = omega arith in
    rw e (holds3 c.args.x c.ranges.x.fits)
