use native.Mathlib.Omega.{arith}
use Prim.Native.Nat.{◌-◌}
use mathlib.Core.Path.{◌≡◌}
use Rattle.qcow2_noted.specs.Noting.{unmade}
use Rattle.qcow2_extend.specs.Making.{Ready, made_where}
use Rattle.qcow2_extend.proofs.Makes.{made_from}
use Rattle.qcow2_extend.proofs.storing.take_in.Goals as goal
use Rattle.qcow2_extend.proofs.storing.take_in.Goals.{After-skip-start}

-- the blocks from where it was stopped on are ready too
ready : (c : After-skip-start) → Ready c.args.image.now c.args.p c.args.version c.skip-start.result
ready c =
    let p = c.requires in
    record { fits = p.fits; long = p.long; is-version = p.is-version; earlier = c.skip-start.ensures.0; few = p.few }

-- and nothing before them is to be made
same : (c : After-skip-start) → made_where c.args.p (unmade c.args.image.now c.args.p.table) c.args.from (c.args.p.blocks - c.args.from) ≡ made_where c.args.p (unmade c.args.image.now c.args.p.table) c.skip-start.result (c.args.p.blocks - c.skip-start.result)
same c = let a = c.args in made_from a.p (unmade a.image.now a.p.table) a.from c.skip-start.result a.p.blocks c.requires.earlier c.skip-start.ensures.0 c.skip-start.ensures.1

pub skip-start-requires : goal.skip-start-requires
skip-start-requires c = let p = c.requires in ((p.fits.entered, omega (arith, p.fits.short)), p.earlier)

pub make_from-requires : goal.make_from-requires
make_from-requires c = (ready (goal.at.make_from-requires c).After-skip-start, omega (arith, c.room-few.ensures))

pub make_from-requires-2 : goal.make_from-requires-2
make_from-requires-2 c = (ready (goal.at.make_from-requires-2 c).After-skip-start, omega (arith, c.requires.few, c.room-marks.ensures))

pub returns-then-p-start-le-FEW_MARKS : goal.returns-then-p-start-le-FEW_MARKS
returns-then-p-start-le-FEW_MARKS c = rw (same (goal.at.returns-then-p-start-le-FEW_MARKS c).After-skip-start) c.make_from.ensures

pub returns : goal.returns
returns c = rw (same (goal.at.returns c).After-skip-start) c.make_from-2.ensures
