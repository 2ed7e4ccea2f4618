use Rattle.std.proofs.Common.{arith, ◌≡◌, ◌+◌, ◌-◌, ◌*◌, ◌^◌, length}
use Rattle.packed.specs.Lanes.{lanes, bytes_at}
use Rattle.packed_lanes.proofs.Lanes.{Lanes, numbers-most, figures-most, lanes_start, lanes_low, lanes_end, over-low, lanes_next}
use Rattle.packed_lanes.proofs.group.Goals as goal
use Rattle.packed_lanes.proofs.group.Goals.{After-turned-f, After-above-in-loop-b}

pub loop-b-init : goal.loop-b-init
loop-b-init g c =
    let s = lanes_start g.W.Word.order c.args.block.now c.args.figures.now in
    (rw c.none-over.ensures s.0, rw c.none-under.ensures s.1)

-- the figures of a byte
figures : (g : _) (c : After-turned-f g) → g.W.Word.value c.turned-f.result ≡ lanes (2 ^ (3 - g.W.Word.order)) (bytes_at c.args.figures.now (2 ^ (3 - g.W.Word.order) * c.loop-b.b))
figures g c =
    let w = g.met.W.Word.whole in
    rw (c.LANES.ensures, w) at c.turned-f.ensures

pub above-requires : goal.above-requires
above-requires g c =
    let o = g.W.Word.order in
    let h = g.met.W.Word.narrow in
    let B = c.args.block.now in
    let F = c.args.figures.now in
    (rw c.spread-s.ensures (numbers-most o h B F c.requires.1 c.loop-b.b), rw (figures g (goal.at.above-requires g c).After-turned-f) (figures-most o h B F c.requires.1 c.loop-b.b))

pub plus-over-requires : goal.plus-over-requires
plus-over-requires g c =
    over-low g.W.Word.order g.met.W.Word.narrow c.args.block.now c.args.figures.now c.requires.1 c.loop-b.b _ _ _ _ _ 0 c.loop-b.invariant c.spread-s.ensures (figures g (goal.at.plus-over-requires g c).After-turned-f) c.above.ensures (omega (arith, c.requires.0.0))

pub above-requires-in-loop-b : goal.above-requires-in-loop-b
above-requires-in-loop-b g c =
    let o = g.W.Word.order in
    let h = g.met.W.Word.narrow in
    let B = c.args.block.now in
    let F = c.args.figures.now in
    (rw (figures g (goal.at.above-requires-in-loop-b g c).After-turned-f) (figures-most o h B F c.requires.1 c.loop-b.b), rw c.spread-s.ensures (numbers-most o h B F c.requires.1 c.loop-b.b))

next : (g : _) (c : After-above-in-loop-b g) →
    Lanes g.W.Word.order c.args.block.now c.args.figures.now (c.loop-b.b + 1) (g.W.Word.value c.loop-b.over + g.W.Word.value c.above.result) (g.W.Word.value c.loop-b.under + g.W.Word.value c.above-in-loop-b.result)
next g c =
    let w = g.met.W.Word.whole in
    let f = rw (c.LANES.ensures, w) at c.turned-f.ensures in
    lanes_next g.W.Word.order g.met.W.Word.narrow c.args.block.now c.args.figures.now c.requires.1 c.loop-b.b _ _ _ _ _ _ c.loop-b.invariant c.spread-s.ensures f c.above.ensures c.above-in-loop-b.ensures

pub plus-under-requires : goal.plus-under-requires
plus-under-requires g c =
    (lanes_low g.W.Word.order c.args.block.now c.args.figures.now (c.loop-b.b + 1) (omega (arith, c.requires.0.0)) _ _ (next g (goal.at.plus-under-requires g c).After-above-in-loop-b)).1

pub loop-b-preserved : goal.loop-b-preserved
loop-b-preserved g c =
    let n = next g (goal.at.loop-b-preserved g c).After-above-in-loop-b in
    (rw c.plus-over.ensures n.0, rw c.plus-under.ensures n.1)

pub returns : goal.returns
returns g c =
    let B = c.args.block.now in
    let e : c.loop-b.b ≡ length B = omega arith in
    rw (c.sum.ensures.0, c.sum-low.ensures.0) (lanes_end g.W.Word.order B c.args.figures.now (length B) c.requires.0.0 _ _ (rw e at c.loop-b.invariant) c.requires.0.1)
