use native.Mathlib.Omega.{arith}
use Prim.Native.Nat.{◌+◌, ◌-◌}
use mathlib.Core.Path.{sym, ◌∙◌}
use Rattle.choice.proofs.Searches.{first-none}
use Rattle.qcow2_spec.specs.Counts.{free_at, free_from}
use Rattle.qcow2_counts.proofs.Sizes.{sizes}
use Rattle.qcow2_free.proofs.Counts.{part_hit, part_missed, eighth_fits}
use Rattle.qcow2_free.proofs.free_from.Goals as goal

pub returns-then-g-start : goal.returns-then-g-start
unfolding free_from
returns-then-g-start c =
    rw (← c.requires.is-clusters) (sym (first-none (free_at c.args.image.now) c.args.start c.args.g.clusters (omega (arith, c.if-g-start.true))))

pub eighth-up-requires : goal.eighth-up-requires
eighth-up-requires c =
    (omega (arith, c.if-g-start.false), (sizes c.args.g c.args.image.now c.requires).few)

pub free_below-f-requires : goal.free_below-f-requires
free_below-f-requires c =
    let g = c.args.g in
    let e = c.eighth-up.ensures in
    ((c.requires, omega (arith, c.if-g-start.false)), (e.0.0, eighth_fits (g.bits + 3 - g.order) (omega (arith, c.requires.low, c.requires.narrow)) c.args.start c.eighth-up.result e.1.0))

pub returns-then-f-up : goal.returns-then-f-up
unfolding free_from
returns-then-f-up c =
    let e = c.eighth-up in
    let f = c.free_below-f in
    rw (← c.requires.is-clusters) (part_hit (free_at c.args.image.now) c.args.start e.result c.args.g.clusters f.result e.ensures.0.0 e.ensures.0.1 f.ensures (omega (arith, c.if-f-up.true, e.ensures.0.0)))

pub returns : goal.returns
unfolding free_from
returns c =
    let e = c.eighth-up in
    let f = c.free_below-f in
    rw (← c.requires.is-clusters) (c.free_on.ensures ∙ sym (part_missed (free_at c.args.image.now) c.args.start e.result c.args.g.clusters f.result e.ensures.0.0 e.ensures.0.1 f.ensures (omega (arith, c.if-f-up.false))))

pub free_on-requires : goal.free_on-requires
free_on-requires c = let e = c.eighth-up.ensures in (c.requires, (e.0.1, e.1.1))
