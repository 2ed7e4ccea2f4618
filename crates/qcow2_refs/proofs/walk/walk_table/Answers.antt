use Prim.Native.Nat.{◌/◌}
use mathlib.Core.Path.{◌∙◌}
use mathlib.Core.Bool.{◌&&◌}
use lib.Dec.{eqb}
use lib.ListN.{length}
use Rattle.qcow2_groups.proofs.Walks.{room-kept, walking_next, walking_last, front-few, walked_whole}
use Rattle.qcow2_refs.proofs.walk.walk_table.Goals as goal

pub walk_any-requires : goal.walk_any-requires
walk_any-requires c =
    let p = c.requires in
    (room-kept (c.loop-j.auto.scratch ∙ c.walk_good-good.auto.scratch) p.0, p.1)

pub loop-j-preserved : goal.loop-j-preserved
loop-j-preserved c =
    let T = c.args.table.now in
    let r = c.walk_any.ensures in
    let i = c.loop-j.invariant in
    (rw c.front-r.ensures (front-few (eqb c.loop-j.r c.loop-j.j && c.walk_any.result) c.loop-j.r c.loop-j.j i.0), walking_next (length T / 8) c.loop-j.r c.loop-j.j T i.1 c.loop-j-test.true i.0 (rw (← c.load64-e.ensures) r.1) (rw (← c.load64-e.ensures, ← r.0) c.front-r.ensures))

pub returns : goal.returns
returns c =
    let w = c.walk_good-good.ensures.1 in
    let T = c.args.table.now in
    walked_whole T w (walking_last (length T / 8) c.loop-j.r c.loop-j.j T c.loop-j.invariant.1 c.loop-j-test.false)
