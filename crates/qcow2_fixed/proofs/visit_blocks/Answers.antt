use Prim.Native.Nat.{◌*◌, ◌^◌, ◌≤◌}
use mathlib.Core.Path.{sym, ◌∙◌}
use lib.ListN.{drop}
use Rattle.window.specs.Window.{board}
use Rattle.window.proofs.Steps.{visit_all_in_turn, visit_all_in_end}
use Rattle.qcow2_spec.specs.Header.{table, blocks, block_at, table_at}
use Rattle.qcow2_spec.specs.References.{named}
use Rattle.endian.proofs.Entries.{be64-drop, take-entries}
use Rattle.qcow2_fixed.proofs.visit_blocks.Goals as goal

pub loop-i-preserved : goal.loop-i-preserved
unfolding block_at
loop-i-preserved c =
    let t = c.loop-i in
    let a = c.args in
    let s = a.image.now in
    let k = visit_all_in_turn a.kind a.b (named (2 ^ a.g.bits)) a.g.blocks t.i (drop (table_at s) s) (board t.target t.least) c.loop-i-test.true in
    rw (c.visit_place-least.ensures, c.block_at-at.ensures.0, ← be64-drop s (table_at s) (8 * t.i)) (sym k ∙ t.invariant)

pub returns : goal.returns
unfolding table
returns c =
    let t = c.loop-i in
    let a = c.args in
    let o = c.requires.0 in
    let s = a.image.now in
    let k : blocks s ≤ _ = rw o.is-blocks at o.blocks_fit in
    rw (take-entries _ _ (drop (table_at s) s) k, ← o.is-blocks, ← o.is-cluster)
    (sym (visit_all_in_end a.kind a.b (named (2 ^ a.g.bits)) a.g.blocks t.i (drop (table_at s) s) (board t.target t.least) c.loop-i-test.false) ∙ t.invariant)
