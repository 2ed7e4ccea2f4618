use Prim.Native.Nat.{◌-◌, ◌*◌, ◌^◌}
use mathlib.Core.Path.{◌≡◌}
use lib.ListN.{drop}
use Rattle.endian.specs.Big.{entries}
use Rattle.tally.specs.Tally.{joined}
use Rattle.window.specs.Window.{board, visit_all_in}
use Rattle.qcow2_spec.specs.Header.{table_at}
use Rattle.qcow2_spec.specs.References.{named}
use Rattle.qcow2_fixed.proofs.visit_blocks.Given as goal

abbrev pub invariant-loop-i : goal.invariant-loop-i
invariant-loop-i l =
    visit_all_in l.kind l.b (joined (named (2 ^ l.g.bits)) (entries (l.g.blocks - l.i) (drop (8 * l.i) (drop (table_at l.image) l.image)))) (board l.target l.least)
    ≡ visit_all_in l.kind l.b (joined (named (2 ^ l.g.bits)) (entries l.g.blocks (drop (table_at l.image) l.image))) (board l.initial.target l.low)
