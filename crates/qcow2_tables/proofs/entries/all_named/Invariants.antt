use Prim.Native.Nat.{◌-◌, ◌*◌, ◌^◌}
use mathlib.Core.Path.{◌≡◌}
use lib.ListN.{drop}
use Rattle.choice.specs.Pick.{all}
use Rattle.endian.specs.Big.{entries}
use Rattle.qcow2_spec.specs.Header.{good_block}
use Rattle.qcow2_tables.proofs.entries.all_named.Given as goal

abbrev pub invariant-loop-i : goal.invariant-loop-i
invariant-loop-i l =
    all (good_block (2 ^ l.bits) l.n) (entries (l.count - l.i) (drop (8 * l.i) l.table)) ≡ all (good_block (2 ^ l.bits) l.n) (entries l.count l.table)
