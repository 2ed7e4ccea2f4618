use borrow.Author.Tests.{lt-ltb, le-ltb, ltb-true}
use native.Mathlib.Omega.{arith}
use Prim.Native.Nat.{◌^◌, ◌≤◌, ◌<◌}
use mathlib.Core.Path.{sym, ◌∙◌}
use lib.ListN.{length}
use Rattle.qcow2_spec.specs.Header.{entry_end}
use Rattle.qcow2_snapshots.specs.Entry.{bad_entry}
use Rattle.qcow2_snapshots.proofs.Laws.{entry_past}
use Rattle.qcow2_snapshots.proofs.entry.bad_entry.Goals as goal

pub returns-then-past : goal.returns-then-past
returns-then-past c =
    let a = c.args in
    entry_past (2 ^ a.bits) a.image.now a.at (ltb-true _ _ (sym c.past.ensures ∙ c.if-past.true))

pub returns-then-image-entry_end : goal.returns-then-image-entry_end
unfolding bad_entry
returns-then-image-entry_end c =
    let a = c.args in
    let s = a.image.now in
    let h : length s < entry_end s a.at = omega (arith, c.entry_end.ensures) in
    rw (lt-ltb (length s) (entry_end s a.at) h)

pub returns : goal.returns
unfolding bad_entry
returns c =
    let a = c.args in
    let s = a.image.now in
    let h : entry_end s a.at ≤ length s = omega (arith, c.entry_end.ensures) in
    rw (le-ltb (length s) (entry_end s a.at) h) c.bad_root.ensures
