use native.Mathlib.Omega.{arith}
use Prim.Native.Nat.{◌^◌, ◌≤◌}
use mathlib.Core.Path.{◌≡◌, sym, ◌∙◌}
use mathlib.Core.Bool.{false, ◌||◌}
use lib.Dec.{ltb}
use lib.ListN.{length}
use borrow.Author.Tests.{ltb-false}
use Rattle.choice.proofs.Tests.{or-false}
use Rattle.qcow2_spec.specs.Header.{least_length}
use Rattle.qcow2_taken.specs.Taking.{bad_length}
use Rattle.qcow2_taken.proofs.Spans.{old_blocks_lem, old_fewer}
use Rattle.qcow2_taken.proofs.Rules.{longer-is}
use Rattle.qcow2_taken.proofs.check_longer.Goals as goal
use Rattle.qcow2_taken.proofs.check_longer.Goals.{Else-bad_old}

-- the old length is no longer than the image
shorter : (c : Else-bad_old) → c.args.old ≤ length c.args.image.now
unfolding bad_length
shorter c =
    let a = c.args in
    let e : bad_length (2 ^ a.g.bits) (length a.image.now) a.old ≡ false = sym c.bad_old.ensures ∙ c.if-bad_old.false in
    ltb-false _ _ (or-false (ltb a.old least_length) _ (or-false (ltb a.old least_length || ltb (length a.image.now) a.old) _ e).0).1

pub returns-then-bad_old : goal.returns-then-bad_old
returns-then-bad_old c = rw (longer-is _ _ c.requires, ← c.bad_old.ensures, c.if-bad_old.true) cc

pub block_count-from-requires : goal.block_count-from-requires
block_count-from-requires c =
    let p = c.requires in
    ((omega (arith, p.narrow, p.placed.read.low), p.placed.read.high), omega (arith, shorter (goal.at.block_count-from-requires c).Else-bad_old, p.placed.read.short))

pub bad_from-requires : goal.bad_from-requires
bad_from-requires c =
    let p = c.requires in
    (p, rw (c.block_count-from.ensures, old_blocks_lem _ _ p) (old_fewer _ _ p _ (shorter (goal.at.bad_from-requires c).Else-bad_old)))

pub returns-then-bad_from : goal.returns-then-bad_from
returns-then-bad_from c =
    let p = c.requires in
    rw (longer-is _ _ p, ← c.bad_old.ensures, c.if-bad_old.false, ← old_blocks_lem _ _ p, ← c.block_count-from.ensures, ← c.bad_from.ensures, c.if-bad_from.true) cc

pub returns : goal.returns
returns c =
    let p = c.requires in
    rw (longer-is _ _ p, ← c.bad_old.ensures, c.if-bad_old.false, ← old_blocks_lem _ _ p, ← c.block_count-from.ensures, ← c.bad_from.ensures, c.if-bad_from.false)
