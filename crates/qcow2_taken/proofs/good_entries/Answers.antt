use native.Mathlib.Omega.{arith}
use Rattle.endian.proofs.Entries.{take-entries, drop-entries}
use Rattle.blank.proofs.Zeros.{part-zeros}
use Rattle.qcow2_taken.specs.Taking.{good_entries}
use Rattle.qcow2_taken.proofs.good_entries.Goals as goal

pub returns-then-all_new : goal.returns-then-all_new
unfolding good_entries
returns-then-all_new c =
    let a = c.args in
    let t = a.table.now in
    let p = c.requires in
    rw (take-entries a.from a.count t (omega (arith, p.earlier, p.enough)), ← c.all_named.ensures, c.if-all_named.true, ← c.all_new.ensures, c.if-all_new.true, drop-entries a.blocks a.count t p.enough, ← part-zeros a.blocks a.count t p.enough p.fits)
    c.all_clear.ensures

pub returns-then-all_named : goal.returns-then-all_named
unfolding good_entries
returns-then-all_named c =
    let a = c.args in
    let p = c.requires in
    rw (take-entries a.from a.count a.table.now (omega (arith, p.earlier, p.enough)), ← c.all_named.ensures, c.if-all_named.true, ← c.all_new.ensures, c.if-all_new.false)

pub returns : goal.returns
unfolding good_entries
returns c =
    let a = c.args in
    let p = c.requires in
    rw (take-entries a.from a.count a.table.now (omega (arith, p.earlier, p.enough)), ← c.all_named.ensures, c.if-all_named.false)
