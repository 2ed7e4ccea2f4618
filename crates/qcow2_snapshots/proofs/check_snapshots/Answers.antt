use borrow.Author.Tests.{eq-eqb, ne_eqb}
use native.Mathlib.Omega.{arith}
use Prim.Native.Nat.{◌%◌, ◌^◌}
use Rattle.qcow2_spec.specs.Header.{snapshot_number}
use Rattle.qcow2_snapshots.proofs.check_snapshots.Goals as goal

pub returns-then-count-eq0 : goal.returns-then-count-eq0
unfolding snapshot_number
returns-then-count-eq0 c = rw (← c.requires.1.1.0, eq-eqb _ 0 c.if-count-eq0.true)

pub returns-then-rest-ne0 : goal.returns-then-rest-ne0
unfolding snapshot_number
returns-then-rest-ne0 c =
    let p = c.requires.1 in
    let a = c.args in
    let v = c.rest.ensures.0 in
    rw (← p.1.0, p.0, ← p.1.1, ne_eqb a.count 0 c.if-count-eq0.false, ne_eqb (a.at % 2 ^ a.bits) 0 (λ e. omega arith)) cc

pub returns-then-some_bad : goal.returns-then-some_bad
unfolding snapshot_number
returns-then-some_bad c =
    let p = c.requires.1 in
    let a = c.args in
    let v = c.rest.ensures.0 in
    rw (← p.1.0, p.0, ← p.1.1, ne_eqb a.count 0 c.if-count-eq0.false, eq-eqb (a.at % 2 ^ a.bits) 0 (omega arith), ← c.some_bad.ensures, c.if-some_bad.true) cc

pub returns : goal.returns
unfolding snapshot_number
returns c =
    let p = c.requires.1 in
    let a = c.args in
    let v = c.rest.ensures.0 in
    rw (← p.1.0, p.0, ← p.1.1, ne_eqb a.count 0 c.if-count-eq0.false, eq-eqb (a.at % 2 ^ a.bits) 0 (omega arith), ← c.some_bad.ensures, c.if-some_bad.false)
