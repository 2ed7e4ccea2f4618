use Rattle.std.proofs.Common.{◌*◌, ◌%◌, ◌^◌, ◌<◌, ◌≤◌, arith, pow_mono, rules}
use Rattle.qcow2_spec.proofs.Places.{cluster-below}
use Rattle.qcow2_groups.proofs.GoodEntries.{mark_of, some_bytes, Placed, placed_of}
use Rattle.qcow2_groups.proofs.Passes.{no_place, bad-rest, placed-stepped}
use Rattle.qcow2_groups.proofs.walk_role.Goals as goal
use Rattle.qcow2_groups.proofs.walk_role.Goals.{Else-n-y, After-quotient}

pub overflow_sub-n : goal.overflow_sub-n
overflow_sub-n c =
    let p = c.requires.0 in
    omega (arith, some_bytes p.clusters c.args.bits c.args.n p.some p.fits, pow_mono p.low)

pub returns-then-n-y : goal.returns-then-n-y
returns-then-n-y c =
    let a = c.args in
    rw c.marks-mark.ensures.0 (no_place a.kind a.version a.bits a.n a.e c.requires.0.low c.requires.0.small (search rules) a.scratch.now c.wrapping_sub_u64-y.result c.wrapping_sub_u64-y.ensures.value (search rules) c.if-n-y.true)

-- where there is a place, the entry less bit 63 stands inside the image
inside : (c : Else-n-y) → (2 ≤ c.args.e % 2 ^ 63) × (c.args.e % 2 ^ 63 < c.args.n)
inside c =
    let y = c.wrapping_sub_u64-y in
    let p = c.requires.0 in
    (omega (arith, y.ensures.value, c.if-n-y.false, p.small), omega (arith, y.ensures.value, c.if-n-y.false, p.small))

pub returns-then-rest-mark : goal.returns-then-rest-mark
returns-then-rest-mark c =
    let a = c.args in
    let h : mark_of a.version < a.e % 2 ^ 63 % 2 ^ a.bits = rw (c.marks-mark.ensures.0, c.rest.ensures.0) at c.if-rest-mark.true in
    bad-rest a.kind a.version a.bits a.n a.e c.requires.0.low c.requires.0.small (search rules) a.scratch.now (inside (goal.at.returns-then-rest-mark c).Else-n-y).0 h

-- and is a place and perhaps a mark
place_of : (c : After-quotient) → Placed c.args.version (2 ^ c.args.bits) c.args.n (c.args.e % 2 ^ 63)
place_of c =
    let a = c.args in
    let p = c.requires.0 in
    let r = (goal.at.visit-requires c).Else-n-y in
    let h : a.e % 2 ^ 63 % 2 ^ a.bits ≤ mark_of a.version = rw (c.marks-mark.ensures.0, c.rest.ensures.0) at c.if-rest-mark.false in
    placed_of a.version a.bits p.clusters a.n (a.e % 2 ^ 63) p.low p.fits (inside r).0 (inside r).1 h

pub visit-requires : goal.visit-requires
visit-requires c =
    let a = c.args in
    let p = c.requires.0 in
    let x = a.e % 2 ^ 63 in
    let h : x < p.clusters * 2 ^ a.bits = omega (arith, (inside (goal.at.visit-requires c).Else-n-y).1, p.fits) in
    (omega (arith, cluster-below x p.clusters a.bits h, c.quotient.ensures.0, p.holds), c.requires.1.1)

pub returns : goal.returns
returns c =
    let a = c.args in
    rw (c.visit.ensures, c.quotient.ensures.0)
    (placed-stepped a.kind a.version a.bits a.n a.e c.requires.0.low c.requires.0.small (search rules) a.scratch.now (place_of (goal.at.returns c).After-quotient) (λ k e. omega (arith, c.requires.1.0, k)))
