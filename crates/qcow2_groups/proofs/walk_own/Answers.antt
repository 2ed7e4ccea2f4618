use Rattle.std.proofs.Common.{◌≡◌, ◌+◌, ◌*◌, ◌%◌, ◌^◌, ◌<◌, ◌≤◌, refl, arith, pow_mono, rules}
use Rattle.qcow2_spec.proofs.Places.{cluster-below}
use Rattle.qcow2_groups.proofs.GoodEntries.{mark_of, some_bytes, Placed, placed_of}
use Rattle.qcow2_groups.proofs.Passes.{no_own, bad-rest, placed-stepped}
use Rattle.qcow2_groups.proofs.walk_own.Goals as goal
use Rattle.qcow2_groups.proofs.walk_own.Goals.{Else-n-y, After-quotient}

pub overflow_sub-n : goal.overflow_sub-n
overflow_sub-n c =
    let p = c.requires in
    omega (arith, some_bytes p.clusters c.args.bits c.args.n p.some p.fits, pow_mono p.low)

pub returns-then-n-y : goal.returns-then-n-y
returns-then-n-y c =
    let a = c.args in
    rw c.marks-mark.ensures.0 (no_own 0 a.version a.bits a.n a.e c.requires.low c.requires.small (search rules) a.scratch.now refl c.wrapping_sub_u64-y.result c.wrapping_sub_u64-y.ensures.value (search rules) c.if-n-y.true)

-- where there is a place with bit 63, it is the entry without that bit
bare : (c : Else-n-y) → c.wrapping_sub_u64-y.result + 2 ≡ c.args.e % 2 ^ 63
bare c = omega (arith, c.wrapping_sub_u64-y.ensures.value, c.if-n-y.false, c.requires.small)

inside : (c : Else-n-y) → (2 ≤ c.args.e % 2 ^ 63) × (c.args.e % 2 ^ 63 < c.args.n)
inside c = (omega (arith, bare c), omega (arith, bare c, c.if-n-y.false))

pub returns-then-rest-mark : goal.returns-then-rest-mark
returns-then-rest-mark c =
    let a = c.args in
    let r = (goal.at.returns-then-rest-mark c).Else-n-y in
    let h : mark_of a.version < a.e % 2 ^ 63 % 2 ^ a.bits = rw (c.marks-mark.ensures.0, c.rest.ensures.0, bare r) at c.if-rest-mark.true in
    bad-rest 0 a.version a.bits a.n a.e c.requires.low c.requires.small (search rules) a.scratch.now (inside r).0 h

pub count_up-requires : goal.count_up-requires
count_up-requires c =
    let a = c.args in
    let p = c.requires in
    let r = (goal.at.count_up-requires c).Else-n-y in
    let x = a.e % 2 ^ 63 in
    let h : x < p.clusters * 2 ^ a.bits = omega (arith, (inside r).1, p.fits) in
    let q = rw (bare r) at c.quotient.ensures.0 in
    omega (arith, cluster-below x p.clusters a.bits h, q, p.holds)

-- and is a place and perhaps a mark
place_of : (c : After-quotient) → Placed c.args.version (2 ^ c.args.bits) c.args.n (c.args.e % 2 ^ 63)
place_of c =
    let a = c.args in
    let p = c.requires in
    let r = (goal.at.count_up-requires c).Else-n-y in
    let h : a.e % 2 ^ 63 % 2 ^ a.bits ≤ mark_of a.version = rw (c.marks-mark.ensures.0, c.rest.ensures.0, bare r) at c.if-rest-mark.false in
    placed_of a.version a.bits p.clusters a.n (a.e % 2 ^ 63) p.low p.fits (inside r).0 (inside r).1 h

pub returns : goal.returns
returns c =
    let a = c.args in
    let w = c.wrapping_sub_u64-y in
    rw (c.count_up.ensures, c.quotient.ensures.0, bare (goal.at.returns c).Else-n-y)
    (placed-stepped 0 a.version a.bits a.n a.e c.requires.low c.requires.small (search rules) a.scratch.now (place_of (goal.at.returns c).After-quotient) (λ k e. omega (arith, e, w.ensures.value, c.if-n-y.false, c.requires.small)))
