use native.Mathlib.Omega.{arith}
use mathlib.Core.Path.{◌≡◌}
use Rattle.packed.specs.Packed.{zero_at}
use Rattle.packed_zeros.proofs.Filled.{group-fill, some_same}
use Rattle.packed_zeros.proofs.zero_in.Goals as goal

pub returns-then-order-eq4 : goal.returns-then-order-eq4
returns-then-order-eq4 g c =
    let h = rw c.if-order-eq4.true at c.requires.0.1 in
    rw c.if-order-eq4.true (some_same (zero_at 4 c.args.part.now) (omega (arith, group-fill 4 g.row.E h)) c.some_in_words.ensures)

pub returns-in-0 : goal.returns-in-0
returns-in-0 g c =
    let h = rw c.in-0.is at c.requires.0.1 in
    rw c.in-0.is (some_same (zero_at 0 c.args.part.now) (omega (arith, group-fill 0 g.row.E h)) c.some_in_bytes.ensures)

pub returns-in-1 : goal.returns-in-1
returns-in-1 g c =
    let h = rw c.in-1.is at c.requires.0.1 in
    rw c.in-1.is (some_same (zero_at 1 c.args.part.now) (omega (arith, group-fill 1 g.row.E h)) c.some_in_bytes-in-1.ensures)

pub returns-in-2 : goal.returns-in-2
returns-in-2 g c =
    let h = rw c.in-2.is at c.requires.0.1 in
    rw c.in-2.is (some_same (zero_at 2 c.args.part.now) (omega (arith, group-fill 2 g.row.E h)) c.some_halves.ensures)

pub returns-in-3 : goal.returns-in-3
returns-in-3 g c =
    let h = rw c.in-3.is at c.requires.0.1 in
    rw c.in-3.is (some_same (zero_at 3 c.args.part.now) (omega (arith, group-fill 3 g.row.E h)) c.some_in_bytes-in-3.ensures)

pub returns-in-5 : goal.returns-in-5
returns-in-5 g c =
    let h = rw c.in-5.is at c.requires.0.1 in
    rw c.in-5.is (some_same (zero_at 5 c.args.part.now) (omega (arith, group-fill 5 g.row.E h)) c.some_in_words-in-5.ensures)

pub returns-in_default : goal.returns-in_default
returns-in_default g c =
    let e : c.args.order ≡ 6 = omega (arith, c.requires.0) in
    let h = rw e at c.requires.0.1 in
    rw e (some_same (zero_at 6 c.args.part.now) (omega (arith, group-fill 6 g.row.E h)) c.some_in_words-in_default.ensures)
