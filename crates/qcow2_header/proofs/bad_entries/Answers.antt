use native.Mathlib.Omega.{arith}
use native.Mathlib.Nat.{mul-le-mul}
use Prim.Native.Nat.{◌*◌, ◌/◌, ◌^◌, ◌≤◌}
use mathlib.Core.Path.{◌≡◌, ap, ◌∙◌}
use mathlib.Core.Bool.{not}
use lib.ListN.{length-drop}
use Rattle.endian.proofs.Entries.{part-rest}
use Rattle.qcow2_header.proofs.Laws.{entries_fit, entries-is, place_is}
use Rattle.qcow2_header.proofs.bad_entries.Goals as goal
use Rattle.qcow2_header.proofs.bad_entries.Goals.{After-quotient}

-- where the table starts
start : (c : After-quotient) → c.quotient.result * c.power-c.result ≡ c.args.g.tableat
start c = place_is _ _ _ _ c.requires c.quotient.ensures.0 c.power-c.ensures.0

pub overflow_mul-at : goal.overflow_mul-at
overflow_mul-at c = omega (arith, start (goal.at.overflow_mul-at c).After-quotient, c.requires.fits)

pub overflow_mul-count : goal.overflow_mul-count
overflow_mul-count c =
    let h : c.args.g.tableclusters ≤ 4294967295 = omega arith in
    let k : c.power-c.result / 8 ≤ 268435456 = omega arith in
    omega (arith, mul-le-mul h k)

pub slice_bounds-good-count : goal.slice_bounds-good-count
slice_bounds-good-count c = omega (arith, start (goal.at.slice_bounds-good-count c).After-quotient, c.requires.fits)

pub good-requires : goal.good-requires
good-requires c =
    let g = c.args.g in
    let p = c.requires in
    rw (start (goal.at.good-requires c).After-quotient, c.power-c.ensures.0, part-rest, length-drop)
    (((p.read.low, p.read.high), p.read.room), (p.enough, omega (arith, entries_fit g.tableclusters (2 ^ g.bits), p.fits)))

pub returns : goal.returns
returns c = ap not c.good.ensures ∙ entries-is _ _ _ _ c.requires.read.is c.power-c.ensures.0 (start (goal.at.returns c).After-quotient)
