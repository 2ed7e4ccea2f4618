use native.Mathlib.Omega.{arith}
use native.Mathlib.Nat.{mul-le-mul}
use Prim.Native.Nat.{◌*◌, ◌/◌, ◌^◌, ◌≤◌}
use mathlib.Core.Path.{◌≡◌, ap, ◌∙◌}
use mathlib.Core.Bool.{not}
use lib.ListN.{length-drop}
use Rattle.endian.proofs.Entries.{part-rest}
use Rattle.qcow2_header.proofs.Laws.{entries_fit, place_is}
use Rattle.qcow2_taken.proofs.Spans.{span-blocks}
use Rattle.qcow2_taken.proofs.Rules.{entries_from}
use Rattle.qcow2_taken.proofs.bad_from.Goals as goal
use Rattle.qcow2_taken.proofs.bad_from.Goals.{After-quotient}

-- where the table starts
start : (c : After-quotient) → c.quotient.result * c.power-c.result ≡ c.args.g.tableat
start c = place_is _ _ _ _ c.requires.0.placed c.quotient.ensures.0 c.power-c.ensures.0

pub overflow_mul-at : goal.overflow_mul-at
overflow_mul-at c = omega (arith, start (goal.at.overflow_mul-at c).After-quotient, c.requires.0.placed.fits)

pub overflow_mul-count : goal.overflow_mul-count
overflow_mul-count c =
    let h : c.args.g.tableclusters ≤ 4294967295 = omega (arith, c.requires.0.placed.read.brief) in
    let k : c.power-c.result / 8 ≤ 268435456 = omega arith in
    omega (arith, mul-le-mul h k)

pub good_entries-requires : goal.good_entries-requires
good_entries-requires c =
    let g = c.args.g in
    let p = c.requires.0.placed in
    rw (start (goal.at.good_entries-requires c).After-quotient, c.power-c.ensures.0, part-rest, length-drop, c.span_of-span.ensures.0)
    (record {
      low = p.read.low;
      high = p.read.high;
      room = p.read.room;
      earlier = c.requires.1;
      enough = p.enough;
      fits = omega (arith, entries_fit g.tableclusters (2 ^ g.bits), p.fits);
      spaced = span-blocks _ _ c.requires.0;
    })

pub returns : goal.returns
returns c = ap not c.good_entries.ensures ∙ entries_from _ _ c.requires.0 _ _ _ _ c.power-c.ensures.0 (start (goal.at.returns c).After-quotient) c.span_of-span.ensures.0
