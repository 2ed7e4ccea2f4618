use native.Mathlib.Omega.{arith}
use Prim.Native.Nat.{◌+◌, ◌-◌, ◌/◌, ◌≤◌}
use lib.ListN.{length}
use Rattle.qcow2_spec.proofs.Runs.{run-most}
use Rattle.qcow2_runs.proofs.Listing.{listing_first, listing_next, listing_whole, listing_full}
use Rattle.qcow2_runs.proofs.store_runs.Goals as goal

pub loop-k-init : goal.loop-k-init
loop-k-init c =
    let a = c.args in
    listing_first a.image.now a.g.root a.x a.len (length a.rows.now / 3) a.rows.now (omega arith)

pub shape_of-rows-then-done-len : goal.shape_of-rows-then-done-len
shape_of-rows-then-done-len c = c.loop-k.invariant.kept

pub returns-then-done-len : goal.returns-then-done-len
returns-then-done-len c =
    let a = c.args in
    let l = c.loop-k in
    listing_whole a.image.now a.g.root a.x a.len (length a.rows.now / 3) a.rows.now l.k l.done l.rows l.invariant c.if-done-len.true

pub next_run-done-requires : goal.next_run-done-requires
next_run-done-requires c =
    let u = c.loop-k.invariant in
    let l : c.loop-k.done ≤ c.args.len = u.within in
    (c.requires.0, ((omega arith, omega arith), omega (arith, u.fits, u.kept)))

pub overflow_add-done : goal.overflow_add-done
overflow_add-done c =
    let a = c.args in
    let l = c.loop-k in
    omega (arith, l.invariant.within, c.next_run-done.ensures.0, run-most a.image.now a.g.root (a.x + l.done) (a.len - l.done))

pub loop-k-preserved : goal.loop-k-preserved
loop-k-preserved c =
    let a = c.args in
    let l = c.loop-k in
    let u = l.invariant in
    let n = c.next_run-done in
    listing_next a.image.now a.g.root a.x a.len (length a.rows.now / 3) a.rows.now l.k l.done l.rows u (omega arith) (omega (arith, u.within))
    n.result n.ensures.0 _ n.ensures.1

pub shape_of-rows : goal.shape_of-rows
shape_of-rows c = c.loop-k.invariant.kept

pub returns : goal.returns
returns c =
    let a = c.args in
    let l = c.loop-k in
    let whole = listing_full a.image.now a.g.root a.x a.len (length a.rows.now / 3) a.rows.now l.k l.done l.rows l.invariant (omega arith) in
    (omega (arith, whole.0), whole.1)
