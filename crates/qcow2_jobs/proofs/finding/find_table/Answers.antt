use native.Mathlib.Omega.{arith}
use Prim.Native.Nat.{◌+◌}
use mathlib.Core.Path.{◌≡◌}
use Rattle.qcow2_spec.specs.Counts.{free_from}
use Rattle.qcow2_counts.proofs.Sizes.{sizes}
use Rattle.qcow2_jobs.proofs.Writes.{free-most, free-least, free-zero, full-table, tabled}
use Rattle.qcow2_jobs.proofs.finding.find_table.Goals as goal

pub free_from-t-requires : goal.free_from-t-requires
free_from-t-requires c = c.requires.0.0

pub free_from-k-requires : goal.free_from-k-requires
free_from-k-requires c = c.requires.0.0

pub overflow_add-t : goal.overflow_add-t
overflow_add-t c =
    let l = c.args.image.now in
    let e : c.free_from-t.result ≡ free_from l 0 = c.free_from-t.ensures in
    omega (arith, free-most l, c.requires.0.0.is-clusters, (sizes c.args.g l c.requires.0.0).few)

pub returns-then-g-k : goal.returns-then-g-k
returns-then-g-k c =
    let a = c.args in
    rw (c.into.ensures, ← c.free_from-t.ensures, ← c.free_from-k.ensures) (full-table a.g a.image.now c.requires.0.0 a.guest c.free_from-t.result c.free_from-k.result c.if-g-k.true)

pub find_places-requires : goal.find_places-requires
find_places-requires c =
    let l = c.args.image.now in
    let i = c.free_from-t.result in
    let e : c.free_from-k.result ≡ free_from l (i + 1) = c.free_from-k.ensures in
    (c.requires, (omega (arith, free-least l (i + 1)), omega arith))

pub returns : goal.returns
returns c =
    let a = c.args in
    let i = c.free_from-t in
    let j = c.free_from-k in
    let p = c.find_places in
    let l = a.image.now in
    let e : j.result ≡ free_from l (i.result + 1) = j.ensures in
    rw (← i.ensures, ← j.ensures) (tabled a.g a.image.now c.requires.0.0 a.guest i.result j.result p.result (omega arith) (free-zero l 0 _ i.ensures (omega (arith, c.requires.0.0.is-clusters, free-least l (i.result + 1)))) (free-zero l (i.result + 1) _ j.ensures (omega (arith, c.requires.0.0.is-clusters))) p.ensures.0 p.ensures.1)
