use native.Mathlib.Omega.{arith}
use lib.ListN.{length}
use Rattle.packed_twos.specs.Twos.{many, figures_in}
use Rattle.qcow2_setcount.specs.Fixed.{fixes}
use Rattle.qcow2_mend.proofs.Wholes.{bytes-16, all_right, all_past, all-stored}
use Rattle.qcow2_mend.proofs.repair_packed.Goals as goal

pub unlike-d-requires : goal.unlike-d-requires
unlike-d-requires c = let p = c.requires in ((p.0.0, p.0.1.0), p.1)

pub returns-then-d-eq0 : goal.returns-then-d-eq0
returns-then-d-eq0 c =
    let a = c.args in
    let d = c.unlike-d in
    all_right (fixes a.order a.image.now a.at (figures_in a.refs.now) (many a.refs.now)) a.image.now a.n a.allowance d.result d.ensures.0 (omega arith)

pub returns-then-allowance-n : goal.returns-then-allowance-n
returns-then-allowance-n c =
    let a = c.args in
    let d = c.unlike-d in
    all_past (fixes a.order a.image.now a.at (figures_in a.refs.now) (many a.refs.now)) a.image.now a.n a.allowance d.result d.ensures.0 (omega arith)

pub set_counts-requires : goal.set_counts-requires
set_counts-requires c =
    let k = bytes-16 c.args.order (length c.args.image.now) c.args.at (many c.args.refs.now) c.if-order-eq4.true c.requires.0.0 in
    k.0

pub returns-then-n-d : goal.returns-then-n-d
returns-then-n-d c =
    let d = c.unlike-d in
    let a = c.args in
    let k = bytes-16 a.order (length a.image.now) a.at (many a.refs.now) c.if-order-eq4.true c.requires.0.0 in
    all-stored (fixes a.order a.image.now a.at (figures_in a.refs.now) (many a.refs.now)) a.image.now a.n a.allowance d.result d.ensures.0 _ (omega arith)
    (rw c.if-order-eq4.true (rw k.1 at c.set_counts.ensures))

pub returns : goal.returns
returns c = c.repair_each.ensures
