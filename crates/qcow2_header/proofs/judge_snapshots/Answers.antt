use Rattle.std.specs.Prelude.{Ok, Err}
use Rattle.std.proofs.lemmas.Grind.{common_steps}
use native.Mathlib.Omega.{arith}
use mathlib.Core.Path.{◌≡◌, sym, ap}
use Rattle.qcow2_spec.specs.Header.{snapshot_number}
use Rattle.qcow2_spec.proofs.Answered.{answer_err, answer_ok}
use Rattle.qcow2_header.specs.Chain.{from21}
use Rattle.qcow2_header.proofs.Laws.{snapshots-told, refused_by}
use Rattle.qcow2_header.proofs.judge_snapshots.Goals as goal

pub check_snapshots-requires : goal.check_snapshots-requires
check_snapshots-requires c = let p = c.requires in ((p.short, p.high), snapshots-told _ _ p.is)

pub returns-in_err-check_snapshots : goal.returns-in_err-check_snapshots
unfolding from21
returns-in_err-check_snapshots c =
    let s = c.args.image.now in
    let k = c.in_err-check_snapshots.field-0.0 in
    let e = answer_err (snapshot_number s) k (sym c.in_err-check_snapshots.ensures) in
    let h : Err k ≡ from21 s = rw (← e.0) (refused_by _ _ e.1) in
    grind (arith, common_steps)

pub returns : goal.returns
unfolding from21
returns c =
    rw (answer_ok (snapshot_number c.args.image.now) _ (sym c.in_ok-check_snapshots.ensures)) (ap Ok c.requires.is)
