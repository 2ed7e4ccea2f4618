use Rattle.std.proofs.lemmas.Grind.{common_steps}
use native.Mathlib.Omega.{arith}
use mathlib.Core.Path.{◌≡◌, sym, ap, ◌∙◌}
use lib.ListN.{length}
use Rattle.qcow2_spec.specs.Causes.{answer}
use Rattle.qcow2_spec.proofs.Answered.{answer_err, answer_ok}
use Rattle.qcow2_spec.specs.Guest.{range_number}
use Rattle.qcow2_guest.proofs.Numbers.{number_fits, into_refused, into_done}
use Rattle.qcow2_read.proofs.read_into.Goals as goal
use Rattle.qcow2_read.proofs.read_into.Goals.{In_ok-check_read}

pub check_read-requires : goal.check_read-requires
check_read-requires c = c.requires

pub returns-in_err-check_read : goal.returns-in_err-check_read
returns-in_err-check_read c =
    let a = c.args in
    let e = c.in_err-check_read.ensures in
    (grind (arith, common_steps, e), sym (into_refused a.backing.now a.image.now a.g.root a.x a.out.now (answer_err _ _ (sym e)).1))

-- the range can be read
readable : (c : In_ok-check_read) → range_number c.args.image.now c.args.g.root c.args.x (length c.args.out.now) ≡ 0
readable c = answer_ok _ _ (sym c.in_ok-check_read.ensures)

pub read_all-requires : goal.read_all-requires
read_all-requires c =
    let a = c.args in
    (c.requires, number_fits a.g a.image.now c.requires a.x (length a.out.now) (readable (goal.at.read_all-requires c).In_ok-check_read))

pub returns : goal.returns
returns c =
    let a = c.args in
    let z = readable (goal.at.returns c).In_ok-check_read in
    (sym (ap answer z), c.read_all.ensures ∙ sym (into_done a.backing.now a.image.now a.g.root a.x a.out.now z))
