use Rattle.std.specs.Prelude.{Ok, Err, suc}
use Rattle.std.proofs.lemmas.Grind.{common_steps}
use native.Mathlib.Omega.{arith}
use mathlib.Core.Path.{◌≡◌, sym, ap, ◌∙◌}
use lib.ListN.{length}
use Rattle.qcow2_spec.specs.Causes.{answer}
use Rattle.qcow2_spec.specs.Guest.{read_number}
use Rattle.qcow2_spec.specs.Header.{some_lent}
use Rattle.qcow2_spec.specs.Opened.{opened}
use Rattle.qcow2.proofs.Refusals.{read-refused, into_refused}
use Rattle.qcow2.proofs.Taken.{active, number-taken, into_taken}
use Rattle.qcow2.proofs.read_snapshot.Goals as goal

pub read_snapshot-requires : goal.read_snapshot-requires
unfolding some_lent
read_snapshot-requires c =
    let a = c.args in
    let s = a.image.now in
    let b = a.backing.now in
    let e : opened (some_lent b) s ≡ Ok c.in_ok-g.g = sym c.in_ok-g.ensures in
    active b s c.in_ok-g.g e

pub returns-in_err-g : goal.returns-in_err-g
unfolding some_lent
returns-in_err-g c =
    let a = c.args in
    let s = a.image.now in
    let b = a.backing.now in
    let k = c.in_err-g.field-0.0 in
    let e : opened (some_lent b) s ≡ Err k = sym c.in_err-g.ensures in
    let h : Err k ≡ answer (read_number b s (suc a.snapshot) a.x (length a.out.now)) = read-refused b s k e (suc a.snapshot) a.x (length a.out.now) in
    (grind (arith, common_steps), sym (into_refused b s k e (suc a.snapshot) a.x a.out.now))

pub returns : goal.returns
unfolding some_lent
returns c =
    let a = c.args in
    let s = a.image.now in
    let b = a.backing.now in
    let g = c.in_ok-g.g in
    let e : opened (some_lent b) s ≡ Ok g = sym c.in_ok-g.ensures in
    let r = c.read_snapshot.ensures in
    (r.0 ∙ ap answer (number-taken b s g e (suc a.snapshot) a.x (length a.out.now)), r.1 ∙ into_taken b s g e (suc a.snapshot) a.x a.out.now)
