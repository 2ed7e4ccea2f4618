use Rattle.std.specs.Prelude.{Err, Ok}
use mathlib.Core.Path.{◌≡◌, sym, ◌∙◌}
use Rattle.qcow2_spec.specs.Header.{some_lent}
use Rattle.qcow2_spec.specs.Opened.{opened}
use Rattle.qcow2_spec.proofs.Open.{accepted-is}
use Rattle.qcow2_portion.proofs.Taking.{portion-refused, portion-accepted}
use Rattle.qcow2_portion.proofs.CheckState.portion.Goals as goal

pub portioned-requires : goal.portioned-requires
unfolding some_lent
portioned-requires c =
    let a = c.args in
    let b = a.backing.now in
    let e : opened (some_lent b) a.image.now ≡ Ok c.in-Ok.g = sym c.in-Ok.ensures in
    (accepted-is (some_lent b) a.image.now c.in-Ok.g e).1

pub returns-in-Err : goal.returns-in-Err
unfolding some_lent
returns-in-Err c =
    let a = c.args in
    let e : opened (some_lent a.backing.now) a.image.now ≡ Err c.in-Err.e = sym c.in-Err.ensures in
    rw c.number.ensures (portion-refused a.backing.now a.image.now a.self a.scratch.now a.may c.in-Err.e e)

pub returns-in-Ok : goal.returns-in-Ok
unfolding some_lent
returns-in-Ok c =
    let a = c.args in
    let e : opened (some_lent a.backing.now) a.image.now ≡ Ok c.in-Ok.g = sym c.in-Ok.ensures in
    let t = c.portioned.ensures in
    portion-accepted a.backing.now a.image.now a.self a.scratch.now a.may c.in-Ok.g e _ _ t.0 t.1
