use Rattle.std.specs.Prelude.{Result, Ok, Err}
use Rattle.std.proofs.lemmas.Grind.{common_steps}
use native.Mathlib.Omega.{arith}
use mathlib.Core.Path.{◌≡◌, sym, ap, ◌∙◌}
use Prim.Native.Nat.{ℕ}
use Rattle.units.specs.declared.Ended.{Ended}
use Rattle.qcow2_spec.specs.Header.{some_lent}
use Rattle.qcow2_spec.specs.Opened.{opened}
use Rattle.qcow2.proofs.Refusals.{write-refused}
use Rattle.qcow2.proofs.Taken.{active, write-taken}
use Rattle.qcow2.proofs.write.Goals as goal

pub write-requires : goal.write-requires
unfolding some_lent
write-requires c =
    let a = c.args in
    let s = a.image.now in
    let b = a.backing.now in
    let e : opened (some_lent b) s ≡ Ok c.in_ok-g.g = sym c.in_ok-g.ensures in
    active b s c.in_ok-g.g e

pub returns-in_err-g : goal.returns-in_err-g
unfolding some_lent
returns-in_err-g c =
    let a = c.args in
    let s = a.image.now in
    let b = a.backing.now in
    let k = c.in_err-g.field-0.0 in
    let e : opened (some_lent b) s ≡ Err k = sym c.in_err-g.ensures in
    let r : ◌≡◌ {A = Result Ended ℕ} c.from_residual.result (Err k) = grind (arith, common_steps) in
    write-refused b s k e a.x a.src.now a.allowance _ r

pub returns : goal.returns
unfolding some_lent
returns c =
    let a = c.args in
    let s = a.image.now in
    let b = a.backing.now in
    let g = c.in_ok-g.g in
    let e : opened (some_lent b) s ≡ Ok g = sym c.in_ok-g.ensures in
    rw (← write-taken b s g e a.x a.src.now) c.write.ensures
