use Rattle.std.specs.Prelude.{Ok, Err}
use Rattle.std.proofs.lemmas.Grind.{common_steps}
use native.Mathlib.Omega.{arith}
use mathlib.Core.Path.{◌≡◌, sym, ap, ◌∙◌}
use Prim.Native.Nat.{◌/◌}
use lib.ListN.{length}
use Rattle.qcow2_spec.specs.Runs.{list_runs}
use Rattle.qcow2_spec.specs.Header.{some_lent}
use Rattle.qcow2_spec.specs.Opened.{opened}
use Rattle.qcow2.proofs.Refusals.{runs-refused, rows-refused}
use Rattle.qcow2.proofs.Taken.{active, runs_taken, rows_taken}
use Rattle.qcow2.proofs.runs.Goals as goal

pub listed-requires : goal.listed-requires
unfolding some_lent
listed-requires c =
    let a = c.args in
    let s = a.image.now in
    let b = a.backing.now in
    let e : opened (some_lent b) s ≡ Ok c.in_ok-g.g = sym c.in_ok-g.ensures in
    (active b s c.in_ok-g.g e).0

pub returns-in_err-g : goal.returns-in_err-g
unfolding some_lent
returns-in_err-g c =
    let a = c.args in
    let s = a.image.now in
    let b = a.backing.now in
    let k = c.in_err-g.field-0.0 in
    let e : opened (some_lent b) s ≡ Err k = sym c.in_err-g.ensures in
    let h : Err k ≡ list_runs b s 0 a.x a.len (length a.rows.now / 3) = sym (runs-refused b s k e a.x a.len (length a.rows.now / 3)) in
    (grind (arith, common_steps), sym (rows-refused b s k e a.x a.len a.rows.now))

pub returns : goal.returns
unfolding some_lent
returns c =
    let a = c.args in
    let s = a.image.now in
    let b = a.backing.now in
    let g = c.in_ok-g.g in
    let e : opened (some_lent b) s ≡ Ok g = sym c.in_ok-g.ensures in
    let r = rw (active b s g e).1 at c.listed.ensures in
    (r.0 ∙ runs_taken b s g e a.x a.len (length a.rows.now / 3), r.1 ∙ rows_taken b s g e a.x a.len a.rows.now)
