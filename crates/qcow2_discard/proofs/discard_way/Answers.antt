use mathlib.Core.Path.{sym}
use Rattle.std.specs.Prelude.{Ok}
use Rattle.std.proofs.lemmas.Result.{err_from_is_err_and}
use Rattle.qcow2_jobs.specs.Jobs.{freed_units}
use Rattle.qcow2_spec.specs.Store.{discard_way}
use Rattle.qcow2_clear.proofs.Clears.{clear-refused, clear_idle, clear-stored}
use Rattle.qcow2_discard.proofs.Some.{freed-some}
use Rattle.qcow2_discard.proofs.discard_way.Goals as goal

pub returns-in_err-find_release : goal.returns-in_err-find_release
returns-in_err-find_release c =
    let a = c.args in
    let l = a.image.now in
    let p = err_from_is_err_and c.from_residual.result c.from_residual.ensures.1 in
    rw (p.1, p.2) (clear-refused l a.allowance (discard_way l (Ok a.way)) _ (sym c.in_err-find_release.ensures.same))

pub returns-in-None : goal.returns-in-None
returns-in-None c =
    let a = c.args in
    let l = a.image.now in
    clear_idle l a.allowance (discard_way l (Ok a.way)) _ (rw c.in-None.is at (sym c.in_ok-find_release.ensures.same)) c.end_of.ensures

pub returns-in-Some : goal.returns-in-Some
returns-in-Some c =
    let a = c.args in
    let l = a.image.now in
    let p = c.in-Some in
    clear-stored l a.allowance (discard_way l (Ok a.way)) (freed_units p.freed) _ _ (rw p.is at (sym c.in_ok-find_release.ensures.same)) (freed-some p.freed) c.store.ensures
