-- `qcow2_planways::plan_discard` meets its contract. Assumes nothing.
use mathlib.Core.Path.{sym, subst}
use lib.ListN.{length}
use Rattle.qcow2_spec.specs.Store.{discard_way}
use Rattle.std.specs.Prelude.{Ok, Option}
use Rattle.std.proofs.lemmas.Result.{err_from_is_err_and}
use Rattle.qcow2_jobs.specs.Jobs.{ReleaseIn, freed_units}
use Rattle.qcow2_jobs.specs.declared.releasing.Freed.{Freed}
use Rattle.qcow2_discard.proofs.Some.{freed-some}
use Rattle.qcow2_ways.proofs.Listings.{clearing-refused, clearing-none, clearing-some}
use Rattle.qcow2_ways.proofs.Most.{freed-most}
use Rattle.qcow2_phases.proofs.Plannings.{planning_refused, planning_none, planning_units}
use Rattle.qcow2_added.proofs.Fallen.{freed_falls}
use Rattle.qcow2_planways.proofs.plan_discard.Goals as goal

pub find_release-requires : goal.find_release-requires
find_release-requires c = c.requires

pub add_freed-n-requires : goal.add_freed-n-requires
add_freed-n-requires c =
    let l = c.args.image.now in
    let f = c.in_ok-find_release.ensures in
    let i = subst (λ (r : Option Freed). ReleaseIn (length l) (Ok r)) c.in-Some.is f.inside in
    ((c.requires.0, freed-most (length l) c.requires.0.short c.in-Some.freed i), freed_falls l c.args.way c.in-Some.freed (rw c.in-Some.is at f.same))

pub returns-in_err-find_release : goal.returns-in_err-find_release
returns-in_err-find_release c =
    let a = c.args in
    let l = a.image.now in
    let p = err_from_is_err_and c.from_residual.result c.from_residual.ensures.1 in
    rw (p.1, p.2) (planning_refused l _ a.k a.rows.now _ (clearing-refused l (discard_way l (Ok a.way)) _ (sym c.in_err-find_release.ensures.same)))

pub returns-in-None : goal.returns-in-None
returns-in-None c =
    let a = c.args in
    let l = a.image.now in
    planning_none l _ a.k a.rows.now (clearing-none l (discard_way l (Ok a.way)) (rw c.in-None.is at (sym c.in_ok-find_release.ensures.same))) _ c.planned.ensures

pub returns-in-Some : goal.returns-in-Some
returns-in-Some c =
    let a = c.args in
    let l = a.image.now in
    rw (clearing-some l (discard_way l (Ok a.way)) (freed_units c.in-Some.freed) (rw c.in-Some.is at (sym c.in_ok-find_release.ensures.same)) (freed-some c.in-Some.freed))
    (planning_units l _ a.k a.rows.now _ _ c.add_freed-n.ensures _ c.planned-in-Some.ensures)
