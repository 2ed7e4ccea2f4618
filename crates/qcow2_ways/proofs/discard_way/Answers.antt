use native.Mathlib.Omega.{arith}
use mathlib.Core.Path.{sym, subst, ◌∙◌}
use lib.ListN.{length}
use Rattle.std.specs.Prelude.{Ok, Option}
use Rattle.std.proofs.lemmas.Result.{err_from_is_err_and}
use Rattle.qcow2_jobs.specs.Jobs.{ReleaseIn, freed_units}
use Rattle.qcow2_jobs.specs.declared.releasing.Freed.{Freed}
use Rattle.qcow2_spec.specs.Store.{discard_way}
use Rattle.qcow2_discard.proofs.Some.{freed-some}
use Rattle.qcow2_rows.proofs.Laws.{puts_same}
use Rattle.qcow2_rows.proofs.Lists.{rows-freed}
use Rattle.qcow2_ways.proofs.Listings.{list_refused, list_none, list_units, clearing-refused, clearing-none, clearing-some}
use Rattle.qcow2_ways.proofs.Most.{freed-most}
use Rattle.qcow2_ways.proofs.discard_way.Goals as goal

pub find_release-requires : goal.find_release-requires
find_release-requires c = c.requires

pub clear_row-k-requires : goal.clear_row-k-requires
clear_row-k-requires c = c.requires.0

pub freed_rows-n-requires : goal.freed_rows-n-requires
freed_rows-n-requires c =
    let n = length c.args.image.now in
    let i = subst (λ (r : Option Freed). ReleaseIn n (Ok r)) c.in-Some.is c.in_ok-find_release.ensures.inside in
    (omega (arith, c.clear_row-k.ensures.0), freed-most n c.requires.0.short c.in-Some.freed i)

pub returns-in_err-find_release : goal.returns-in_err-find_release
returns-in_err-find_release c =
    let a = c.args in
    let l = a.image.now in
    let p = err_from_is_err_and c.from_residual.result c.from_residual.ensures.1 in
    rw (p.1, p.2) (list_refused l _ a.rows.now _ (clearing-refused l (discard_way l (Ok a.way)) _ (sym c.in_err-find_release.ensures.same)))

pub returns-in-None : goal.returns-in-None
returns-in-None c =
    let a = c.args in
    let l = a.image.now in
    list_none l _ a.rows.now (clearing-none l (discard_way l (Ok a.way)) (rw c.in-None.is at (sym c.in_ok-find_release.ensures.same)))

pub returns-in-Some : goal.returns-in-Some
returns-in-Some c =
    let a = c.args in
    let l = a.image.now in
    let U = freed_units c.in-Some.freed in
    let k = c.clear_row-k in
    let f = c.freed_rows-n in
    rw (clearing-some l (discard_way l (Ok a.way)) U (rw c.in-Some.is at (sym c.in_ok-find_release.ensures.same)) (freed-some c.in-Some.freed))
    (list_units l U a.rows.now _ _ _ _ _ k.ensures.1 (puts_same (rows-freed c.in-Some.freed) f.ensures.1) (f.auto.rows ∙ k.auto.rows) c.listed.ensures)
