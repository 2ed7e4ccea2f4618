use Prim.Native.Nat.{◌*◌}
use mathlib.Core.Path.{refl, sym}
use lib.Seq.{length-take-le}
use Rattle.qcow2_portion.proofs.Taking.{step-finished, wait_new, wait_going, step_new, step_going}
use Rattle.qcow2_portion.proofs.stepped.Goals as goal

pub returns-in-Finished : goal.returns-in-Finished
returns-in-Finished c = let a = c.args in step-finished a.image.now a.scratch.now a.may a.st c.in-Finished.v c.in-Finished.is

pub returns-then-may-eq0 : goal.returns-then-may-eq0
returns-then-may-eq0 c = let a = c.args in wait_new a.image.now a.scratch.now a.may a.st c.in-New.is c.if-may-eq0.true

pub slice_bounds-entered-end-in-New : goal.slice_bounds-entered-end-in-New
slice_bounds-entered-end-in-New c = sym (length-take-le (2 * c.args.g.clusters) c.args.scratch.now c.requires.1)

pub entered-requires : goal.entered-requires
entered-requires c = (c.requires.0, length-take-le (2 * c.args.g.clusters) c.args.scratch.now c.requires.1)

pub returns-in-New : goal.returns-in-New
returns-in-New c =
    let a = c.args in
    let t = c.entered.ensures in
    step_new a.image.now a.scratch.now a.may a.g.clusters c.requires.0.0.is-clusters _ _ refl a.st _ c.in-New.is c.if-may-eq0.false t.0 t.1

pub returns-then-may-eq0-2 : goal.returns-then-may-eq0-2
returns-then-may-eq0-2 c = let a = c.args in wait_going a.image.now a.scratch.now a.may a.st c.in-Going.root c.in-Going.row c.in-Going.found c.in-Going.is c.if-may-eq0-2.true

pub slice_bounds-entered-end-in-Going-2 : goal.slice_bounds-entered-end-in-Going-2
slice_bounds-entered-end-in-Going-2 c = sym (length-take-le (2 * c.args.g.clusters) c.args.scratch.now c.requires.1)

pub entered-requires-in-Going : goal.entered-requires-in-Going
entered-requires-in-Going c = (c.requires.0, length-take-le (2 * c.args.g.clusters) c.args.scratch.now c.requires.1)

pub returns-in-Going : goal.returns-in-Going
returns-in-Going c =
    let a = c.args in
    let t = c.entered-in-Going.ensures in
    step_going a.image.now a.scratch.now a.may a.g.clusters c.requires.0.0.is-clusters _ _ refl a.st _ c.in-Going.root c.in-Going.row c.in-Going.found c.in-Going.is c.if-may-eq0-2.false t.0 t.1
