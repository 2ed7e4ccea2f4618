use Rattle.std.specs.Prelude.{Ok}
use native.Mathlib.Omega.{arith}
use borrow.Author.Rules.{rules}
use mathlib.Core.Path.{◌≡◌}
use Rattle.qcow2_spec.specs.Runs.{moved}
use Rattle.qcow2_spec.specs.declared.Found.TheVariants.{Host, Zeros, Absent}
use Rattle.qcow2_alike.proofs.table.entries_end.Goals as goal

pub overflow_add-h : goal.overflow_add-h
overflow_add-h c =
    let e : c.args.f.now ≡ Ok (Host c.in-Ok-Host.h) = search rules in
    let z = rw e at c.requires.1 in
    omega (arith, z)

pub host_end-requires : goal.host_end-requires
host_end-requires c =
    let e : c.args.f.now ≡ Ok (Host c.in-Ok-Host.h) = search rules in
    (c.requires.0, rw e at c.requires.1)

pub same_end-requires : goal.same_end-requires
same_end-requires c = (c.requires.0, λ j. rw c.in-Err.is)

pub returns-in-Ok-Host : goal.returns-in-Ok-Host
returns-in-Ok-Host c =
    let e : c.args.f.now ≡ Ok (Host c.in-Ok-Host.h) = search rules in
    rw e (c.host_end.ensures c.args.version)

pub returns-in-Ok-Absent : goal.returns-in-Ok-Absent
returns-in-Ok-Absent c =
    let e : c.args.f.now ≡ Ok Absent = search rules in
    rw e (c.empty_end.ensures c.args.version)

pub returns-in-Ok-Zeros : goal.returns-in-Ok-Zeros
returns-in-Ok-Zeros c =
    let e : c.args.f.now ≡ Ok Zeros = search rules in
    rw e c.marked_end.ensures

pub returns-in-Err : goal.returns-in-Err
returns-in-Err c =
    let a = c.args in
    let e : moved a.f.now a.i ≡ a.f.now = rw c.in-Err.is in
    rw e c.same_end.ensures
