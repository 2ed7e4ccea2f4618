use native.Mathlib.Omega.{arith}
use Prim.Native.Nat.{◌-◌}
use mathlib.Core.Path.{refl, sym, ◌∙◌}
use Rattle.qcow2_taken.specs.Taking.{new_at}
use Rattle.qcow2_taken.proofs.Runs.{run-next, run_stop, run_done, spaced_fewer}
use Rattle.qcow2_taken.proofs.new_entries.few_new.Goals as goal

pub loop-i-init : goal.loop-i-init
loop-i-init c = refl

pub entry_new-requires : goal.entry_new-requires
entry_new-requires c = (omega (arith, c.requires.0), spaced_fewer _ _ _ (omega arith) c.requires.1)

pub loop-i-preserved : goal.loop-i-preserved
loop-i-preserved c =
    let a = c.args in
    let l = c.loop-i in
    run-next (new_at a.table.now a.span) l.i a.end l.invariant (omega arith) (sym c.entry_new.ensures ∙ c.if-not-entry_new.false)

pub returns-then-not-entry_new : goal.returns-then-not-entry_new
returns-then-not-entry_new c =
    let a = c.args in
    let l = c.loop-i in
    run_stop (new_at a.table.now a.span) l.i a.end l.invariant (omega arith) (sym c.entry_new.ensures ∙ c.if-not-entry_new.true)

pub returns : goal.returns
returns c =
    let a = c.args in
    run_done (new_at a.table.now a.span) c.loop-i.i a.end c.loop-i.invariant (omega arith)
