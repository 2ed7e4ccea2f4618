use native.Mathlib.Omega.{arith}
use Prim.Native.Nat.{◌+◌, ◌-◌, ◌*◌, ◌/◌}
use mathlib.Core.Path.{◌≡◌, refl, sym, ◌∙◌}
use Rattle.qcow2_taken.specs.Taking.{new_at}
use Rattle.qcow2_taken.proofs.Runs.{runs-next, runs_stop, spaced_fewer}
use Rattle.qcow2_taken.proofs.new_entries.all_new.Goals as goal

pub loop-q-init : goal.loop-q-init
loop-q-init c = let e : c.args.from + 64 * 0 ≡ c.args.from = omega arith in rw e

pub group_new-requires : goal.group_new-requires
group_new-requires c = (omega (arith, c.requires.0.0), spaced_fewer _ _ _ (omega arith) c.requires.0.1)

pub loop-q-preserved : goal.loop-q-preserved
loop-q-preserved c =
    let a = c.args in
    let l = c.loop-q in
    let e : a.from + 64 * l.q + 64 ≡ a.from + 64 * (l.q + 1) = omega arith in
    rw e at (runs-next (new_at a.table.now a.span) (a.from + 64 * l.q) a.end l.invariant 64 (omega arith) (sym c.group_new.ensures ∙ c.if-not-group_new.false))

pub returns-then-not-group_new : goal.returns-then-not-group_new
returns-then-not-group_new c =
    let a = c.args in
    let l = c.loop-q in
    runs_stop (new_at a.table.now a.span) (a.from + 64 * l.q) a.end l.invariant 64 (omega arith) (sym c.group_new.ensures ∙ c.if-not-group_new.true)

pub returns : goal.returns
returns c =
    let e : c.loop-q.q ≡ (c.args.end - c.args.from) / 64 = omega arith in
    c.each_new.ensures ∙ rw e at c.loop-q.invariant
