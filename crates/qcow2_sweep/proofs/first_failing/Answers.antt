use Rattle.std.proofs.Common.{◌≡◌, ◌+◌, ◌*◌, ◌^◌, true, false, sym, ◌∙◌, arith}
use Rattle.endian.specs.Big.{be64}
use Rattle.qcow2_groups.proofs.Fores.{fore_turn, fore_stop, fore_end}
use Rattle.qcow2_sweep.specs.Sweeps.{passes_by}
use Rattle.qcow2_sweep.proofs.Tables.{group-first}
use Rattle.qcow2_sweep.proofs.first_failing.Goals as goal

pub loop-j-init : goal.loop-j-init
loop-j-init c = let a = c.args in rw (group-first a.i a.table.now)

pub loop-j-preserved : goal.loop-j-preserved
loop-j-preserved c =
    let a = c.args in
    let p = c.entry_passes in
    let g : passes_by a.kind a.version (2 ^ a.bits) a.n (be64 a.table.now (8 * c.loop-j.j)) ≡ true = rw (← c.load64-e.ensures) (sym p.ensures ∙ c.if-not-entry_passes.false) in
    sym (fore_turn (passes_by a.kind a.version (2 ^ a.bits) a.n) _ c.loop-j.j a.table.now c.loop-j-test.true g) ∙ c.loop-j.invariant

pub returns-then-not-entry_passes : goal.returns-then-not-entry_passes
returns-then-not-entry_passes c =
    let a = c.args in
    let p = c.entry_passes in
    let g : passes_by a.kind a.version (2 ^ a.bits) a.n (be64 a.table.now (8 * c.loop-j.j)) ≡ false = rw (← c.load64-e.ensures) (sym p.ensures ∙ c.if-not-entry_passes.true) in
    sym (fore_stop (passes_by a.kind a.version (2 ^ a.bits) a.n) _ c.loop-j.j a.table.now c.loop-j-test.true g) ∙ c.loop-j.invariant

pub returns : goal.returns
returns c =
    let a = c.args in
    let e : c.loop-j.j ≡ a.i + 64 = omega arith in
    rw e at (sym (fore_end (passes_by a.kind a.version (2 ^ a.bits) a.n) _ c.loop-j.j a.table.now c.loop-j-test.false) ∙ c.loop-j.invariant)
