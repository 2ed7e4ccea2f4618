use Rattle.std.proofs.Common.{◌*◌, ◌^◌, drop, sym, ◌∙◌, eq-eqb, ne_eqb}
use Rattle.endian.proofs.Entries.{length-entries}
use Rattle.qcow2_sweep.specs.Sweeps.{passes_by, group}
use Rattle.qcow2_sweep.proofs.Tables.{fore-full}
use Rattle.qcow2_sweep.proofs.front_after.Goals as goal

pub returns-then-r-j : goal.returns-then-r-j
returns-then-r-j c = rw (ne_eqb _ _ c.if-r-j.true)

pub returns-then-good : goal.returns-then-good
returns-then-good c =
    let a = c.args in
    let T = a.table.now in
    let f = fore-full (passes_by a.kind a.version (2 ^ a.bits) a.n) (group T a.j) (sym c.requires.1 ∙ c.if-good.true) in
    rw (eq-eqb _ _ c.if-r-j.false, f, length-entries 64 (drop (8 * a.j) T))

pub returns : goal.returns
returns c = rw (eq-eqb _ _ c.if-r-j.false) c.first_failing.ensures
