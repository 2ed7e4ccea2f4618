use Prim.Native.Nat.{◌^◌}
use mathlib.Core.Path.{◌∙◌}
use lib.ListN.{length}
use Rattle.packed.proofs.Parts.{part_of}
use Rattle.window.specs.Window.{board}
use Rattle.qcow2_sweep.specs.Sweeps.{Whole}
use Rattle.qcow2_swept.proofs.Tables.{part-sectors, below-fore, below_visits}
use Rattle.qcow2_swept.proofs.sweep_below.Goals as goal

pub sweep_table-requires : goal.sweep_table-requires
sweep_table-requires c =
    let a = c.args in
    let o = c.requires.0.0 in
    let s = a.image.now in
    let w : Whole a.g.bits (length s) = record { low = o.low; high = o.high; some = o.long; small = o.short; clusters = a.g.clusters; fits = o.whole } in
    ((w, c.requires.1.1), part-sectors s a.p a.g.bits _ o.low c.requires.0.1 (part_of s a.p c.power-c.result (2 ^ a.g.bits) c.power-c.ensures.0))

pub returns : goal.returns
returns c =
    let t = c.sweep_table.ensures in
    let a = c.args in
    let p = c.requires.0 in
    let s = a.image.now in
    let e = part_of s a.p c.power-c.result (2 ^ a.g.bits) c.power-c.ensures.0 in (
      t.0 ∙ below-fore a.leaf s a.g.version (2 ^ a.g.bits) a.p _ p.0.is-version p.0.is-cluster p.1 e,
      (rw (c.visit-least.ensures, c.quotient-k.ensures.0) at t.1)
          ∙ below_visits a.leaf s a.g.version (2 ^ a.g.bits) a.p _ p.0.is-version p.0.is-cluster p.1 e a.table a.b (board a.target.now a.low),
    )
