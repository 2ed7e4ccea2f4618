use native.Mathlib.Omega.{arith}
use Prim.Native.Nat.{◌^◌}
use mathlib.Core.Path.{◌∙◌}
use Rattle.packed.proofs.Parts.{part_of}
use Rattle.qcow2_remark.proofs.Marking.{below-part}
use Rattle.qcow2_remark.proofs.below_fore.Goals as goal

pub table_fore-requires : goal.table_fore-requires
table_fore-requires c =
    let o = c.requires.0.0 in
    record { low = o.low; high = o.high; some = omega (arith, o.long); small = o.short; clusters = c.args.g.clusters; holds = c.requires.0.1; fits = o.whole }

pub returns : goal.returns
returns c =
    let a = c.args in
    let s = a.image.now in
    c.table_fore.ensures
    ∙ below-part a.g s a.scratch.now c.requires.0.0 a.p _ c.requires.1 (part_of s a.p c.power-c.result (2 ^ a.g.bits) c.power-c.ensures.0)
