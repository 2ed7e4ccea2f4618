use native.Mathlib.Omega.{arith}
use Prim.Native.Nat.{◌*◌, ◌^◌, ◌<◌}
use mathlib.Core.Path.{◌∙◌}
use lib.ListN.{length}
use lib.Pow.{pow_pos}
use Rattle.qcow2_spec.proofs.Places.{cluster-below}
use Rattle.qcow2_groups.specs.Walks.{Room}
use Rattle.qcow2_refs.proofs.Tables.{below-front, below_refs}
use Rattle.packed.proofs.Parts.{part_of}
use Rattle.qcow2_refs.proofs.walk.walk_below.Goals as goal

pub visit-requires : goal.visit-requires
visit-requires c =
    let a = c.args in
    let h : a.p < a.g.clusters * 2 ^ a.g.bits = omega (arith, c.requires.0.0.whole, pow_pos a.g.bits) in
    (omega (arith, cluster-below a.p a.g.clusters a.g.bits h, c.quotient.ensures.0, c.requires.0.1.0), omega (arith, c.requires.1.0, c.requires.1.1))

pub walk_table-requires : goal.walk_table-requires
walk_table-requires c =
    let o = c.requires.0.0 in
    let r : Room _ c.args.g.bits (length c.args.image.now) = record { low = o.low; high = o.high; some = omega (arith, o.long); small = o.short; clusters = c.args.g.clusters; holds = c.visit.auto.scratch ∙ c.requires.0.1.0; fits = o.whole } in
    (r, c.requires.1.1)

pub returns : goal.returns
returns c =
    let a = c.args in
    let e = part_of a.image.now a.p c.power-c.result (2 ^ a.g.bits) c.power-c.ensures.0 in (
      c.walk_table.ensures.tested ∙ below-front a.leaf a.image.now a.g.version (2 ^ a.g.bits) a.p _ c.requires.0.0.is-version c.requires.0.0.is-cluster c.requires.0.1.1 e,
      (rw (c.visit.ensures, c.quotient.ensures.0) at c.walk_table.ensures.counted)
          ∙ below_refs a.leaf a.image.now a.g.version (2 ^ a.g.bits) a.p _ c.requires.0.0.is-version c.requires.0.0.is-cluster c.requires.0.1.1 e a.table a.scratch.now,
    )
