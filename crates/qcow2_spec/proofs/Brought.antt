-- A store may bring what a call has changed to its file epoch by epoch, by the extents: on an image that is sound or leaking no byte is stored
-- in two epochs. Assumes nothing.
use mathlib.Core.Path.{ap, ◌∙◌}
use mathlib.Core.List.{List}
use lib.ListN.{take}
use Rattle.units.specs.Units.{UnitStore, apply_all}
use Rattle.units.specs.Plan.{plan_units}
use Rattle.qcow2_spec.specs.Disk.{plan_of}
use Rattle.qcow2_spec.specs.Flush.{epochs}
use Rattle.qcow2_spec.specs.Steps.{extents_in, brought}
use Rattle.qcow2_spec.specs.Series.{ExtentsBrought}
use Rattle.qcow2_spec.proofs.Flush.{epochs-whole}
use Rattle.qcow2_spec.proofs.Extents.{brought-apart}
use Rattle.qcow2_spec.proofs.Plans.{sure_apart}
use Rattle.qcow2_spec.proofs.Series.{start_sure}

pub extents-brought : ExtentsBrought
extents-brought backing s bb by h r sm e =
    let us = plan_units (plan_of backing s r) in
    let k = start_sure backing s bb by h r sm in
    brought-apart (epochs s us) s (sure_apart backing s k.0 r (plan_of backing s r) k.1) e
    ∙ ap (λ (vs : List UnitStore). brought (extents_in (take e (epochs s us))) s (apply_all vs s)) (epochs-whole s us)
