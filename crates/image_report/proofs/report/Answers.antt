use Rattle.std.specs.Prelude.{Ok}
use mathlib.Core.Path.{◌≡◌}
use mathlib.Core.Bool.{false}
use Rattle.qcow2_spec.specs.Opened.{opened}
use Rattle.qcow2_spec.proofs.Open.{accepted-is}
use Rattle.image_report.proofs.report.Goals as goal

pub accepted-requires : goal.accepted-requires
accepted-requires g c =
    let s = c.args.image.now in
    let h = c.in-Ok.g in
    let e : opened false s ≡ Ok h = cc in
    (accepted-is false s h e).1.0
