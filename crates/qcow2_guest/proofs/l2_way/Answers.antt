use Prim.Native.Nat.{◌+◌, ◌-◌, ◌^◌}
use native.Mathlib.Omega.{arith}
use mathlib.Core.Path.{◌≡◌, ◌∙◌}
use Rattle.qcow2_guest.proofs.Steps.{table-entry}
use Rattle.qcow2_guest.proofs.l2_way.Goals as goal

pub returns : goal.returns
returns c =
    let a = c.args in
    let k = c.power-c.result in
    let d : a.t + k - a.t ≡ k = omega arith in
    let p : a.t + k - a.t ≡ 2 ^ a.g.bits = d ∙ c.power-c.ensures.0 in
    rw p at c.way_in.ensures ∙ table-entry a.g a.image.now c.requires.0 a.t a.guest _ c.rest-i.ensures.0
