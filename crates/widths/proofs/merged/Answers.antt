use native.Mathlib.Omega.{arith}
use Prim.Native.Nat.{◌+◌}
use mathlib.Core.Path.{◌≡◌, refl}
use Rattle.widths.specs.Width.{merge}
use Rattle.widths.proofs.Fields.{merge-small}
use Rattle.widths.proofs.merged.Goals as goal

pub returns : goal.returns
unfolding merge
returns c =
    let a = c.args in
    let e : c.upper.result + c.moved.result + c.rest.result ≡ merge a.w a.b a.x a.v =
    rw (c.upper.ensures.0, c.moved.ensures.0, c.rest.ensures.0) refl in
    (e, omega (arith, merge-small a.w a.b a.x a.v 8 c.requires.0 c.requires.1))
