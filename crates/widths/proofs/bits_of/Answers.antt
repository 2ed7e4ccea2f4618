use Prim.Native.Nat.{ℕ, ◌%◌, ◌^◌}
use mathlib.Core.Path.{ap, ◌∙◌}
use Rattle.widths.specs.Width.{field}
use Rattle.widths.proofs.bits_of.Goals as goal

pub returns : goal.returns
unfolding field
returns c =
    let a = c.args in
    c.rest.ensures.0 ∙ ap (λ (y : ℕ). y % 2 ^ a.w) c.quotient.ensures.0
