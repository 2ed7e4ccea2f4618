use Prim.Native.Nat.{ℕ, ◌*◌, ◌/◌}
use mathlib.Core.Path.{ap, ◌∙◌}
use Rattle.endian.specs.Big.{bytes16, splice}
use Rattle.visits.proofs.unpack_one.Goals as goal

pub returns : goal.returns
returns c =
    let a = c.args in
    c.store16.ensures ∙ ap (λ (x : ℕ). splice a.scratch.now (2 * a.k) (bytes16 (x / 512))) c.load16-x.ensures
