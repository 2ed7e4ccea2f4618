use native.Mathlib.Omega.{arith}
use mathlib.Core.Path.{◌∙◌}
use Rattle.packed_twos.specs.Twos.{many}
use Rattle.qcow2_mend.proofs.Wholes.{set_all}
use Rattle.qcow2_mend.proofs.set_counts.Goals as goal

pub returns : goal.returns
returns c =
    let a = c.args in
    let g = c.slice_known-1.given in
    let k = c.shared_slice_known-1.given in
    let f = a.refs.now in
    c.bytes.ensures ∙ set_all a.image.now f (λ x. omega (arith, g x)) (λ x. omega (arith, k x)) a.at (many f) (omega arith) c.requires
