use mathlib.Core.Path.{◌≡◌, sym, ◌∙◌}
use Prim.Native.Nat.{◌-◌, ◌/◌, ◌%◌, ◌^◌}
use Rattle.qcow2_found.proofs.Marked.{entry-way}
use Rattle.qcow2_guest.proofs.Bytes.{found}
use Rattle.qcow2_stretch.proofs.found_below.Goals as goal

pub returns : goal.returns
returns c =
    let a = c.args in
    let i : c.rest-i.result ≡ a.x / 2 ^ a.g.bits % 2 ^ (a.g.bits - 3) = rw (← c.quotient.ensures.0) c.rest-i.ensures.0 in
    c.found.ensures ∙ rw c.rest.ensures.0 (sym (entry-way _ _ _ _ _ _) ∙ found a.g a.image.now c.requires.0 a.t a.x c.requires.1 _ _ i c.load64-e.ensures)
