use native.Mathlib.Omega.{arith}
use Prim.Native.Nat.{◌+◌, ◌-◌}
use mathlib.Core.Path.{◌≡◌, refl, ◌∙◌}
use lib.ListN.{length}
use Rattle.qcow2_under.proofs.Laws.{lent_none, lent_some}
use Rattle.qcow2_under.proofs.put_lent.Goals as goal

pub returns-then-len-x : goal.returns-then-len-x
returns-then-len-x c =
    let a = c.args in
    c.zeros.ensures ∙ lent_none a.backing.now a.x (length a.part.now) a.part.now refl (omega arith)

pub returns : goal.returns
returns c =
    let a = c.args in
    let m = c.min-m.result in
    let d : a.x + m - a.x ≡ m = omega arith in
    rw (c.bytes.ensures, d) at c.zeros-2.ensures ∙ lent_some a.backing.now a.x (length a.part.now) a.part.now refl m c.min-m.ensures
