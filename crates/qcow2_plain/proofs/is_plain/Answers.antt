use Rattle.std.proofs.Common.{sym, ◌∙◌, rules}
use Rattle.qcow2_plain.proofs.Doubled.{doubled_past, doubled_in}
use Rattle.qcow2_plain.proofs.is_plain.Goals as goal

pub returns-then-n-power : goal.returns-then-n-power
returns-then-n-power c =
    let a = c.args in
    let h = rw c.power.ensures.0 at c.if-n-power.true in
    sym (doubled_past a.bits a.n a.e c.wrapping_sub_u64-y.result c.requires.1.1 (c.wrapping_sub_u64-y.ensures.value ∙ c.twice.ensures) (search rules) h)

pub returns : goal.returns
returns c =
    let a = c.args in
    let h = rw c.power.ensures.0 at c.if-n-power.false in
    rw c.rest.ensures.0
    (sym (doubled_in a.bits a.n a.e c.wrapping_sub_u64-y.result c.requires.1.1 (c.wrapping_sub_u64-y.ensures.value ∙ c.twice.ensures) (search rules) c.requires.0 h))
