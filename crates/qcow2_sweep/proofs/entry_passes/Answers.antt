use Rattle.std.proofs.Common.{◌≡◌, ◌^◌, true, not, sym, ap, ◌∙◌}
use Rattle.qcow2_spec.specs.Entries.{good_l2}
use Rattle.qcow2_sweep.proofs.Entries.{bad_fails, bits_passes, else_passes}
use Rattle.qcow2_sweep.proofs.entry_passes.Goals as goal

pub returns-then-kind-eq-BITS : goal.returns-then-kind-eq-BITS
returns-then-kind-eq-BITS c =
    let a = c.args in
    let g : good_l2 a.version (2 ^ a.bits) a.n a.e ≡ true = sym c.good_l2.ensures ∙ c.if-good_l2.true in
    ap not c.is_common.ensures ∙ sym (bits_passes a.kind a.version (2 ^ a.bits) a.n a.e c.if-kind-eq-BITS.true g)

pub returns-then-good_l2 : goal.returns-then-good_l2
returns-then-good_l2 c =
    let a = c.args in
    let g : good_l2 a.version (2 ^ a.bits) a.n a.e ≡ true = sym c.good_l2.ensures ∙ c.if-good_l2.true in
    sym (else_passes a.kind a.version (2 ^ a.bits) a.n a.e c.if-kind-eq-BITS.false ∙ g)

pub returns : goal.returns
returns c =
    let a = c.args in
    sym (bad_fails a.kind a.version (2 ^ a.bits) a.n a.e (sym c.good_l2.ensures ∙ c.if-good_l2.false))
