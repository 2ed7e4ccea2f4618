use mathlib.Core.Path.{sym, ◌∙◌}
use Rattle.qcow2_kept.proofs.Bytes.{kept-refused, kept_idle, kept_next}
use Rattle.qcow2_kept.proofs.keep.Goals as goal

pub returns-then-is_err : goal.returns-then-is_err
returns-then-is_err c = let a = c.args in kept-refused a.bytes.now a.st a.may a.p (sym c.is_err.ensures.value ∙ c.if-is_err.true)

pub returns-then-is_idle : goal.returns-then-is_idle
returns-then-is_idle c = let a = c.args in kept_idle a.bytes.now a.st a.may a.p (sym c.is_err.ensures.value ∙ c.if-is_err.false) (sym c.is_idle.ensures ∙ c.if-is_idle.true)

pub returns : goal.returns
returns c =
    let a = c.args in
    kept_next a.bytes.now a.st a.may a.p _ (sym c.is_err.ensures.value ∙ c.if-is_err.false) (sym c.is_idle.ensures ∙ c.if-is_idle.false) c.store.ensures
