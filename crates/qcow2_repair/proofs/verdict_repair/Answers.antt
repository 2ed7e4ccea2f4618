use borrow.Author.Rules.{rules}
use mathlib.Core.Path.{refl, ap, ◌∙◌}
use Rattle.std.specs.Prelude.{Ok}
use Rattle.qcow2_spec.specs.Header.{clusters}
use Rattle.qcow2_spec.specs.References.{figures_of}
use Rattle.qcow2_spec.specs.Check.{repair_units, verdict_plan}
use Rattle.qcow2_clear.proofs.Clears.{clear-refused, clear_idle, clear-stored}
use Rattle.qcow2_repair.proofs.Mends.{plan_mends, told, counts_leaking}
use Rattle.qcow2_repair.proofs.verdict_repair.Goals as goal

pub store-requires : goal.store-requires
store-requires c =
    let a = c.args in
    counts_leaking a.g a.image.now a.refs.now a.v _ (λ i. search rules) c.requires.0.0 c.requires.0.1 c.requires.1 c.find_mending.ensures (c.in-Ok-Counts.is ∙ ap Ok c.in-Ok-Counts.field-0-is)

pub returns-in-Err : goal.returns-in-Err
returns-in-Err c =
    let a = c.args in
    let l = a.image.now in
    let e = c.in-Err.ensures in
    rw (c.of.ensures, told l a.v _ c.in-Err.k c.requires.1 e refl) (clear-refused l a.allowance (verdict_plan l a.v) c.in-Err.k (plan_mends l a.v _ _ e refl))

pub returns-in-Ok-Nothing : goal.returns-in-Ok-Nothing
returns-in-Ok-Nothing c =
    let a = c.args in
    let l = a.image.now in
    clear_idle l a.allowance (verdict_plan l a.v) _ (plan_mends l a.v _ _ c.find_mending.ensures (c.in-Ok-Nothing.is ∙ ap Ok c.in-Ok-Nothing.field-0-is)) c.end_of.ensures

pub returns-in-Ok-Counts : goal.returns-in-Ok-Counts
returns-in-Ok-Counts c =
    let a = c.args in
    let l = a.image.now in
    let e = c.find_mending.ensures in
    let h = counts_leaking a.g l a.refs.now a.v _ (λ i. search rules) c.requires.0.0 c.requires.0.1 c.requires.1 e (c.in-Ok-Counts.is ∙ ap Ok c.in-Ok-Counts.field-0-is) in
    clear-stored l a.allowance (verdict_plan l a.v) (repair_units l (figures_of l) 0 (clusters l)) _ _ (plan_mends l a.v _ _ e (c.in-Ok-Counts.is ∙ ap Ok c.in-Ok-Counts.field-0-is)) h.some c.store.ensures
