use native.Mathlib.Omega.{arith}
use mathlib.Core.Path.{sym, ◌∙◌}
use Rattle.qcow2_clear.proofs.Clears.{clear_old, clear_none, clear-one, uncleared}
use Rattle.qcow2_clear.proofs.clear_field.Goals as goal

pub load64-features-requires : goal.load64-features-requires
load64-features-requires c = omega (arith, c.requires.0)

pub store_entry-requires : goal.store_entry-requires
store_entry-requires c = omega (arith, c.requires.0)

pub returns-then-version-ne3 : goal.returns-then-version-ne3
returns-then-version-ne3 c =
    let l = c.args.image.now in
    uncleared l c.args.allowance (clear_old l (λ z. c.if-version-ne3.true (c.requires.1 ∙ z)))

pub returns-then-features-eq0 : goal.returns-then-features-eq0
returns-then-features-eq0 c =
    let l = c.args.image.now in
    uncleared l c.args.allowance (clear_none l (sym c.requires.1 ∙ c.if-version-ne3.false) (sym c.load64-features.ensures ∙ c.if-features-eq0.true))

pub returns : goal.returns
returns c =
    let l = c.args.image.now in
    rw (clear-one l (sym c.requires.1 ∙ c.if-version-ne3.false) (λ z. c.if-features-eq0.false (c.load64-features.ensures ∙ z))) c.store_entry.ensures
