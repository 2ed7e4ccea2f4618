use native.Mathlib.Omega.{arith}
use borrow.Author.Tests.{eq-eqb, ne_eqb}
use Rattle.endian.specs.Big.{be32}
use Rattle.qcow2_spec.specs.Header.{version}
use Rattle.qcow2_fields.specs.Fields.{other_form}
use Rattle.qcow2_fields.proofs.has_other_form.Goals as goal

pub returns-then-load32-ne3 : goal.returns-then-load32-ne3
unfolding other_form version
returns-then-load32-ne3 c = rw (ne_eqb (be32 c.args.image.now 4) 3 (λ e. omega arith))

pub returns-then-too_wide : goal.returns-then-too_wide
unfolding other_form version
returns-then-too_wide c =
    let s = c.args.image.now in
    rw (eq-eqb (be32 s 4) 3 (omega arith), ← c.load32-2.ensures, ← c.too_wide.ensures, c.if-too_wide.true)

pub returns : goal.returns
unfolding other_form version
returns c =
    let s = c.args.image.now in
    rw (eq-eqb (be32 s 4) 3 (omega arith), ← c.load32-2.ensures, ← c.too_wide.ensures, c.if-too_wide.false, c.load32-3.ensures)
