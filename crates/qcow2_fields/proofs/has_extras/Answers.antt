use native.Mathlib.Omega.{arith}
use borrow.Author.Tests.{eq-eqb, ne_eqb}
use Rattle.endian.specs.Big.{be32}
use Rattle.qcow2_spec.specs.Header.{unsupported, snapshots}
use Rattle.qcow2_fields.specs.Fields.{other_form}
use Rattle.qcow2_fields.proofs.has_extras.Goals as goal

pub returns-then-load32-ne0 : goal.returns-then-load32-ne0
unfolding unsupported
returns-then-load32-ne0 c = rw (ne_eqb (be32 c.args.image.now 32) 0 (λ e. omega arith))

pub returns-then-too_many : goal.returns-then-too_many
unfolding unsupported snapshots
returns-then-too_many c =
    let s = c.args.image.now in
    rw (eq-eqb (be32 s 32) 0 (omega arith), ← c.load32-2.ensures, ← c.too_many.ensures, c.if-too_many.true)

pub returns : goal.returns
unfolding unsupported other_form snapshots
returns c =
    let s = c.args.image.now in
    rw (eq-eqb (be32 s 32) 0 (omega arith), ← c.load32-2.ensures, ← c.too_many.ensures, c.if-too_many.false)
    c.has_other_form.ensures
