use borrow.Author.Tests.{eq-eqb, ne_eqb}
use native.Mathlib.Omega.{arith}
use Rattle.qcow2_spec.specs.Header.{magic}
use Rattle.qcow2_header.specs.Chain.{from2}
use Rattle.qcow2_header.proofs.judge_magic.Goals as goal

pub returns-then-load32-ne-MAGIC : goal.returns-then-load32-ne-MAGIC
unfolding from2
returns-then-load32-ne-MAGIC c = rw (ne_eqb (magic c.args.image.now) 0x514649FB (λ e. omega arith)) cc

pub returns : goal.returns
unfolding from2
returns c = rw (eq-eqb (magic c.args.image.now) 0x514649FB (omega arith)) c.judge_version.ensures
