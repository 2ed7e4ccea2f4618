use borrow.Author.Tests.{lt-ltb, le-ltb}
use Rattle.qcow2_spec.specs.Header.{least_bits}
use Rattle.qcow2_limits.proofs.wrong_bits.Goals as goal

pub returns-then-bits-lt-LEAST_BITS : goal.returns-then-bits-lt-LEAST_BITS
returns-then-bits-lt-LEAST_BITS c = rw (lt-ltb _ least_bits c.if-bits-lt-LEAST_BITS.true)

pub returns : goal.returns
returns c = rw (le-ltb _ least_bits c.if-bits-lt-LEAST_BITS.false)
