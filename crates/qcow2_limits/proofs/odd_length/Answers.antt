use borrow.Author.Tests.{eq-eqb, ne_eqb}
use native.Mathlib.Omega.{arith}
use Prim.Native.Nat.{◌%◌, ◌^◌}
use mathlib.Core.Path.{◌≡◌}
use lib.ListN.{length}
use Rattle.endian.specs.Big.{be32}
use Rattle.qcow2_spec.specs.Header.{cluster_size}
use Rattle.qcow2_limits.specs.Limits.{odd_length}
use Rattle.qcow2_limits.proofs.odd_length.Goals as goal

pub returns-then-rest-ne0 : goal.returns-then-rest-ne0
unfolding odd_length cluster_size
returns-then-rest-ne0 c =
    let s = c.args.image.now in
    let v : c.rest.result ≡ length s % 2 ^ be32 s 20 = rw (← c.load32.ensures) c.rest.ensures.0 in
    rw (ne_eqb (length s % 2 ^ be32 s 20) 0 (λ e. omega arith))

pub returns : goal.returns
unfolding odd_length cluster_size
returns c =
    let s = c.args.image.now in
    let v : c.rest.result ≡ length s % 2 ^ be32 s 20 = rw (← c.load32.ensures) c.rest.ensures.0 in
    rw (eq-eqb (length s % 2 ^ be32 s 20) 0 (omega arith))
