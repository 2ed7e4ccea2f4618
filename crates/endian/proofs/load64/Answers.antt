use native.Mathlib.Nat.{add_assoc}
use native.Mathlib.Omega.{arith}
use Rattle.endian.specs.Big.{be64, be32, be16}
use Rattle.endian.proofs.load64.Goals as goal

pub returns : goal.returns
unfolding be64 be32 be16
returns c = simp add_assoc (omega (arith, c.from_be_bytes.ensures))
