use native.Mathlib.Omega.{arith}
use Prim.Native.Nat.{◌*◌, ◌%◌, ◌^◌}
use mathlib.Core.Path.{◌≡◌}
use lib.Pow.{pow_pos, pow_mono}
use Rattle.power.proofs.Laws.{one_shl}
use Rattle.power.proofs.power.Goals as goal

pub returns : goal.returns
returns c =
    let b = c.args.bits in
    let e : (1 * 2 ^ b) % 18446744073709551616 ≡ 2 ^ b = one_shl b c.requires in
    (e, (omega (arith, pow_pos b), omega (arith, pow_mono c.requires)))
