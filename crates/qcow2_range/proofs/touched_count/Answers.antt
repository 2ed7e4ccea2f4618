use native.Mathlib.Omega.{arith}
use lib.Pow.{pow_pos}
use Prim.Native.Nat.{◌+◌, ◌-◌, ◌/◌, ◌^◌, ◌≤◌}
use mathlib.Core.Path.{◌≡◌}
use Rattle.qcow2_guest.proofs.Numbers.{touched_none, touched-some, div_mono}
use Rattle.qcow2_range.proofs.touched_count.Goals as goal

pub returns-then-len-eq0 : goal.returns-then-len-eq0
returns-then-len-eq0 c = let e : c.args.len ≡ 0 = omega arith in cc (touched_none (2 ^ c.args.bits) c.args.x)

pub overflow_sub-result : goal.overflow_sub-result
overflow_sub-result c =
    let a = c.args in
    let l : a.x / 2 ^ a.bits ≤ (a.x + (a.len - 1)) / 2 ^ a.bits = div_mono (2 ^ a.bits) _ _ (pow_pos a.bits) (omega arith) in
    omega arith

pub returns : goal.returns
returns c =
    let a = c.args in
    cc (touched-some (2 ^ a.bits) a.x a.len (omega arith))
