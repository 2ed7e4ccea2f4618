use native.Mathlib.Omega.{arith}
use native.Mathlib.Nat.{mul-le-mul, one-mul, mul-le-mul_right}
use Prim.Native.Nat.{ℕ, ◌-◌, ◌*◌, ◌≤◌}
use Rattle.qcow2_guest.specs.Rows.{row_left}
use Rattle.qcow2_guest.proofs.row_left.Goals as goal

pub overflow_mul-room : goal.overflow_mul-room
overflow_mul-room c =
    let h : c.power.result - c.rest.result ≤ 2147483648 = omega arith in
    let k : c.power-2.result ≤ 2147483648 = omega arith in
    omega (arith, mul-le-mul h k)

-- at least one entry is left
room : (n C r : ℕ) → 1 ≤ n → r ≤ C → r ≤ n * C
room n C r h l = omega (arith, mul-le-mul_right C h, one-mul C)

pub overflow_sub-room : goal.overflow_sub-room
overflow_sub-room c = room (c.power.result - c.rest.result) c.power-2.result c.rest-2.result (omega arith) (omega arith)

pub returns : goal.returns
unfolding row_left
returns c =
    rw (← c.quotient.ensures.0, ← c.rest.ensures.0, ← c.rest-2.ensures.0, ← c.power-2.ensures.0, ← c.power.ensures.0) c.min.ensures
