-- Numbers that fill 2 ^ e bytes. Assumes nothing.
use Prim.Native.Nat.{ℕ, ◌+◌, ◌-◌, ◌*◌, ◌^◌, ◌≤◌}
use native.Mathlib.Omega.{arith}
use mathlib.Core.Path.{◌≡◌, sym, ap, ◌∙◌}
use mathlib.Core.Bool.{Bool}
use lib.Pow.{pow-add}
use Rattle.packed_zerowords.specs.Found.{some}

pub group-fill : (o e : ℕ) → o ≤ e + 3 → 2 ^ o * 2 ^ (e + 3 - o) ≡ 8 * 2 ^ e
group-fill o e h =
    let s : o + (e + 3 - o) ≡ 3 + e = omega arith in
    sym (pow-add 2 o (e + 3 - o)) ∙ ap (λ (x : ℕ). 2 ^ x) s ∙ pow-add 2 3 e

pub some_same : (p : ℕ → Bool) {m n : ℕ} {r : Bool} → m ≡ n → r ≡ some p m → r ≡ some p n
some_same p e h = h ∙ ap (some p) e
