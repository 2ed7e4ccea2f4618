-- Laws of a part of a list, as the code lends it. Assumes nothing.
use Prim.Native.Nat.{ℕ, ◌+◌, ◌-◌, ◌≤◌}
use native.Mathlib.Nat.{add-sub_cancel_left}
use native.Mathlib.Omega.{arith}
use mathlib.Core.Path.{◌≡◌}
use mathlib.Core.List.{List}
use lib.ListN.{length, take, drop, length-drop}
use lib.Seq.{length-take-le}

-- a part from p to p + c
pub part_of : (s : List ℕ) (p c C : ℕ) → c ≡ C → take (p + c - p) (drop p s) ≡ take C (drop p s)
part_of s p c C e = rw (e, add-sub_cancel_left)

pub length_part : (s : List ℕ) (p C : ℕ) → p + C ≤ length s → length (take C (drop p s)) ≡ C
length_part s p C h = length-take-le C (drop p s) (simp length-drop (omega arith))
