-- 1 for a test that passes, as the code counts it. Assumes nothing.
use Rattle.std.specs.Prelude.{if◌then◌else◌}
use Prim.Native.Nat.{ℕ}
use mathlib.Core.Bool.{Bool, true, false}
use mathlib.Core.Path.{◌≡◌, refl}
use mir.Val.{bool_byte}

pub byte_if : (t : Bool) → ◌≡◌ {A = ℕ} (bool_byte t) (if t then 1 else 0)
byte_if true = refl
byte_if false = refl
