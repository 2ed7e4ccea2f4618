-- The answer by the tests, one after the other. Assumes nothing.
use Prim.Native.Nat.{ℕ, ◌+◌, ◌-◌, ◌*◌, ◌/◌, ◌≤◌, ◌<◌}
use native.Mathlib.Omega.{arith}
use mathlib.Core.Path.{◌≡◌}
use mathlib.Core.Bool.{Bool, true, false}
use mathlib.Core.List.{List}
use lib.ListN.{length, take, drop}
use borrow.Author.Tests.{lt-ltb, le-ltb}
use Rattle.qcow2_batches.specs.Batch.{clash}
use Rattle.qcow2_batches.specs.declared.Planned.TheVariants.{Ends, Rows}
use Rattle.qcow2_phases.specs.Ends.{in_rows, torn, plan_of}

module _ (held own : List ℕ) (a b c : Bool) (e : a ≡ clash (in_rows 1 own) (in_rows 3 held)) where
  pub torn-first : a ≡ true → true ≡ torn held own
  unfolding torn
  torn-first t = rw (← e, t)

  module _ (f : b ≡ clash (in_rows 1 held) (in_rows 3 own)) where
    pub torn-second : a ≡ false → b ≡ true → true ≡ torn held own
    unfolding torn
    torn-second t u = rw (← e, t, ← f, u)

    pub torn-third : a ≡ false → b ≡ false → c ≡ clash (in_rows 1 own) (in_rows 3 own) → c ≡ torn held own
    unfolding torn
    torn-third t u g = rw (← e, t, ← f, u) g

module _ (rows : List ℕ) (k n : ℕ) where
  pub plan_full : length rows / 4 < k + n → Ends ≡ plan_of rows k n
  unfolding plan_of
  plan_full h = rw (lt-ltb (length rows / 4) (k + n) h)

  module _ (h : k + n ≤ length rows / 4) (b : Bool) (e : b ≡ torn (take (4 * k) rows) (take (4 * k + 4 * n - 4 * k) (drop (4 * k) rows))) where
    own : b ≡ torn (take (4 * k) rows) (take (4 * n) (drop (4 * k) rows))
    own = let f : 4 * k + 4 * n - 4 * k ≡ 4 * n = omega arith in rw f at e

    pub plan_torn : b ≡ true → Ends ≡ plan_of rows k n
    unfolding plan_of
    plan_torn t = rw (le-ltb (length rows / 4) (k + n) h, ← own, t)

    pub plan_rows : b ≡ false → Rows (k + n) ≡ plan_of rows k n
    unfolding plan_of
    plan_rows t = rw (le-ltb (length rows / 4) (k + n) h, ← own, t)
