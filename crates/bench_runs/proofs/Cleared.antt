-- The write where the autoclear field is set.
-- Assumes nothing.
use Prim.Native.Nat.{ℕ}
use mathlib.Core.Path.{refl}
use mathlib.Core.List.{[], ◌∷◌}
use Rattle.bench_table.specs.Table.{Cleared}
use Rattle.bench_table.proofs.Quick.{quick}
use Rattle.bench_table.proofs.Table.{computing}

pub quick_cleared : (a b c d e x y z : ℕ) → Cleared quick (a ∷ b ∷ c ∷ d ∷ e ∷ []) x y z
unfolding computing
quick_cleared a b c d e x y z =
    record {
      clear-units = refl;
      clear-0 = refl;
      clear-1 = refl;
      clear-sound = refl;
      clear-all = refl;
      no_bytes = refl;
      no_cluster = refl;
      no_leak = refl;
      version-2 = refl;
    }
