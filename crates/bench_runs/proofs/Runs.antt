-- Runs of the bench image's bytes.
-- Assumes nothing.
use Prim.Native.Nat.{ℕ}
use mathlib.Core.Path.{refl}
use mathlib.Core.List.{[], ◌∷◌}
use Rattle.bench_table.specs.Table.{Runs}
use Rattle.bench_table.proofs.Quick.{quick}
use Rattle.bench_table.proofs.Table.{computing}

pub quick_runs : (a b c d e x y z : ℕ) → Runs quick (a ∷ b ∷ c ∷ d ∷ e ∷ []) x y z
unfolding computing
quick_runs a b c d e x y z =
    record { none = refl; past = refl; last = refl; absent = refl; begins = refl; apart = refl; no_room = refl; marks = refl }
