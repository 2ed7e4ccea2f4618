-- Calls after the write of five bytes on the bench image, and ranges at their ends.
-- Assumes nothing.
use Prim.Native.Nat.{ℕ}
use mathlib.Core.Path.{refl}
use mathlib.Core.List.{[], ◌∷◌}
use Rattle.bench_table.specs.Table.{Repaired, Next, Discarded, Full, Edges}
use Rattle.bench_table.proofs.Quick.{quick}
use Rattle.bench_table.proofs.Table.{computing}

pub quick_repaired : (a b c d e x y z : ℕ) → Repaired quick (a ∷ b ∷ c ∷ d ∷ e ∷ []) x y z
unfolding computing
quick_repaired a b c d e x y z =
    record { repair-cost = refl; repair-left = refl }

pub quick_next : (a b c d e x y z : ℕ) → Next quick (a ∷ b ∷ c ∷ d ∷ e ∷ []) x y z
unfolding computing
quick_next a b c d e x y z =
    record { again = refl; beside = refl; beside-place = refl }

pub quick_discarded : (a b c d e x y z : ℕ) → Discarded quick (a ∷ b ∷ c ∷ d ∷ e ∷ []) x y z
unfolding computing
quick_discarded a b c d e x y z =
    record { discard = refl; discard_cut = refl }

pub quick_full : (a b c d e x y z : ℕ) → Full quick (a ∷ b ∷ c ∷ d ∷ e ∷ []) x y z
unfolding computing
quick_full a b c d e x y z =
    record { needs_two = refl; needs_one = refl }

pub quick_edges : (a b c d e x y z : ℕ) → Edges quick (a ∷ b ∷ c ∷ d ∷ e ∷ []) x y z
unfolding computing
quick_edges a b c d e x y z =
    record { read_none = refl; read_one = refl; read_past = refl; write_two = refl; write-three = refl }
