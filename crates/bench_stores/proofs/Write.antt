-- The write of five bytes on the bench image, and what power cuts leave of it.
-- Assumes nothing.
use Prim.Native.Nat.{ℕ}
use mathlib.Core.Path.{refl}
use mathlib.Core.List.{[], ◌∷◌}
use Rattle.bench_table.specs.Table.{Stored, CutEarly, CutLate}
use Rattle.bench_table.proofs.Quick.{quick}
use Rattle.bench_table.proofs.Table.{computing}

pub quick_stored : (a b c d e x y z : ℕ) → Stored quick (a ∷ b ∷ c ∷ d ∷ e ∷ []) x y z
unfolding computing
quick_stored a b c d e x y z =
    record { units = refl; l1_entry = refl; l2_entry = refl; bytes = refl; left = refl; whole = refl; reads = refl }

pub quick_cut_early : (a b c d e x y z : ℕ) → CutEarly quick (a ∷ b ∷ c ∷ d ∷ e ∷ []) x y z
unfolding computing
quick_cut_early a b c d e x y z =
    record { cut_0 = refl; cut_1 = refl; cut_513 = refl }

pub quick_cut_late : (a b c d e x y z : ℕ) → CutLate quick (a ∷ b ∷ c ∷ d ∷ e ∷ []) x y z
unfolding computing
quick_cut_late a b c d e x y z =
    record { cut_514 = refl; cut_1026 = refl; cut_1027 = refl }
