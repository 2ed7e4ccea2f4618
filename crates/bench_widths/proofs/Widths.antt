-- The bench image with counts of other widths.
-- Assumes nothing.
use Prim.Native.Nat.{ℕ}
use mathlib.Core.Path.{refl}
use mathlib.Core.List.{[], ◌∷◌}
use Rattle.bench_table.specs.Table.{Widths}
use Rattle.bench_table.proofs.Quick.{quick}
use Rattle.bench_table.proofs.Table.{computing}

pub quick_widths : (a b c d e : ℕ) → Widths quick (a ∷ b ∷ c ∷ d ∷ e ∷ [])
unfolding computing
quick_widths a b c d e =
    record {
      one-sound = refl;
      one-units = refl;
      one-first = refl;
      one-both = refl;
      one_cut = refl;
      one-mended = refl;
      one-whole = refl;
      one-freed = refl;
      two-sound = refl;
      two-both = refl;
      four-sound = refl;
      four-both = refl;
      eight-sound = refl;
      eight-both = refl;
      wide-sound = refl;
      wide_both = refl;
      wide-leak = refl;
      widest_sound = refl;
      widest_both = refl;
      cut_off = refl;
      just_below = refl;
      order-7 = refl;
      version-2 = refl;
      one_block = refl;
      two_blocks = refl;
    }
