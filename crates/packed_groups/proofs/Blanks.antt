-- Numbers whose figures are 0. Assumes nothing.
use Prim.Native.Nat.{ℕ, ◌+◌, ◌-◌, ◌≤◌, ◌<◌}
use native.Mathlib.Omega.{arith}
use mathlib.Core.Path.{◌≡◌, refl, sym, ◌∙◌}
use mathlib.Core.Bool.{true}
use mathlib.Core.List.{List}
use lib.Dec.{eqb}
use lib.ListN.{get_or, take, drop}
use lib.Seq.{get_or-take, get_or-drop}
use borrow.Author.Tests.{le-ltb}
use Rattle.choice.specs.Pick.{all, count}
use Rattle.choice.proofs.Searches.{count_same}
use Rattle.choice.proofs.Found.{count-false}
use Rattle.packed.specs.Packed.{packed, zero_at, unlike_at, under_at}
use Rattle.packed_filled.specs.Filled.{filled_at}
use Rattle.packed_narrow.proofs.Blanks.{zero_figure}

-- where all of them are
module _ (o : ℕ) (l F : List ℕ) (k d u : ℕ) (e : all (λ b. eqb b 0) (take d (drop k F)) ≡ true) where
  none : (i : ℕ) → i < d → get_or F (k + i) 0 ≡ 0
  none i b = sym (get_or-take d (drop k F) i 0 b ∙ get_or-drop k F i 0) ∙ zero_figure (take d (drop k F)) e i

  none-at : (x : ℕ) → k ≤ x → x < k + d → get_or F x 0 ≡ 0
  none-at x a b = let w : k + (x - k) ≡ x = omega arith in rw w at (none (x - k) (omega arith))

  pub blank_within : u ≡ count (filled_at o l) k d → (u ≡ count (unlike_at o l F) k d) × (0 ≡ count (under_at o l F) k d)
  unfolding unlike_at under_at filled_at zero_at
  blank_within h = (
    h ∙ count_same (filled_at o l) (unlike_at o l F) k k d (λ j b. rw (none j b) refl),
    sym (count-false (under_at o l F) k d (λ x a b. rw (none-at x a b) (le-ltb (packed o l x) 0 (omega arith)))),
  )
