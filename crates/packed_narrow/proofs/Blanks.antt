-- Laws of figures that are all 0. Assumes nothing.
use Prim.Native.Nat.{ℕ, zero, suc}
use native.Mathlib.Nat.{zero-add}
use native.Mathlib.Omega.{arith}
use mathlib.Core.Path.{◌≡◌, refl, sym, ◌∙◌}
use mathlib.Core.Bool.{true}
use mathlib.Core.List.{List, [], ◌∷◌}
use lib.Dec.{eqb}
use lib.ListN.{length, get_or}
use borrow.Author.Tests.{eqb-true, le-ltb}
use Rattle.choice.specs.Pick.{all, count}
use Rattle.choice.proofs.Tests.{and-true}
use Rattle.choice.proofs.Searches.{count_same}
use Rattle.choice.proofs.Found.{count-false}
use Rattle.packed.specs.Packed.{packed, zero_at, unlike_at, under_at}
use Rattle.packed.specs.Figures.{Tallied}
use Rattle.packed_filled.specs.Filled.{filled_at}

-- every figure is 0
pub zero_figure : (F : List ℕ) → all (λ b. eqb b 0) F ≡ true → (i : ℕ) → get_or F i 0 ≡ 0
zero_figure [] e i = refl
zero_figure (x ∷ F) e zero = eqb-true x 0 (and-true (eqb x 0) _ e).0
zero_figure (x ∷ F) e (suc i) = zero_figure F (and-true (eqb x 0) _ e).1 i

pub blank_counted : (o : ℕ) (l F : List ℕ) (u : ℕ) → all (λ b. eqb b 0) F ≡ true → u ≡ count (filled_at o l) 0 (length F) → Tallied o l F u 0
unfolding unlike_at under_at filled_at zero_at
blank_counted o l F u e h =
    let z = zero_figure F e in (
      h ∙ count_same (filled_at o l) (unlike_at o l F) 0 0 (length F) (λ j k. rw (zero-add, z j) refl),
      sym (count-false (under_at o l F) 0 (length F) (λ x a b. rw (z x) (le-ltb (packed o l x) 0 (omega arith)))),
    )
