use borrow.Author.Tests.{eq-eqb, ne_eqb}
use mathlib.Core.Path.{◌≡◌, refl, sym, ◌∙◌}
use mathlib.Core.Bool.{Bool, true, false, ◌||◌}
use Prim.Native.Nat.{ℕ}
use lib.Dec.{eqb}
use Rattle.qcow2_taken.specs.Taking.{names_new}
use Rattle.qcow2_taken.proofs.new_entries.entry_new.Goals as goal

-- the two tests in the other order
placed : (e x p : ℕ) → e ≡ x → e ≡ p → true ≡ names_new x p
placed e x p f g = go (eqb x 0)
  where
    go : (b : Bool) → true ≡ (b || eqb x p)
    go true = refl
    go false = sym (eq-eqb x p (sym f ∙ g))

unplaced : (e x p : ℕ) → e ≡ x → (e ≡ p → ⊥) → eqb e 0 ≡ names_new x p
unplaced e x p f g = rw f (go (eqb x 0))
  where
    go : (b : Bool) → b ≡ (b || eqb x p)
    go true = refl
    go false = sym (ne_eqb x p (λ h. g (f ∙ h)))

pub returns-then-e-i : goal.returns-then-e-i
returns-then-e-i c = placed _ _ _ c.load64-e.ensures c.if-e-i.true

pub returns : goal.returns
returns c = unplaced _ _ _ c.load64-e.ensures c.if-e-i.false
