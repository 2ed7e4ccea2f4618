-- Laws of an entry's place.
-- Assumes nothing.
use Prim.Native.Nat.{ℕ, ◌+◌, ◌%◌, ◌/◌, ◌^◌, ◌<◌, ◌≤◌}
use mathlib.Core.Path.{◌≡◌, refl}
use mathlib.Core.Bool.{Bool, true, false, ◌||◌}
use borrow.Author.Tests.{eq-eqb, ne_eqb, le-leb, lt-leb}
use lib.Dec.{eqb}
use Rattle.qcow2_spec.specs.Entries.{place, good_place}

or-none : (b : Bool) → (b || false) ≡ b
or-none true = refl
or-none false = refl

pub place_none : (C n e : ℕ) → place e ≡ 0 → good_place C n e ≡ eqb (e / 2 ^ 63) 0
unfolding good_place
place_none C n e h = rw (eq-eqb (place e) 0 h) (or-none _)

pub place-odd : (C n e : ℕ) → (place e ≡ 0 → ⊥) → (place e % C ≡ 0 → ⊥) → good_place C n e ≡ false
unfolding good_place
place-odd C n e h g = rw (ne_eqb (place e) 0 h, ne_eqb (place e % C) 0 g)

pub place-past : (C n e : ℕ) → (place e ≡ 0 → ⊥) → place e % C ≡ 0 → n < place e + C → good_place C n e ≡ false
unfolding good_place
place-past C n e h g l = rw (ne_eqb (place e) 0 h, eq-eqb (place e % C) 0 g, lt-leb (place e + C) n l)

pub place_in : (C n e : ℕ) → (place e ≡ 0 → ⊥) → place e % C ≡ 0 → place e + C ≤ n → good_place C n e ≡ true
unfolding good_place
place_in C n e h g l = rw (ne_eqb (place e) 0 h, eq-eqb (place e % C) 0 g, le-leb (place e + C) n l)
