-- Laws of the searches for a flagged cluster. A number's two bytes are turned round in t.
-- Assumes nothing.
use Rattle.std.specs.Prelude.{if◌then◌else◌}
use Prim.Native.Nat.{ℕ, ◌+◌, ◌-◌, ◌*◌, ◌/◌, ◌%◌, ◌≤◌, ◌<◌}
use native.Mathlib.Omega.{arith}
use mathlib.Core.Path.{◌≡◌, refl, sym, ap, ◌∙◌}
use mathlib.Core.Logic.{◌≢◌}
use mathlib.Core.Bool.{Bool, true, false, ◌||◌}
use mathlib.Core.List.{List}
use lib.Bits.{bit_or}
use lib.Dec.{ltb}
use lib.ListN.{get_or}
use borrow.Author.Tests.{eq-eqb, ne_eqb, lt-ltb, le-ltb, ltb-true, ltb-false}
use Rattle.choice.specs.Pick.{first}
use Rattle.choice.proofs.Searches.{first_turn, first-none}
use Rattle.choice.proofs.Runs.{first-high}
use Rattle.choice.proofs.Found.{first-false}
use Rattle.power.proofs.Together.{or_high, or_low}
use Rattle.endian.specs.Big.{be16}
use Rattle.tally.specs.States.{bad_mark, flag}

abbrev pub turn : ℕ → ℕ
turn t = t % 256 * 256 + t / 256

pub turn_is : (l : List ℕ) (at a b : ℕ) → a ≡ get_or l at 0 → a < 256 → b ≡ get_or l (at + 1) 0 → turn (a + b * 256) ≡ be16 l at
unfolding be16
turn_is l at a b e h f = let x : (a + b * 256) % 256 ≡ a = omega arith in let y : (a + b * 256) / 256 ≡ b = omega arith in rw (x, y, e, f)

module _ (t : ℕ) where
  pub flag-zero : (alone : Bool) → t ≡ 0 → flag alone (turn t) ≡ false
  unfolding bad_mark
  flag-zero true e = le-ltb 1 (turn t) (omega arith)
  flag-zero false e = let z : turn t ≡ 0 = omega arith in rw z refl

  pub flag_one : (alone : Bool) → alone ≡ true → t ≡ 256 → flag alone (turn t) ≡ false
  flag_one alone a e = rw a (le-ltb 1 (turn t) (omega arith))

  pub flag-more : (alone : Bool) → alone ≡ true → t ≢ 0 → t ≢ 256 → flag alone (turn t) ≡ true
  flag-more alone a d e = rw a (lt-ltb 1 (turn t) (omega arith))

  pub flag-bad : (alone : Bool) → alone ≡ false → t ≢ 0 → t / 256 % 4 ≡ 0 → flag alone (turn t) ≡ true
  unfolding bad_mark
  flag-bad alone a d e = rw (a, ne_eqb (turn t) 0 (λ z. omega (arith, z)), eq-eqb (turn t % 4) 0 (omega arith)) refl

  pub flag-good : (alone : Bool) → alone ≡ false → t ≢ 0 → t / 256 % 4 ≢ 0 → flag alone (turn t) ≡ false
  unfolding bad_mark
  flag-good alone a d e = rw (a, ne_eqb (turn t) 0 (λ z. omega (arith, z)), ne_eqb (turn t % 4) 0 (λ z. omega (arith, z))) refl

-- ---- whether one of n passes: found before cluster k, or from it on
module _ (p : ℕ → Bool) (n : ℕ) where
  pub some_first : (ltb (first p 0 (n - 0)) n) ≡ ltb (first p 0 n) n
  some_first = let z : n - 0 ≡ n = omega arith in rw z refl

  pub some_next : (k : ℕ) (found : Bool) {r : Bool} → k < n → (found || ltb (first p k (n - k)) n) ≡ r → ((p k || found) || ltb (first p (k + 1) (n - (k + 1))) n) ≡ r
  some_next k found {r} l e = go (p k) refl found (rw (first_turn p k n l) at e)
    where
      go : (b : Bool) → p k ≡ b → (f : Bool) → (f || ltb (if p k then k else first p (k + 1) (n - (k + 1))) n) ≡ r → ((p k || f) || ltb (first p (k + 1) (n - (k + 1))) n) ≡ r
      go true h true g = rw h g
      go true h false g = rw h (sym (lt-ltb k n l) ∙ (rw h at g))
      go false h f g = rw h (rw h at g)

  pub some_done : (k : ℕ) (found : Bool) {r : Bool} → n ≤ k → (found || ltb (first p k (n - k)) n) ≡ r → found ≡ r
  some_done k found {r} l e = go found (rw (first-none p k n l, le-ltb k n l) at e)
    where
      go : (f : Bool) → (f || false) ≡ r → f ≡ r
      go true g = g
      go false g = g

  pub some-none : ltb (first p 0 n) n ≡ false → n ≡ first p 0 n
  some-none e = omega (arith, ltb-false (first p 0 n) n e, first-high p 0 n)

-- ---- the bits of all numbers put together
-- what is seen has the bytes of the first k numbers
abbrev pub Seen : List ℕ → (seen k : ℕ) → Type 0
Seen l seen k = (i : ℕ) → i < k → (be16 l (2 * i) / 256 ≤ seen % 256) × (be16 l (2 * i) % 256 ≤ seen / 256)

pub seen_next : (l : List ℕ) (seen k t : ℕ) → t < 65536 → turn t ≡ be16 l (2 * k) → Seen l seen k → Seen l (bit_or seen t) (k + 1)
seen_next l seen k t h e s i j = go (ltb i k) refl
  where
    go : (b : Bool) → ltb i k ≡ b → (be16 l (2 * i) / 256 ≤ bit_or seen t % 256) × (be16 l (2 * i) % 256 ≤ bit_or seen t / 256)
    go true m =
        let p = s i (ltb-true i k m) in
        (omega (arith, p.0, (or_high seen t).0), omega (arith, p.1, (or_low seen t).0))
    go false m =
        let d : i ≡ k = omega (arith, ltb-false i k m, j) in
        let x : be16 l (2 * i) ≡ turn t = ap (λ (n : ℕ). be16 l (2 * n)) d ∙ sym e in
        (omega (arith, x, h, (or_high seen t).1), omega (arith, x, h, (or_low seen t).1))

pub seen_single : (l : List ℕ) (seen n : ℕ) → Seen l seen n → seen % 256 ≡ 0 → seen / 256 ≤ 1 → n ≡ first (λ k. flag true (be16 l (2 * k))) 0 n
seen_single l seen n s z o =
    sym (first-false (λ k. flag true (be16 l (2 * k))) 0 n (λ i a b. le-ltb 1 (be16 l (2 * i)) (let p = s i (omega arith) in omega (arith, p.0, p.1, z, o))) ∙ omega arith)
