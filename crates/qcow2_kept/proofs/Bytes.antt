-- Numbers side by side in bytes: stores one after another, and the state that they are.
-- Assumes nothing.
use Prim.Native.Nat.{ℕ, ◌+◌, ◌≤◌}
use native.Mathlib.Omega.{arith}
use mathlib.Core.Path.{◌≡◌, refl, ◌∙◌}
use mathlib.Core.Bool.{true, false, ◌||◌}
use mathlib.Core.List.{List, ◌++◌}
use lib.Dec.{eqb}
use lib.ListN.{length, length-append}
use borrow.Author.Tests.{ne_eqb}
use Rattle.endian.specs.Big.{be64, bytes64, splice}
use Rattle.endian.proofs.Laws.{splice-next, splice-whole, length-bytes64}
use Rattle.qcow2_spec.specs.declared.Verdict.{Verdict}
use Rattle.qcow2_portion.specs.declared.CheckState.{CheckState}
use Rattle.qcow2_portion.specs.declared.CheckState.TheVariants.{New, Going, Finished}
use Rattle.qcow2_portion.specs.declared.Portion.{Portion}
use Rattle.qcow2_kept.specs.declared.Numbers.{Numbers}
use Rattle.qcow2_kept.specs.Kept.{numbers_at, verdict_of, state_of, seven_bytes, state_bytes, is_finished, is_refused, kept_after}

-- two and three numbers in a row
pub length_two : (a b : ℕ) → length (bytes64 a ++ bytes64 b) ≡ 16
length_two a b = length-append (bytes64 a) (bytes64 b) ∙ omega (arith, length-bytes64 a, length-bytes64 b)

pub length_three : (a b c : ℕ) → length (bytes64 a ++ bytes64 b ++ bytes64 c) ≡ 24
length_three a b c = length-append (bytes64 a ++ bytes64 b) (bytes64 c) ∙ omega (arith, length_two a b, length-bytes64 c)

pub length-four : (a b c d : ℕ) → length (bytes64 a ++ bytes64 b ++ bytes64 c ++ bytes64 d) ≡ 32
length-four a b c d = length-append (bytes64 a ++ bytes64 b ++ bytes64 c) (bytes64 d) ∙ omega (arith, length_three a b c, length-bytes64 d)

module _ (l : List ℕ) (at a b c : ℕ) where
  pub two-stored : (x y : List ℕ) (next : ℕ) → next ≡ at + 8 → at + 16 ≤ length l → x ≡ splice l at (bytes64 a) → y ≡ splice x next (bytes64 b) → y ≡ splice l at (bytes64 a ++ bytes64 b)
  two-stored x y next n h e f = f ∙ rw e (splice-next l at next (bytes64 a) (bytes64 b) (omega (arith, length-bytes64 a)) (omega (arith, length-bytes64 b)))

  pub three-stored : (y z : List ℕ) (next : ℕ) → next ≡ at + 16 → at + 24 ≤ length l → y ≡ splice l at (bytes64 a ++ bytes64 b) → z ≡ splice y next (bytes64 c) → z ≡ splice l at (bytes64 a ++ bytes64 b ++ bytes64 c)
  three-stored y z next n h e f = f ∙ rw e (splice-next l at next (bytes64 a ++ bytes64 b) (bytes64 c) (omega (arith, length_two a b)) (omega (arith, length-bytes64 c)))

  pub four-stored : (d : ℕ) (z u : List ℕ) (next : ℕ) → next ≡ at + 24 → at + 32 ≤ length l → z ≡ splice l at (bytes64 a ++ bytes64 b ++ bytes64 c) → u ≡ splice z next (bytes64 d) → u ≡ splice l at (bytes64 a ++ bytes64 b ++ bytes64 c ++ bytes64 d)
  four-stored d z u next n h e f = f ∙ rw e (splice-next l at next (bytes64 a ++ bytes64 b ++ bytes64 c) (bytes64 d) (omega (arith, length_three a b c)) (omega (arith, length-bytes64 d)))

pub seven_stored : (l x y : List ℕ) (stage root row : ℕ) (n : Numbers) → length l ≡ 56 → x ≡ splice l 0 (bytes64 stage ++ bytes64 root ++ bytes64 row)
    → y ≡ splice x 24 (bytes64 n.kind ++ bytes64 n.a ++ bytes64 n.b ++ bytes64 n.c) → y ≡ seven_bytes stage root row n
unfolding seven_bytes
seven_stored l x y stage root row n h e f =
    let p : List ℕ = bytes64 stage ++ bytes64 root ++ bytes64 row in
    let q : List ℕ = bytes64 n.kind ++ bytes64 n.a ++ bytes64 n.b ++ bytes64 n.c in
    f ∙ rw e (splice-next l 0 24 p q (omega (arith, length_three stage root row)) (omega (arith, length-four n.kind n.a n.b n.c))
    ∙ splice-whole l (p ++ q) (length-append p q ∙ omega (arith, length_three stage root row, length-four n.kind n.a n.b n.c)))

-- ---- the state by its first number
module _ (l : List ℕ) where
  pub state_new : be64 l 0 ≡ 0 → New ≡ state_of l
  unfolding state_of
  state_new e = rw e refl

  pub state_going : be64 l 0 ≡ 1 → (t i : ℕ) (v : Verdict) → t ≡ be64 l 8 → i ≡ be64 l 16 → v ≡ verdict_of (numbers_at l) → Going t i v ≡ state_of l
  unfolding state_of
  state_going e t i v ht hi hv = rw (e, ht, hi, hv) refl

  pub state_finished : (be64 l 0 ≡ 0 → ⊥) → (be64 l 0 ≡ 1 → ⊥) → (v : Verdict) → v ≡ verdict_of (numbers_at l) → Finished v ≡ state_of l
  unfolding state_of
  state_finished a b v hv = rw (ne_eqb (be64 l 0) 0 a, ne_eqb (be64 l 0) 1 b, hv) refl

-- ---- what is kept
module _ (l : List ℕ) (st : CheckState) (may : ℕ) (p : Portion) where
  pub kept-refused : is_refused p.answer ≡ true → l ≡ kept_after l st may p
  unfolding kept_after
  kept-refused e = rw e refl

  pub kept_idle : is_refused p.answer ≡ false → (eqb may 0 || is_finished st) ≡ true → l ≡ kept_after l st may p
  unfolding kept_after
  kept_idle e h = rw (e, h) refl

  pub kept_next : (y : List ℕ) → is_refused p.answer ≡ false → (eqb may 0 || is_finished st) ≡ false → y ≡ state_bytes p.state → y ≡ kept_after l st may p
  unfolding kept_after
  kept_next y e h f = rw (e, h) f
