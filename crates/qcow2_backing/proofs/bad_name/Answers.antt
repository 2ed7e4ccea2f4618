use borrow.Author.Tests.{lt-ltb, ltb-true, ltb-false}
use native.Mathlib.Omega.{arith}
use Prim.Native.Nat.{ℕ, ◌+◌, ◌-◌}
use mathlib.Core.Path.{◌≡◌, refl, sym}
use mathlib.Core.Bool.{Bool, true, false, ◌||◌}
use lib.Dec.{ltb}
use Rattle.power.proofs.Laws.{same_test}
use Rattle.qcow2_spec.specs.Header.{backing_offset, name_length, bad_name}
use Rattle.qcow2_backing.proofs.bad_name.Goals as goal

-- l bytes at a run past n
past_is : (n a l : ℕ) → (ltb n a || ltb (n - a) l) ≡ ltb n (a + l)
past_is n a l = go (ltb n a) refl
  where
    go : (t : Bool) → ltb n a ≡ t → (t || ltb (n - a) l) ≡ ltb n (a + l)
    go true e = sym (lt-ltb n (a + l) (omega (arith, ltb-true n a e)))
    go false e = same_test (n - a) l n (a + l) (λ h. omega (arith, ltb-false n a e)) (λ h. omega (arith, ltb-false n a e))

pub returns-then-wrong_name_length : goal.returns-then-wrong_name_length
unfolding bad_name name_length
returns-then-wrong_name_length c = rw (← c.load32-len.ensures, ← c.wrong_name_length.ensures, c.if-wrong_name_length.true)

pub returns : goal.returns
unfolding bad_name name_length backing_offset
returns c =
    rw (c.requires.1.1, ← c.power.ensures.0, ← c.load32-len.ensures, ← c.wrong_name_length.ensures, c.if-wrong_name_length.false, ← c.load64.ensures, past_is)
    cc
