-- The bytes of a new cluster over a backing file as the theorem has them, and the entry that a discard leaves there. Assumes nothing.
use Prim.Native.Nat.{ℕ, zero, suc, ◌+◌, ◌≤◌, ◌<◌}
use native.Mathlib.Nat.{add-zero, add-suc, suc-add, zero-lt-suc}
use native.Mathlib.Omega.{arith}
use mathlib.Core.Path.{◌≡◌, refl, sym, ap, ◌∙◌, subst}
use mathlib.Core.Logic.{◌⊎◌, inl, inr}
use mathlib.Core.Bool.{true, false, ◌||◌}
use mathlib.Core.List.{List}
use lib.Dec.{eqb}
use lib.ListN.{length, get_or}
use Rattle.cuts.proofs.Cell.{Small}
use Rattle.cuts.proofs.Call.{small_sets}
use Rattle.cuts.proofs.Write.{Body}
use Rattle.choice.specs.Pick.{each}
use Rattle.choice.proofs.Tests.{if_elim}
use Rattle.endian.specs.Big.{splice}
use Rattle.endian.proofs.Laws.{length-splice, splice-before, splice_in, splice-after, sets_splice}
use Rattle.qcow2_spec.specs.Header.{backed}
use Rattle.qcow2_spec.specs.Entries.{place, good_place, good_l2, compressed, zero_mark}
use Rattle.qcow2_spec.specs.Guest.{backing_byte}
use Rattle.qcow2_spec.specs.Series.{Bytes}

pub each_at : (f : ℕ → ℕ) (a k x : ℕ) → x < k → get_or (each f a k) x 0 ≡ f (a + x)
each_at f a zero x h = absurd (omega arith)
each_at f a (suc k) zero h = ap f (sym (add-zero a))
each_at f a (suc k) (suc x) h = each_at f (suc a) k x (omega arith) ∙ ap f (suc-add a x ∙ sym (add-suc a x))

pub small-each : (f : ℕ → ℕ) → ((y : ℕ) → f y < 256) → (a k : ℕ) → Small (each f a k)
small-each f h a zero x = zero-lt-suc 255
small-each f h a (suc k) zero = h a
small-each f h a (suc k) (suc x) = small-each f h (suc a) k x

pub backing_small : (backing s : List ℕ) → Bytes backing → (y : ℕ) → backing_byte backing s y < 256
unfolding backing_byte
backing_small backing s h y = if_elim (λ (v : ℕ). v < 256) (backed s) _ _ (λ e. h y) (λ e. zero-lt-suc 255)

-- the data over the bytes that the guest saw
pub body-over : (C o : ℕ) (bs : List ℕ) (old : ℕ → ℕ) (base : List ℕ) → length base ≡ C → Small base → o + length bs ≤ C → Small bs
    → ((x : ℕ) → x < C → get_or base x 0 ≡ old x) → Body C o bs old (splice base o bs)
body-over C o bs old base e sb h sm z =
    record {
      len = length-splice base o bs (omega (arith, e)) ∙ e;
      small = subst Small (sets_splice base o bs (omega (arith, e))) (small_sets bs base o sb sm);
      inside = λ y l. rw (add-zero, add-zero) at (splice_in base o bs y 1 (omega (arith, e)) (omega arith) 0 (zero-lt-suc 0));
      outside = λ x l d. out x d ∙ z x l;
    }
  where
    out : (x : ℕ) → (x < o) ⊎ (o + length bs ≤ x) → get_or (splice base o bs) x 0 ≡ get_or base x 0
    out x (inl d) = rw add-zero at (splice-before base o bs x 1 (omega (arith, e)) (omega arith) 0 (zero-lt-suc 0))
    out x (inr d) = rw add-zero at (splice-after base o bs x 1 (omega (arith, e)) d 0 (zero-lt-suc 0))

-- the plain zero mark is a good entry of version 3
pub plain-good : (v C n : ℕ) → (eqb v 2 || eqb v 3) ≡ true → eqb v 2 ≡ false → good_l2 v C n 1 ≡ true
unfolding good_l2 compressed zero_mark good_place place
plain-good v C n h q = rw (rw q at h) refl
