-- The chain of tests is the definition's judgement.
-- Assumes nothing.
use Rattle.std.specs.Prelude.{if◌then◌else◌, Err}
use Prim.Native.Nat.{ℕ, zero, suc}
use mathlib.Core.Path.{◌≡◌, refl}
use mathlib.Core.Bool.{Bool, true, false, not}
use mathlib.Core.List.{List}
use Rattle.choice.specs.Pick.{unless}
use Rattle.qcow2_spec.specs.Header.{header_number, table_number, backing_number, judge_lent, some_lent, judge}
use Rattle.qcow2_spec.specs.Opened.{opened}
use Rattle.qcow2_spec.proofs.Open.{refused-is}
use Rattle.qcow2_limits.specs.Limits.{odd_length}
use Rattle.qcow2_fields.specs.Fields.{features}
use Rattle.qcow2_backing.specs.Backing.{bad_backing}
use Rattle.qcow2_header.specs.Chain.{from1, from2, from3, from4, from5, from6, from7, from8, from18, from9, from10, from19, from21, bad_entries}

-- a number that comes first, and the same of a test the other way round
before : {A : Type 0} (b : Bool) (k r t : ℕ) (f : ℕ → A) (a : A)
    → unless (unless (if b then suc k else r) (λ n. n) t) f a ≡ (if b then f (suc k) else unless (unless r (λ n. n) t) f a)
before true k r t f a = refl
before false k r t f a = refl

turned : {A : Type 0} (b : Bool) (k t : ℕ) (f : ℕ → A) (a : A)
    → unless (unless (if b then 0 else suc k) (λ n. n) t) f a ≡ (if not b then f (suc k) else unless t f a)
turned true k t f a = refl
turned false k t f a = refl

-- `before` once for each of the numbers 1 to 9 and 18, `turned` for 10, `before` for 19
pub chain : (lent : Bool) (s : List ℕ) → opened lent s ≡ from1 lent s
unfolding opened judge_lent header_number table_number backing_number odd_length features bad_backing bad_entries from1 from2 from3 from4 from5 from6 from7 from8 from18 from9 from10 from19 from21
chain lent s = rw (before, before, before, before, before, before, before, before, before, before, turned, before)

-- what a call answers where the image is refused
pub unless-refused : {A : Type 0} (backing s : List ℕ) (k : ℕ) → opened (some_lent backing) s ≡ Err k → (f : ℕ → A) (a : A) → unless (judge backing s) f a ≡ f k
unfolding judge
unless-refused backing s k e f a = let r = refused-is (some_lent backing) s k e in rw r.0 (go k r.1)
  where
    go : (n : ℕ) → (n ≡ 0 → ⊥) → unless n f a ≡ f n
    go zero h = absurd (h refl)
    go (suc n) h = refl
