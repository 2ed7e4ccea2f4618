-- Laws of zeros: a table's entries are 0 where its bytes are.
-- Assumes nothing.
use Prim.Native.Nat.{ℕ, zero, suc, ◌+◌, ◌-◌, ◌*◌, ◌≤◌, ◌<◌}
use native.Mathlib.Nat.{zero-mul, zero-add, mul-suc}
use native.Mathlib.Numerals.{add-one}
use native.Mathlib.Omega.{arith}
use mathlib.Core.Path.{◌≡◌, refl, sym, ◌∙◌}
use mathlib.Core.Bool.{Bool, true, false, ◌&&◌, and_assoc, and-true}
use mathlib.Core.List.{List, [], ◌∷◌, ◌++◌}
use borrow.Author.Tests.{ne_eqb, eqb-true, eqb-false}
use lib.Bits.{bit_or, or_zero_l, or_add_and, and_le_r}
use lib.Dec.{eqb}
use lib.ListN.{length, get_or, take, drop, length-drop, take-append-drop}
use lib.Seq.{drop-cons, drop-drop, drop-length, take-add}
use Rattle.choice.specs.Pick.{all}
use Rattle.endian.specs.Big.{be16, be32, be64, entries}

abbrev pub is_zero : ℕ → Bool
is_zero x = eqb x 0

-- a number made of two is 0 where both are
both_zero : (x a b : ℕ) → (a ≡ 0 → x ≡ b) → a ≤ x → eqb x 0 ≡ (eqb a 0 && eqb b 0)
both_zero x a b f l = go (eqb a 0) refl
  where
    go : (t : Bool) → eqb a 0 ≡ t → eqb x 0 ≡ (t && eqb b 0)
    go true e = rw (f (eqb-true a 0 e))
    go false e = ne_eqb x 0 (λ z. eqb-false a 0 e (omega arith))

or-zero : (a b : ℕ) → eqb (bit_or a b) 0 ≡ (eqb a 0 && eqb b 0)
or-zero a b = both_zero (bit_or a b) a b (λ e. rw (e, or_zero_l)) (omega (arith, or_add_and a b, and_le_r a b))

sum-zero : (m a b : ℕ) → eqb (a * suc m + b) 0 ≡ (eqb a 0 && eqb b 0)
sum-zero m a b = both_zero (a * suc m + b) a b (λ e. rw (e, zero-mul, zero-add)) (rw mul-suc (omega arith))

-- one byte more, and no more
pub zeros-next : (p : List ℕ) (k seen : ℕ) {r : Bool} → k < length p
    → (is_zero seen && all is_zero (drop k p)) ≡ r → (is_zero (bit_or seen (get_or p k 0)) && all is_zero (drop (k + 1) p)) ≡ r
zeros-next p k seen h e = rw (or-zero, and_assoc, add-one) (rw (drop-cons p k 0 h) at e)

pub zeros_done : (p : List ℕ) (k seen : ℕ) {r : Bool} → k ≡ length p → (is_zero seen && all is_zero (drop k p)) ≡ r → is_zero seen ≡ r
zeros_done p k seen h e = sym (and-true (is_zero seen)) ∙ (rw (h, drop-length) at e)

-- the bytes of one entry, and of all
turn : (t : List ℕ) (i n : ℕ) → i < length t → all is_zero (take (suc n) (drop i t)) ≡ (is_zero (get_or t i 0) && all is_zero (take n (drop (suc i) t)))
turn t i n h = rw (drop-cons t i 0 h)

entry-zeros : (t : List ℕ) → 8 ≤ length t → all is_zero (take 8 t) ≡ is_zero (be64 t 0)
unfolding be64 be32 be16
entry-zeros t h =
    rw (sum-zero, sum-zero, sum-zero, sum-zero, sum-zero, sum-zero, sum-zero)
    (rw (turn t 0 7 (omega arith), turn t 1 6 (omega arith), turn t 2 5 (omega arith), turn t 3 4 (omega arith))
    (rw (turn t 4 3 (omega arith), turn t 5 2 (omega arith), turn t 6 1 (omega arith), turn t 7 0 (omega arith))
    (simp (and_assoc, and-true))))

all_append : (p : ℕ → Bool) (a b : List ℕ) → all p (a ++ b) ≡ (all p a && all p b)
all_append p [] b = refl
all_append p (x ∷ a) b = rw (all_append p a b) (sym (and_assoc (p x) (all p a) (all p b)))

-- the m bytes at an index of a part, and what follows them
module _ (t : List ℕ) (at m : ℕ) {r : Bool} (left : all is_zero (drop at t) ≡ r) where
  split : (all is_zero (take m (drop at t)) && all is_zero (drop (at + m) t)) ≡ r
  split = rw (← drop-drop m at t) (sym (all_append is_zero (take m (drop at t)) (drop m (drop at t))) ∙ rw take-append-drop left)

  pub group-next : all is_zero (take m (drop at t)) ≡ true → all is_zero (drop (at + m) t) ≡ r
  group-next e = rw e at split

  pub group_stop : all is_zero (take m (drop at t)) ≡ false → false ≡ r
  group_stop e = rw e at split

pub entries-zeros : (k : ℕ) (t : List ℕ) → 8 * k ≤ length t → all is_zero (take (8 * k) t) ≡ all is_zero (entries k t)
unfolding entries
entries-zeros zero t h = refl
entries-zeros (suc k) t h =
    let e : 8 * suc k ≡ 8 + 8 * k = omega arith in
    rw (e, take-add 8 (8 * k) t, all_append, entry-zeros t (omega arith), entries-zeros k (drop 8 t) (simp length-drop (omega arith)))

-- the bytes from entry b on, of k, as a part of the table
pub part-zeros : (b k : ℕ) (t : List ℕ) → b ≤ k → 8 * k ≤ length t
    → all is_zero (take (8 * k - 8 * b) (drop (8 * b) t)) ≡ all is_zero (entries (k - b) (drop (8 * b) t))
part-zeros b k t h l =
    let e : 8 * k - 8 * b ≡ 8 * (k - b) = omega arith in
    rw e (entries-zeros (k - b) (drop (8 * b) t) (simp length-drop (omega arith)))
