-- Numbers of a byte or less against 0, a byte at a time. Assumes nothing.
use Rattle.std.specs.Prelude.{if◌then◌else◌}
use Prim.Native.Nat.{ℕ, ◌+◌, ◌*◌, ◌/◌, ◌%◌, ◌≤◌, ◌<◌, min}
use native.Mathlib.Nat.{zero-add, mul-add, mul-one}
use native.Mathlib.Omega.{arith}
use mathlib.Core.Path.{◌≡◌, refl, sym, ap, ap₂, ◌∙◌}
use mathlib.Core.Bool.{Bool, true, false, ◌||◌, not}
use mathlib.Core.List.{List}
use lib.Bits.{bit_or, bit_and}
use lib.Dec.{eqb, ltb}
use lib.ListN.{get_or, take}
use lib.Seq.{get_or-take}
use Rattle.std.proofs.Math.Bool.{or_comm}
use Rattle.packed.proofs.Laws.{eqb_same}
use borrow.Author.Tests.{lt-ltb, le-ltb, ltb-true, ltb-false, eq-eqb, eqb-true, eqb-false}
use Rattle.choice.specs.Pick.{first}
use Rattle.choice.proofs.Runs.{first_split, first_shift}
use Rattle.widths.specs.Width.{field}
use Rattle.packed_zerowords.specs.Found.{some}
use Rattle.packed_zerobytes.specs.Holds.{per, zero_in, holds}
use Rattle.packed.specs.Packed.{zero_at}
use Rattle.packed.specs.Lanes.{parts}
use Rattle.packed.proofs.Each.{each_test}
use Rattle.packed.proofs.Narrow.{packed-parts}

pub holds0 : (x : ℕ) → x < 256 → not (eqb x 255) ≡ holds 0 x
unfolding holds parts field
holds0 = each_test (λ x. not (eqb x 255)) (holds 0) refl

pub holds1 : (x : ℕ) → x < 256 → not (eqb (bit_and (bit_or x (x / 2)) 85) 85) ≡ holds 1 x
unfolding holds parts field
holds1 = each_test (λ x. not (eqb (bit_and (bit_or x (x / 2)) 85) 85)) (holds 1) refl

pub holds2 : (x : ℕ) → x < 256 → not (eqb (bit_and (bit_or (bit_or x (x / 2)) (bit_or x (x / 2) / 4)) 17) 17) ≡ holds 2 x
unfolding holds parts field
holds2 = each_test (λ x. not (eqb (bit_and (bit_or (bit_or x (x / 2)) (bit_or x (x / 2) / 4)) 17) 17)) (holds 2) refl

pub holds3 : (x : ℕ) → x < 256 → eqb x 0 ≡ holds 3 x
unfolding holds parts field
holds3 = each_test (λ x. eqb x 0) (holds 3) refl

-- m numbers more
some_more : (p : ℕ → Bool) (i m : ℕ) → some p (i + m) ≡ (ltb (first p i m) (i + m) || some p i)
some_more p i m =
    let e : first p 0 (i + m) ≡ (if some p i then first p 0 i else first p i m) = rw zero-add at (first_split p 0 i m) in
    rw e (go (ltb (first p i m) (i + m)) refl (some p i) refl)
  where
    go : (u : Bool) → ltb (first p i m) (i + m) ≡ u → (t : Bool) → some p i ≡ t → ltb (if t then first p 0 i else first p i m) (i + m) ≡ (u || t)
    go true f true e = let h : first p 0 i < i = ltb-true _ _ e in lt-ltb (first p 0 i) (i + m) (omega arith)
    go false f true e = let h : first p 0 i < i = ltb-true _ _ e in lt-ltb (first p 0 i) (i + m) (omega arith)
    go true f false e = f
    go false f false e = f

-- numbers elsewhere that pass another test alike
some_shift : (p q : ℕ → Bool) (i m : ℕ) → ((d : ℕ) → d < m → p (i + d) ≡ q d) → ltb (first p i m) (i + m) ≡ some q m
some_shift p q i m a = go (some q m) refl
  where
    e : first p i m + 0 ≡ i + first q 0 m
    e = first_shift p q i 0 m (λ d h. rw zero-add (a d h))

    go : (t : Bool) → some q m ≡ t → ltb (first p i m) (i + m) ≡ t
    go true f = let h : first q 0 m < m = ltb-true _ _ f in lt-ltb (first p i m) (i + m) (omega (arith, e))
    go false f = let h : m ≤ first q 0 m = ltb-false _ _ f in le-ltb (first p i m) (i + m) (omega (arith, e))

-- the numbers of byte b
in_byte : (o : ℕ) → o ≤ 3 → (l : List ℕ) (b d : ℕ) → d < per o → zero_at o l (per o * b + d) ≡ zero_in o (get_or l b 0) d
unfolding zero_at
in_byte o h l b d k = ap (λ (x : ℕ). eqb x 0) (packed-parts o h l b d k)

-- one byte more
pub byte_next : (o : ℕ) → o ≤ 3 → (l : List ℕ) (b : ℕ) → some (zero_at o l) (per o * (b + 1)) ≡ (holds o (get_or l b 0) || some (zero_at o l) (per o * b))
unfolding holds
byte_next o h l b =
    let e : per o * (b + 1) ≡ per o * b + per o = mul-add (per o) b 1 ∙ ap (λ (x : ℕ). per o * b + x) (mul-one (per o)) in
    rw (e, some_more (zero_at o l) (per o * b) (per o)) (ap (λ (t : Bool). t || some (zero_at o l) (per o * b)) (some_shift (zero_at o l) (zero_in o (get_or l b 0)) (per o * b) (per o) (in_byte o h l b)))

-- the same, as a loop over the first n bytes finds it
pub byte_turn : (o : ℕ) → o ≤ 3 → (l : List ℕ) (n b : ℕ) → b < n → {t u : Bool} → t ≡ some (zero_at o l) (per o * b) → u ≡ holds o (get_or (take n l) b 0)
    → (t || u) ≡ some (zero_at o l) (per o * (b + 1))
byte_turn o h l n b k {t} {u} e f =
    or_comm t u ∙ ap₂ ◌||◌ (f ∙ ap (holds o) (get_or-take n l b 0 k)) e ∙ sym (byte_next o h l b)

-- ---- numbers of 4 bits by the least
pub holds-half : (x : ℕ) → x < 256 → (eqb (x % 16) 0 || ltb x 16) ≡ holds 2 x
unfolding holds parts field
holds-half = each_test (λ x. eqb (x % 16) 0 || ltb x 16) (holds 2) refl

least_zero : (a b : ℕ) → eqb (min a b) 0 ≡ (eqb a 0 || eqb b 0)
least_zero a b = go (eqb a 0) refl
  where
    go : (t : Bool) → eqb a 0 ≡ t → eqb (min a b) 0 ≡ (t || eqb b 0)
    go true e = let z : a ≡ 0 = eqb-true a 0 e in eq-eqb (min a b) 0 (omega arith)
    go false e = let h : 0 < a = omega (arith, eqb-false a 0 e) in eqb_same (min a b) 0 b 0 (λ z. omega arith) (λ z. omega arith)

least-below : (k a b : ℕ) → ltb (min a b) k ≡ (ltb a k || ltb b k)
least-below k a b = go (ltb a k) refl (ltb b k) refl
  where
    go : (t : Bool) → ltb a k ≡ t → (u : Bool) → ltb b k ≡ u → ltb (min a b) k ≡ (t || u)
    go true e u f = let h : a < k = ltb-true a k e in lt-ltb (min a b) k (omega arith)
    go false e true f = let h : b < k = ltb-true b k f in lt-ltb (min a b) k (omega arith)
    go false e false f = let g : k ≤ a = ltb-false a k e in let h : k ≤ b = ltb-false b k f in le-ltb (min a b) k (omega arith)

-- four tests, two of a byte and two of those before it
four : (p q l m : Bool) → ((p || l) || (q || m)) ≡ ((p || q) || (l || m))
four true q l m = refl
four false true true m = refl
four false true false m = refl
four false false l m = refl

pub half-next : (l : List ℕ) (n b low least : ℕ) → b < n → get_or l b 0 < 256 → (eqb low 0 || ltb least 16) ≡ some (zero_at 2 l) (per 2 * b)
    → (eqb (min low (get_or (take n l) b 0 % 16)) 0 || ltb (min least (get_or (take n l) b 0)) 16) ≡ some (zero_at 2 l) (per 2 * (b + 1))
half-next l n b low least k h e =
    let x = get_or l b 0 in
    rw (get_or-take n l b 0 k) (
    ap₂ ◌||◌ (least_zero low (x % 16)) (least-below 16 least x)
    ∙ four (eqb low 0) (ltb least 16) (eqb (x % 16) 0) (ltb x 16)
    ∙ ap₂ ◌||◌ e (holds-half x h)
    ∙ or_comm (some (zero_at 2 l) (per 2 * b)) (holds 2 x)
    ∙ sym (byte_next 2 (omega arith) l b)
    )
