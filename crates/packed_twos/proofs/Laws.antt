-- Laws of figures of two bytes each. Assumes nothing.
use Prim.Native.Nat.{ℕ, zero, suc, ◌+◌, ◌-◌, ◌*◌, ◌≤◌, ◌<◌}
use native.Mathlib.Nat.{zero-add, add-zero}
use native.Mathlib.Omega.{arith}
use mathlib.Core.Path.{◌≡◌, refl, sym, ap, ◌∙◌}
use mathlib.Core.List.{List, [], ◌∷◌}
use lib.ListN.{length, get_or, take, drop, length-take, length-drop}
use lib.Seq.{get_or-take, length-take-le}
use Rattle.choice.specs.Pick.{each}
use Rattle.choice.proofs.Each.{length-each, each_list}
use Rattle.endian.specs.Big.{be16, bytes16, part}
use Rattle.endian.proofs.Laws.{be16-same, part_same}
use Rattle.tally.specs.Tally.{wide}
use Rattle.tally.proofs.Wide.{Fit}
use Rattle.packed_twos.specs.Twos.{twos, many, figures_in}

pub length-twos : (l : List ℕ) (m : ℕ) → length (twos l m) ≡ m
unfolding twos
length-twos l m = length-each (λ k. be16 l (2 * k)) 0 m

get_or-each : (f : ℕ → ℕ) (x m k : ℕ) → k < m → get_or (each f x m) k 0 ≡ f (x + k)
get_or-each f x zero k h = absurd (omega arith)
get_or-each f x (suc m) zero h = ap f (sym (add-zero x))
get_or-each f x (suc m) (suc k) h = get_or-each f (suc x) m k (omega arith) ∙ ap f (omega arith)

pub get_or-twos : (l : List ℕ) (m k : ℕ) → k < m → get_or (twos l m) k 0 ≡ be16 l (2 * k)
unfolding twos
get_or-twos l m k h = get_or-each (λ i. be16 l (2 * i)) 0 m k h ∙ ap (λ (i : ℕ). be16 l (2 * i)) (zero-add k)

-- a list that has the numbers
pub twos_are : (l t : List ℕ) (m : ℕ) → length t ≡ m → ((i : ℕ) → i < m → get_or t i 0 ≡ be16 l (2 * i)) → t ≡ twos l m
unfolding twos
twos_are l t m e h =
    rw (← e) (sym (each_list (λ k. be16 l (2 * k)) t 0 (λ i b. ap (λ (k : ℕ). be16 l (2 * k)) (zero-add i) ∙ sym (h i (omega arith)))))

-- the bytes of numbers have them
wide-first : (x : ℕ) (fs : List ℕ) → x ≤ 65535 → be16 (wide (x ∷ fs)) 0 ≡ x
unfolding wide be16 bytes16
wide-first x fs h = omega arith

wide_later : (x : ℕ) (fs : List ℕ) (k : ℕ) → be16 (wide (x ∷ fs)) (2 * suc k) ≡ be16 (wide fs) (2 * k)
unfolding wide be16 bytes16
wide_later x fs k =
    let e : 2 * suc k ≡ suc (suc (2 * k)) = omega arith in
    let f : 2 * suc k + 1 ≡ suc (suc (2 * k + 1)) = omega arith in
    rw (f, e) refl

pub wide_at : (fs : List ℕ) → Fit fs → (k : ℕ) → k < length fs → be16 (wide fs) (2 * k) ≡ get_or fs k 0
wide_at [] h k b = absurd (omega arith)
wide_at (x ∷ fs) h zero b = wide-first x fs (h zero)
wide_at (x ∷ fs) h (suc k) b = wide_later x fs k ∙ wide_at fs (λ i. h (suc i)) k (omega arith)

pub twos-wide : (fs : List ℕ) → Fit fs → twos (wide fs) (length fs) ≡ fs
twos-wide fs h = sym (twos_are (wide fs) fs (length fs) refl (λ i b. sym (wide_at fs h i b)))

pub length-wide : (fs : List ℕ) → length (wide fs) ≡ 2 * length fs
unfolding wide bytes16
length-wide [] = refl
length-wide (x ∷ fs) = omega (arith, length-wide fs)

pub figures-wide : (fs : List ℕ) → Fit fs → figures_in (wide fs) ≡ fs
figures-wide fs f = let e : many (wide fs) ≡ length fs = omega (arith, length-wide fs) in ap (twos (wide fs)) e ∙ twos-wide fs f

-- of a part that is lent, m numbers from number b on
pub twos-part : (l : List ℕ) (b m k : ℕ) → k < m → get_or (twos (part l (2 * b) (2 * m)) m) k 0 ≡ be16 l (2 * (b + k))
twos-part l b m k h =
    let e : 2 * b + 2 * k ≡ 2 * (b + k) = omega arith in
    get_or-twos (part l (2 * b) (2 * m)) m k h ∙ be16-same _ _ _ _ (part_same l (2 * b) (2 * m) (2 * k) 2 (omega arith)) ∙ ap (be16 l) e

-- of the bytes of numbers
pub twos-wide-part : (fs : List ℕ) → Fit fs → (b m k : ℕ) → b + m ≤ length fs → k < m → get_or (twos (part (wide fs) (2 * b) (2 * m)) m) k 0 ≡ get_or fs (b + k) 0
twos-wide-part fs f b m k h l = twos-part (wide fs) b m k l ∙ wide_at fs f (b + k) (omega arith)

-- a part as the code lends it
pub part_lent : (l : List ℕ) (b m : ℕ) → take (2 * (b + m) - 2 * b) (drop (2 * b) l) ≡ part l (2 * b) (2 * m)
part_lent l b m = let e : 2 * (b + m) - 2 * b ≡ 2 * m = omega arith in rw e

pub many_lent : (l : List ℕ) (b m : ℕ) → b + m ≤ many l → many (take (2 * (b + m) - 2 * b) (drop (2 * b) l)) ≡ m
many_lent l b m h =
    let e : length (part l (2 * b) (2 * m)) ≡ 2 * m = length-take-le (2 * m) (drop (2 * b) l) (simp length-drop (omega arith)) in
    rw (part_lent l b m, e) (omega arith)

pub figures_lent : (l : List ℕ) (b m k : ℕ) → b + m ≤ many l → k < m → get_or (twos (take (2 * (b + m) - 2 * b) (drop (2 * b) l)) m) k 0 ≡ get_or (figures_in l) (b + k) 0
figures_lent l b m k h i = rw (part_lent l b m) (twos-part l b m k i) ∙ sym (get_or-twos l (many l) (b + k) (omega arith))

-- bytes that begin with those of numbers
pub figures-front : (l fs : List ℕ) → Fit fs → take (2 * length fs) l ≡ wide fs → (k : ℕ) → k < length fs → get_or (figures_in l) k 0 ≡ get_or fs k 0
figures-front l fs f e k h =
    let n : 2 * length fs ≤ length l = omega (arith, sym (length-take (2 * length fs) l) ∙ ap length e ∙ length-wide fs) in
    get_or-twos l (many l) k (omega arith)
    ∙ be16-same _ _ _ _ (λ i b. sym (get_or-take (2 * length fs) l (2 * k + i) 0 (omega arith)))
    ∙ ap (λ (r : List ℕ). be16 r (2 * k)) e
    ∙ wide_at fs f k h
