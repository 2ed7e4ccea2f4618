-- Laws of counting references in a scratch of two bytes for each cluster.
-- Assumes nothing.
use Prim.Native.Nat.{ℕ, zero, suc, ◌+◌, ◌*◌, ◌/◌, ◌%◌, ◌≤◌, min}
use mathlib.Core.Path.{◌≡◌, refl, sym, ap, ◌∙◌}
use mathlib.Core.List.{List, [], ◌∷◌}
use native.Mathlib.Omega.{arith}
use lib.ListN.{length, get_or, set, replicate}
use lib.Seq.{sets}
use Rattle.endian.specs.Big.{be16, bytes16, splice}
use Rattle.endian.proofs.Laws.{sets_splice}
use Rattle.tally.specs.Tally.{figures, bumped, bump_all, wide, bumped_wide, bump_all_wide}
use Rattle.tally.proofs.Laws.{tallied, figures-small}

-- every figure fits in two bytes
abbrev pub Fit : List ℕ → Type 0
Fit fs = (i : ℕ) → get_or fs i 0 ≤ 65535

fit_bumped : (fs : List ℕ) (c : ℕ) → Fit fs → Fit (bumped 65535 fs c)
unfolding bumped
fit_bumped fs c h = fit_set fs c _ h (omega arith)
  where
    fit_set : (l : List ℕ) (c v : ℕ) → Fit l → v ≤ 65535 → Fit (set l c v)
    fit_set [] c v h k i = h i
    fit_set (x ∷ l) zero v h k zero = k
    fit_set (x ∷ l) zero v h k (suc i) = h (suc i)
    fit_set (x ∷ l) (suc c) v h k zero = h zero
    fit_set (x ∷ l) (suc c) v h k (suc i) = fit_set l c v (λ j. h (suc j)) k i

sets_next : (vs l : List ℕ) (x i : ℕ) → sets (x ∷ l) (suc i) vs ≡ x ∷ sets l i vs
sets_next [] l x i = refl
sets_next (v ∷ vs) l x i = sets_next vs (set l i v) x (suc i)

sets_nil : (vs : List ℕ) (i : ℕ) → sets [] i vs ≡ []
sets_nil [] i = refl
sets_nil (v ∷ vs) i = sets_nil vs (suc i)

be16-next : (a b : ℕ) (l : List ℕ) (i : ℕ) → be16 (a ∷ b ∷ l) (suc (suc i)) ≡ be16 l i
unfolding be16
be16-next a b l i = let e : suc (suc i) + 1 ≡ suc (suc (i + 1)) = omega arith in ap (λ (n : ℕ). get_or l i 0 * 256 + get_or (a ∷ b ∷ l) n 0) e

-- a cluster's figure stands after those of the clusters before it
later : (a b : ℕ) (l : List ℕ) (c : ℕ) → bumped_wide (a ∷ b ∷ l) (suc c) ≡ a ∷ b ∷ bumped_wide l c
unfolding bumped_wide
later a b l c =
    let e : 2 * suc c ≡ suc (suc (2 * c)) = omega arith in
    let v : List ℕ = bytes16 (min 65535 (be16 l (2 * c) + 1)) in
    rw (e, be16-next a b l (2 * c)) (sets_next v (b ∷ l) a (suc (2 * c)) ∙ ap (λ (r : List ℕ). a ∷ r) (sets_next v l b (2 * c)))

whole : (x : ℕ) (fs : List ℕ) → wide (x ∷ fs) ≡ x / 256 % 256 ∷ x % 256 ∷ wide fs
unfolding wide bytes16
whole x fs = refl

nothing : (c : ℕ) → bumped_wide (wide []) c ≡ wide []
unfolding wide bumped_wide
nothing c = sets_nil (bytes16 (min 65535 (be16 [] (2 * c) + 1))) (2 * c)

first : (x : ℕ) (fs : List ℕ) → x ≤ 65535 → bumped_wide (wide (x ∷ fs)) zero ≡ wide (min 65535 (x + 1) ∷ fs)
unfolding wide bumped_wide bytes16 be16
first x fs h = let e : x / 256 % 256 * 256 + x % 256 ≡ x = omega arith in rw e refl

-- one reference more
pub wide_bump : (fs : List ℕ) (c : ℕ) → Fit fs → bumped_wide (wide fs) c ≡ wide (bumped 65535 fs c)
unfolding bumped
wide_bump [] c h = nothing c
wide_bump (x ∷ fs) zero h = first x fs (h zero)
wide_bump (x ∷ fs) (suc c) h =
    ap (λ (r : List ℕ). bumped_wide r (suc c)) (whole x fs) ∙ later (x / 256 % 256) (x % 256) (wide fs) c
    ∙ ap (λ (r : List ℕ). x / 256 % 256 ∷ x % 256 ∷ r) (wide_bump fs c (λ i. h (suc i))) ∙ sym (whole x (bumped 65535 fs c))

pub wide_bumps : (rs fs : List ℕ) → Fit fs → bump_all_wide rs (wide fs) ≡ wide (bump_all 65535 rs fs)
unfolding bump_all_wide bump_all
wide_bumps [] fs h = refl
wide_bumps (c ∷ cs) fs h = ap (bump_all_wide cs) (wide_bump fs c h) ∙ wide_bumps cs (bumped 65535 fs c) (fit_bumped fs c h)

wide-zeros : (n : ℕ) → wide (replicate n 0) ≡ replicate (2 * n) 0
unfolding wide bytes16
wide-zeros zero = refl
wide-zeros (suc n) =
    let e : 2 * suc n ≡ suc (suc (2 * n)) = omega arith in
    rw e (ap (λ (l : List ℕ). 0 ∷ 0 ∷ l) (wide-zeros n))

-- a cleared scratch of two bytes for each of n clusters in which every reference of a list is counted holds the figures of that list
pub tallied_wide : (rs : List ℕ) (n : ℕ) → bump_all_wide rs (replicate (2 * n) 0) ≡ wide (figures 65535 rs 0 n)
tallied_wide rs n = ap (bump_all_wide rs) (sym (wide-zeros n)) ∙ wide_bumps rs (replicate n 0) (zeros n) ∙ ap wide (tallied 65535 rs n)
  where
    zeros : (n : ℕ) → Fit (replicate n 0)
    zeros zero i = omega arith
    zeros (suc n) zero = omega arith
    zeros (suc n) (suc i) = zeros n i

-- what a load, one more and a store leave
pub wide-stored : (l t : List ℕ) (c x y : ℕ) → 2 * c + 2 ≤ length l → x ≡ be16 l (2 * c) → y ≡ min 65535 (x + 1) → t ≡ splice l (2 * c) (bytes16 y) → t ≡ bumped_wide l c
unfolding bumped_wide bytes16
wide-stored l t c x y h e f g = g ∙ sym (sets_splice l (2 * c) (bytes16 y) h) ∙ ap (λ (n : ℕ). sets l (2 * c) (bytes16 n)) (f ∙ ap (λ (n : ℕ). min 65535 (n + 1)) e)

nothing_at : (i : ℕ) → be16 (wide []) i ≡ 0
unfolding wide be16
nothing_at i = refl

front : (x : ℕ) (l : List ℕ) → x ≤ 65535 → be16 (x / 256 % 256 ∷ x % 256 ∷ l) 0 ≡ x
unfolding be16
front x l h = omega arith

-- a figure, by its two bytes
pub wide_at : (fs : List ℕ) (k : ℕ) → Fit fs → be16 (wide fs) (2 * k) ≡ get_or fs k 0
wide_at [] k h = nothing_at (2 * k)
wide_at (x ∷ fs) zero h = ap (λ (l : List ℕ). be16 l 0) (whole x fs) ∙ front x (wide fs) (h zero)
wide_at (x ∷ fs) (suc k) h =
    let e : 2 * suc k ≡ suc (suc (2 * k)) = omega arith in
    ap (λ (l : List ℕ). be16 l (2 * suc k)) (whole x fs) ∙ ap (be16 (x / 256 % 256 ∷ x % 256 ∷ wide fs)) e
    ∙ be16-next (x / 256 % 256) (x % 256) (wide fs) (2 * k) ∙ wide_at fs k (λ i. h (suc i))

-- in the figures of a list
pub figures_fit : (rs : List ℕ) (i n : ℕ) → Fit (figures 65535 rs i n)
figures_fit rs i n = figures-small 65535 rs i n
