-- When bytes meet extents, and when extents meet extents. Assumes nothing.
use Prim.Native.Nat.{ℕ, zero, suc, ◌+◌, ◌-◌, ◌≤◌, ◌<◌}
use native.Mathlib.Omega.{arith}
use mathlib.Core.Path.{◌≡◌, refl, sym}
use mathlib.Core.Bool.{Bool, true, false, ◌||◌}
use mathlib.Core.List.{List, [], ◌∷◌, ◌++◌}
use lib.Dec.{ltb}
use borrow.Author.Tests.{lt-ltb, le-ltb, le-leb, lt-leb, ltb-true, ltb-false}
use Rattle.choice.proofs.Tests.{true-not-false}
use Rattle.qcow2_spec.specs.Steps.{Extent, whole, covers}
use Rattle.qcow2_spec.proofs.Extents.{covers_append}
use Rattle.qcow2_batches.specs.Batch.{meets, clash}
use Rattle.qcow2_batches.proofs.Covers.{meets_here, meets-none, meets_alike}
use Rattle.qcow2_batches.proofs.Plain.{plain, covers-plain}

or_swap : (a b c d : Bool) → ((a || b) || (c || d)) ≡ ((a || c) || (b || d))
or_swap true b c d = refl
or_swap false true true d = refl
or_swap false true false d = refl
or_swap false false c d = refl

-- ---- bytes against extents
pub meets_append : (xs ys : List Extent) (at len : ℕ) → meets (xs ++ ys) at len ≡ (meets xs at len || meets ys at len)
unfolding meets
meets_append xs ys at zero = refl
meets_append xs ys at (suc len) =
    rw (covers_append xs ys at, meets_append xs ys (suc at) len) (or_swap (covers xs at) (covers ys at) (meets xs (suc at) len) (meets ys (suc at) len))

pub meets_nil : (at len : ℕ) → meets [] at len ≡ false
unfolding covers
meets_nil at len = meets-none [] at len (λ x h k e. true-not-false e refl)

-- ---- against one extent, by numbers
module _ (a n at : ℕ) where
  one_in : (x : ℕ) → a ≤ x → x < a + n → covers (whole a n ∷ []) x ≡ true
  unfolding covers
  one_in x h k = rw (le-leb a x h, lt-ltb x (a + n) k)

  one-past : (x : ℕ) → a + n ≤ x → covers (whole a n ∷ []) x ≡ true → ⊥
  unfolding covers
  one-past x h e = true-not-false e (rw (le-leb a x (omega arith), le-ltb x (a + n) h))

  one-before : (x : ℕ) → x < a → covers (whole a n ∷ []) x ≡ true → ⊥
  unfolding covers
  one-before x h e = true-not-false e (rw (lt-leb a x h))

  pub meets-zero : (len : ℕ) → len ≡ 0 → false ≡ meets (whole a n ∷ []) at len
  unfolding meets
  meets-zero len e = rw e

  module _ (len : ℕ) where
    -- it begins at the bytes' beginning or before
    pub meets_from : (len ≡ 0 → ⊥) → a ≤ at → ltb (at - a) n ≡ meets (whole a n ∷ []) at len
    meets_from z k = go (ltb (at - a) n) refl
      where
        go : (t : Bool) → ltb (at - a) n ≡ t → t ≡ meets (whole a n ∷ []) at len
        go true q = sym (meets_here _ at len at (omega arith) (omega (arith, z)) (one_in at k (omega (arith, ltb-true (at - a) n q))))
        go false q = sym (meets-none _ at len (λ x h l. one-past x (omega (arith, ltb-false (at - a) n q))))

    -- or after it
    pub meets-empty : n ≡ 0 → at < a → false ≡ meets (whole a n ∷ []) at len
    meets-empty e k = sym (meets-none _ at len (λ x h q. go x (ltb x a) refl))
      where
        go : (x : ℕ) (t : Bool) → ltb x a ≡ t → covers (whole a n ∷ []) x ≡ true → ⊥
        go x true z = one-before x (ltb-true x a z)
        go x false z = one-past x (omega (arith, ltb-false x a z))

    pub meets_to : at < a → (n ≡ 0 → ⊥) → ltb (a - at) len ≡ meets (whole a n ∷ []) at len
    meets_to h z = go (ltb (a - at) len) refl
      where
        go : (t : Bool) → ltb (a - at) len ≡ t → t ≡ meets (whole a n ∷ []) at len
        go true q = sym (meets_here _ at len a (omega arith) (omega (arith, ltb-true (a - at) len q)) (one_in a (omega arith) (omega (arith, z))))
        go false q = sym (meets-none _ at len (λ x k l. one-before x (omega (arith, ltb-false (a - at) len q))))

-- ---- extents against extents
pub clash_append : (xs ys zs : List Extent) → clash (xs ++ ys) zs ≡ (clash xs zs || clash ys zs)
unfolding clash
clash_append xs ys [] = refl
clash_append xs ys (z ∷ zs) =
    rw (meets_append xs ys z.at z.len, clash_append xs ys zs) (or_swap (meets xs z.at z.len) (meets ys z.at z.len) (clash xs zs) (clash ys zs))

-- only where the bytes are counts
pub clash-left : (ys zs : List Extent) → clash (plain ys) zs ≡ clash ys zs
unfolding clash
clash-left ys [] = refl
clash-left ys (z ∷ zs) = rw (meets_alike (plain ys) ys (covers-plain ys) z.at z.len, clash-left ys zs)

pub clash-right : (ys zs : List Extent) → clash ys (plain zs) ≡ clash ys zs
unfolding clash
clash-right ys [] = refl
clash-right ys (z ∷ zs) = rw (clash-right ys zs)
