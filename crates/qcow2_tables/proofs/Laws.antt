-- Laws of a table that is tested entry by entry.
-- Assumes nothing.
use Prim.Native.Nat.{ℕ, ◌+◌, ◌-◌, ◌*◌, ◌/◌, ◌%◌, ◌^◌, ◌≤◌, ◌<◌}
use native.Mathlib.Nat.{div-add-mod', mul_left_comm}
use native.Mathlib.Omega.{arith}
use mathlib.Core.Path.{◌≡◌, refl, sym, ap, ◌∙◌}
use mathlib.Core.Bool.{Bool, true, false, not, ◌&&◌, and-false}
use mathlib.Core.List.{List}
use borrow.Author.Tests.{eqb-true, eq-eqb, ne_eqb, le-leb, lt-leb}
use lib.Dec.{eqb, leb}
use lib.ListN.{drop}
use lib.Pow.{pow-add}
use Rattle.choice.specs.Pick.{all}
use Rattle.endian.specs.Big.{be64, entries}
use Rattle.endian.proofs.Entries.{entries_turn, entries_none}
use Rattle.qcow2_spec.specs.Header.{good_block}

-- ---- powers of two
pow_split : (k b : ℕ) → k ≤ b → 2 ^ b ≡ 2 ^ k * 2 ^ (b - k)
pow_split k b h = let q : k + (b - k) ≡ b = omega arith in ap (λ (x : ℕ). 2 ^ x) (sym q) ∙ pow-add 2 k (b - k)

-- a multiple of a cluster size is a multiple of 512
multiple : (e b : ℕ) → 9 ≤ b → e % 2 ^ b ≡ 0 → e % 512 ≡ 0
multiple e b l h =
    let D : ℕ = 2 ^ (b - 9) in
    let u : e / 2 ^ b * 2 ^ b ≡ 512 * (e / 2 ^ b * D) = ap (λ (x : ℕ). e / 2 ^ b * x) (pow_split 9 b l) ∙ mul_left_comm (e / 2 ^ b) 512 D in
    omega (arith, div-add-mod' e (2 ^ b))

-- ---- an entry that is not 0 and lies before the last cluster's end
pub block_by : (e n b : ℕ) → 9 ≤ b → (e ≡ 0 → ⊥) → e + 2 ^ b ≤ n → eqb (e % 2 ^ b) 0 ≡ good_block (2 ^ b) n e
unfolding good_block
block_by e n b l z h = go (eqb (e % 2 ^ b) 0) refl
  where
    go : (t : Bool) → eqb (e % 2 ^ b) 0 ≡ t → eqb (e % 2 ^ b) 0 ≡ (not (eqb e 0) && eqb (e % 2 ^ b) 0 && eqb (e % 512) 0 && leb (e + 2 ^ b) n)
    go true t = rw (t, ne_eqb e 0 z, eq-eqb (e % 512) 0 (multiple e b l (eqb-true _ _ t)), le-leb (e + 2 ^ b) n h)
    go false t = rw (t, ne_eqb e 0 z)

pub block_past : (e n C : ℕ) → (e ≡ 0 → ⊥) → n < e + C → false ≡ good_block C n e
unfolding good_block
block_past e n C z h = rw (ne_eqb e 0 z, lt-leb (e + C) n h, and-false)

-- ---- a test of each entry: after an entry that passes, at one that fails, and at the end
module _ (p : ℕ → Bool) (k j : ℕ) (t : List ℕ) {r : Bool} (left : all p (entries (k - j) (drop (8 * j) t)) ≡ r) where
  pub all-next : j < k → p (be64 t (8 * j)) ≡ true → all p (entries (k - (j + 1)) (drop (8 * (j + 1)) t)) ≡ r
  all-next h e = rw (entries_turn k j t h, e) at left

  pub all_stop : j < k → p (be64 t (8 * j)) ≡ false → false ≡ r
  all_stop h e = rw (entries_turn k j t h, e) at left

  pub all_done : k ≤ j → true ≡ r
  all_done h = rw (entries_none k j t h) at left
