-- A test of each number of a run, one by one or many at once, and the entries of new blocks. Assumes nothing.
use Prim.Native.Nat.{ℕ, zero, suc, ◌+◌, ◌-◌, ◌*◌, ◌≤◌, ◌<◌}
use native.Mathlib.Nat.{zero-add, add-zero, suc-add, add-suc, mul-le-mul_right}
use native.Mathlib.Omega.{arith}
use mathlib.Core.Path.{◌≡◌, refl, sym, ◌∙◌}
use mathlib.Core.Bool.{Bool, true, false, ◌&&◌, and_assoc, and-true as and-true-right}
use mathlib.Core.List.{List, ◌∷◌}
use lib.Dec.{eqb}
use lib.ListN.{drop}
use lib.Seq.{drop-drop}
use Rattle.choice.specs.Pick.{all}
use Rattle.choice.proofs.Tests.{and-true}
use Rattle.endian.specs.Big.{be64, entries}
use Rattle.endian.proofs.Entries.{be64-drop}
use Rattle.blank.proofs.Zeros.{is_zero}
use Rattle.tally.specs.Tally.{run}
use Rattle.qcow2_taken.specs.Taking.{new_at, Spaced}

-- ---- after one that passes, at one that fails, and at the end
run_turn : (i n : ℕ) → i < n → run i (n - i) ≡ i ∷ run (i + 1) (n - (i + 1))
unfolding run
run_turn i n h =
    let e : n - i ≡ suc (n - (i + 1)) = omega arith in
    let f : suc i ≡ i + 1 = omega arith in
    rw (e, f)

module _ (p : ℕ → Bool) (i n : ℕ) {r : Bool} (left : all p (run i (n - i)) ≡ r) where
  pub run-next : i < n → p i ≡ true → all p (run (i + 1) (n - (i + 1))) ≡ r
  run-next h e = rw (run_turn i n h, e) at left

  pub run_stop : i < n → p i ≡ false → false ≡ r
  run_stop h e = rw (run_turn i n h, e) at left

  pub run_done : n ≤ i → true ≡ r
  unfolding run
  run_done h = let e : n - i ≡ 0 = omega arith in rw e at left

-- ---- the same of m numbers
run_split : (p : ℕ → Bool) (i m k : ℕ) → all p (run i (m + k)) ≡ (all p (run i m) && all p (run (i + m) k))
unfolding run
run_split p i zero k = rw (zero-add, add-zero)
run_split p i (suc m) k = rw (suc-add, run_split p (suc i) m k, suc-add, ← add-suc) (sym (and_assoc (p i) (all p (run (suc i) m)) _))

module _ (p : ℕ → Bool) (i n : ℕ) {r : Bool} (left : all p (run i (n - i)) ≡ r) (m : ℕ) (inside : i + m ≤ n) where
  split : (all p (run i m) && all p (run (i + m) (n - (i + m)))) ≡ r
  split =
      let e : n - i ≡ m + (n - (i + m)) = omega arith in
      sym (run_split p i m (n - (i + m))) ∙ rw e at left

  pub runs-next : all p (run i m) ≡ true → all p (run (i + m) (n - (i + m))) ≡ r
  runs-next e = rw e at split

  pub runs_stop : all p (run i m) ≡ false → false ≡ r
  runs_stop e = rw e at split

pub run-four : (p : ℕ → Bool) (i : ℕ) → all p (run i 4) ≡ (p i && (p (i + 1) && (p (i + 2) && p (i + 3))))
unfolding run
run-four p i =
    let a : suc i ≡ i + 1 = omega arith in
    let b : suc (i + 1) ≡ i + 2 = omega arith in
    let c : suc (i + 2) ≡ i + 3 = omega arith in
    rw (a, b, c, and-true-right)

-- ---- entries that are 0 are good
pub zeros_new : (t : List ℕ) (span i k : ℕ) → all is_zero (entries k (drop (8 * i) t)) ≡ true → all (new_at t span) (run i k) ≡ true
unfolding run entries
zeros_new t span i zero h = refl
zeros_new t span i (suc k) h =
    let d = drop (8 * i) t in
    let a = and-true (eqb (be64 d 0) 0) _ h in
    let e : 8 * i + 8 ≡ 8 * suc i = omega arith in
    let z : eqb (be64 t (8 * i)) 0 ≡ true = rw (be64-drop t (8 * i) 0, add-zero) at a.0 in
    rw z (zeros_new t span (suc i) k (rw (drop-drop, e) at a.1))

-- the places of fewer blocks
pub spaced_fewer : (a b span : ℕ) → a ≤ b → Spaced b span → Spaced a span
spaced_fewer a b span h s = omega (arith, mul-le-mul_right span h)
