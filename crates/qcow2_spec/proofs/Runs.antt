-- What a run is: each of its bytes is found where it has it, it is not empty, and it ends where a byte does not go on alike. With room
-- enough the runs of a range are all of it.
-- Assumes nothing.
use Rattle.std.specs.Prelude.{Err, Ok, Result}
use Prim.Native.Nat.{ℕ, zero, suc, ◌+◌, ◌-◌, ◌≤◌, ◌<◌}
use native.Mathlib.Nat.{add-zero}
use native.Mathlib.Omega.{arith}
use mathlib.Core.Path.{◌≡◌, refl, ap}
use mathlib.Core.Bool.{Bool, true, false, not}
use mathlib.Core.List.{List, [], ◌∷◌}
use borrow.Author.Tests.{eq-eqb, ne_eqb, eqb-true, not-true}
use Rattle.choice.proofs.Runs.{first-low, first-high}
use Rattle.choice.proofs.Found.{first-least, first_passes}
use Rattle.choice.proofs.Tests.{true-not-false}
use Rattle.qcow2_spec.specs.Guest.{located}
use Rattle.qcow2_spec.specs.Runs.{moved, same_found, goes_on, run_length, run_row, run_rows}
use Rattle.qcow2_spec.specs.declared.Found.{Found}
use Rattle.qcow2_spec.specs.declared.Found.TheVariants.{Host, Zeros, Absent}

-- only the same translation is the same
pub same-is : (f g : Result Found ℕ) → same_found f g ≡ true → f ≡ g
unfolding same_found
same-is (Ok (Host h)) (Ok (Host k)) e = ap (λ h. Ok (Host h)) (eqb-true h k e)
same-is (Ok (Host h)) (Ok Zeros) e = absurd (true-not-false e refl)
same-is (Ok (Host h)) (Ok Absent) e = absurd (true-not-false e refl)
same-is (Ok (Host h)) (Err k) e = absurd (true-not-false e refl)
same-is (Ok Zeros) (Ok (Host k)) e = absurd (true-not-false e refl)
same-is (Ok Zeros) (Ok Zeros) e = refl
same-is (Ok Zeros) (Ok Absent) e = absurd (true-not-false e refl)
same-is (Ok Zeros) (Err k) e = absurd (true-not-false e refl)
same-is (Ok Absent) (Ok (Host k)) e = absurd (true-not-false e refl)
same-is (Ok Absent) (Ok Zeros) e = absurd (true-not-false e refl)
same-is (Ok Absent) (Ok Absent) e = refl
same-is (Ok Absent) (Err k) e = absurd (true-not-false e refl)
same-is (Err k) (Ok (Host h)) e = absurd (true-not-false e refl)
same-is (Err k) (Ok Zeros) e = absurd (true-not-false e refl)
same-is (Err k) (Ok Absent) e = absurd (true-not-false e refl)
same-is (Err k) (Err n) e = ap Err (eqb-true k n e)

module _ (s : List ℕ) (t x : ℕ) where
  pub run-most : (len : ℕ) → run_length s t x len ≤ len
  unfolding run_length
  run-most len = omega (arith, first-high (λ i. not (goes_on s t x i)) 0 len)

  -- each byte of a run is found where the run has it
  pub run-byte : (len i : ℕ) → i < run_length s t x len → located s t (x + i) ≡ moved (located s t x) i
  unfolding run_length goes_on
  run-byte len i h = same-is _ _ (go (goes_on s t x i) refl)
    where
      go : (b : Bool) → goes_on s t x i ≡ b → goes_on s t x i ≡ true
      go true e = e
      go false e = absurd (omega (arith, h, first-high (λ j. not (goes_on s t x j)) 0 len, first-least (λ j. not (goes_on s t x j)) 0 len i (omega arith) (omega (arith, h, first-high (λ j. not (goes_on s t x j)) 0 len)) (ap not e)))

  -- and so at host offsets that go on one by one
  pub run_host : (len h i : ℕ) → located s t x ≡ Ok (Host h) → i < run_length s t x len → located s t (x + i) ≡ Ok (Host (h + i))
  run_host len h i e l = rw e at (run-byte len i l)

pub same_self : (f : Result Found ℕ) → same_found f f ≡ true
unfolding same_found
same_self (Ok (Host h)) = eq-eqb h h refl
same_self (Ok Zeros) = refl
same_self (Ok Absent) = refl
same_self (Err k) = eq-eqb k k refl

moved_none : (f : Result Found ℕ) → moved f 0 ≡ f
moved_none (Ok (Host h)) = ap (λ h. Ok (Host h)) (add-zero h)
moved_none (Ok Zeros) = refl
moved_none (Ok Absent) = refl
moved_none (Err k) = refl

module _ (s : List ℕ) (t x : ℕ) where
  pub goes_first : goes_on s t x 0 ≡ true
  unfolding goes_on
  goes_first = rw (add-zero, moved_none) (same_self (located s t x))

  -- a run of some bytes is not empty
  pub run-some : (len : ℕ) → 0 < len → 0 < run_length s t x len
  unfolding run_length
  run-some zero h = absurd (omega arith)
  run-some (suc n) h = rw goes_first (first-low (λ i. not (goes_on s t x i)) 1 n)

  -- a run that ends early ends where a byte does not go on alike
  pub run_end : (len : ℕ) → run_length s t x len < len → located s t (x + run_length s t x len) ≡ moved (located s t x) (run_length s t x len) → ⊥
  unfolding run_length goes_on
  run_end len h e = true-not-false (rw e (same_self _)) (not-true (goes_on s t x (run_length s t x len)) (first_passes (λ i. not (goes_on s t x i)) 0 len (omega arith)))

-- how many bytes the runs of a list have
abbrev pub covered : List ℕ → ℕ
covered [] = 0
covered (k ∷ []) = 0
covered (k ∷ h ∷ []) = 0
covered (k ∷ h ∷ r ∷ l) = r + covered l

-- with room enough they have all bytes of the range
pub rows_cover : (s : List ℕ) (t x len k : ℕ) → len ≤ k → covered (run_rows s t x len k) ≡ len
unfolding run_rows run_row
rows_cover s t x len zero h = omega arith
rows_cover s t x zero (suc k) h = refl
rows_cover s t x (suc n) (suc k) h =
    let some : 0 < run_length s t x (suc n) = run-some s t x (suc n) (omega arith) in
    let most : run_length s t x (suc n) ≤ suc n = run-most s t x (suc n) in
    let e : covered (run_rows s t x (suc n) (suc k)) ≡ run_length s t x (suc n) + covered (run_rows s t (x + run_length s t x (suc n)) (suc n - run_length s t x (suc n)) k) = rw (ne_eqb (suc n) 0 (λ z. omega arith)) in
    omega (arith, e, rows_cover s t (x + run_length s t x (suc n)) (suc n - run_length s t x (suc n)) k (omega arith))
