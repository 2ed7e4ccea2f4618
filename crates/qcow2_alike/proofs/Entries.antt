-- Entries of an L2 table that go on alike.
-- Assumes nothing.
use Rattle.std.specs.Prelude.{Ok, Result}
use Prim.Native.Nat.{ℕ, ◌+◌, ◌-◌, ◌*◌, ◌^◌, ◌≤◌, ◌<◌}
use native.Mathlib.Nat.{add-mul, one-mul}
use native.Mathlib.Omega.{arith}
use mathlib.Core.Path.{◌≡◌, refl, sym, ap, ◌∙◌}
use mathlib.Core.Bool.{Bool, true, false, not}
use mathlib.Core.List.{List}
use borrow.Author.Tests.{not-true}
use Rattle.choice.proofs.Searches.{first_turn, first-none}
use Rattle.choice.proofs.Runs.{first-low, first-high}
use Rattle.choice.proofs.Found.{first-least, first_passes}
use Rattle.endian.specs.Big.{be64}
use Rattle.qcow2_spec.specs.Header.{most_length}
use Rattle.qcow2_spec.specs.Runs.{moved, same_found}
use Rattle.qcow2_spec.specs.declared.Found.{Found}
use Rattle.qcow2_spec.specs.declared.Found.TheVariants.{Host, Zeros, Absent}
use Rattle.qcow2_spec.proofs.Runs.{same_self, same-is}
use Rattle.qcow2_plain.specs.Plain.{bare, plain, marked}
use Rattle.qcow2_found.specs.Entry.{entry_found}
use Rattle.qcow2_found.proofs.Marked.{found_plain, found-other, found-empty, found-filled, found-marked, found_unmarked}
use Rattle.qcow2_alike.specs.Alike.{entry_goes, entries_end}

-- ---- the search for the end
module _ (v C n : ℕ) (l : List ℕ) (f : Result Found ℕ) (from : ℕ) where
  abbrev stops : ℕ → Bool
  stops k = not (entry_goes v C n l f from k)

  module _ (k end : ℕ) where
    pub end_turn : k < end → entry_goes v C n l f from k ≡ true → entries_end v C n l f from k end ≡ entries_end v C n l f from (k + 1) end
    unfolding entries_end
    end_turn h e = first_turn stops k end h ∙ rw e

    pub end_stop : k < end → entry_goes v C n l f from k ≡ false → entries_end v C n l f from k end ≡ k
    unfolding entries_end
    end_stop h e = first_turn stops k end h ∙ rw e

    pub end_over : end ≤ k → entries_end v C n l f from k end ≡ k
    unfolding entries_end
    end_over h = first-none stops k end h

  module _ (end : ℕ) (h : from ≤ end) where
    pub end_low : from ≤ entries_end v C n l f from from end
    unfolding entries_end
    end_low = first-low stops from (end - from)

    pub end_high : entries_end v C n l f from from end ≤ end
    unfolding entries_end
    end_high = omega (arith, first-high stops from (end - from))

    pub end_on : (k : ℕ) → from ≤ k → k < entries_end v C n l f from from end → entry_goes v C n l f from k ≡ true
    unfolding entries_end
    end_on k a b = go (entry_goes v C n l f from k) refl
      where
        go : (t : Bool) → entry_goes v C n l f from k ≡ t → entry_goes v C n l f from k ≡ true
        go true e = e
        go false e = absurd (omega (arith, b, first-least stops from (end - from) k a (omega (arith, b, first-high stops from (end - from))) (ap not e)))

    pub end_off : entries_end v C n l f from from end < end → entry_goes v C n l f from (entries_end v C n l f from from end) ≡ false
    unfolding entries_end
    end_off b = not-true _ (first_passes stops from (end - from) (omega arith))

-- ---- whether an entry goes on
same_not : (a b : Result Found ℕ) → (a ≡ b → ⊥) → same_found a b ≡ false
same_not a b n = go (same_found a b) refl
  where
    go : (t : Bool) → same_found a b ≡ t → t ≡ false
    go true e = absurd (n (same-is a b e))
    go false e = refl

module _ (v b n : ℕ) (l : List ℕ) (from k e : ℕ) (q : e ≡ be64 l (8 * k)) where
  -- from host offset h
  module _ (h : ℕ) where
    pub host_not : plain (2 ^ b) n e ≡ false → entry_goes v (2 ^ b) n l (Ok (Host h)) from k ≡ false
    unfolding entry_goes
    host_not p = rw (← q) (same_not _ _ (found-other v (2 ^ b) n e 0 _ p))

    module _ (low : 9 ≤ b) (most : n ≤ most_length) where
      pub host_goes : plain (2 ^ b) n e ≡ true → bare e ≡ h + (k - from) * 2 ^ b → entry_goes v (2 ^ b) n l (Ok (Host h)) from k ≡ true
      unfolding entry_goes
      host_goes p d =
          let z : bare e + 0 ≡ h + (k - from) * 2 ^ b = omega arith in
          rw (← q, found_plain v b n e 0 low most p, z) (same_self _)

      pub host_apart : (bare e ≡ h + (k - from) * 2 ^ b → ⊥) → entry_goes v (2 ^ b) n l (Ok (Host h)) from k ≡ false
      unfolding entry_goes
      host_apart d = rw (← q) (same_not _ _ (λ y. go (plain (2 ^ b) n e) refl y))
        where
          go : (t : Bool) → plain (2 ^ b) n e ≡ t → entry_found v (2 ^ b) n e 0 ≡ Ok (Host (h + (k - from) * 2 ^ b)) → ⊥
          go true p y =
              let z : Ok (Host (bare e + 0)) ≡ Ok (Host (h + (k - from) * 2 ^ b)) = sym (found_plain v b n e 0 low most p) ∙ y in
              let w : bare e + 0 ≡ h + (k - from) * 2 ^ b = cc in
              d (omega (arith, w))
          go false p y = found-other v (2 ^ b) n e 0 _ p y

  -- from no allocation
  pub empty_goes : e ≡ 0 → entry_goes v (2 ^ b) n l (Ok Absent) from k ≡ true
  unfolding entry_goes
  empty_goes z = rw (← q, found-empty v (2 ^ b) n e 0 z) (same_self (Ok Absent))

  pub empty-not : (e ≡ 0 → ⊥) → entry_goes v (2 ^ b) n l (Ok Absent) from k ≡ false
  unfolding entry_goes
  empty-not z = rw (← q) (same_not _ _ (found-filled v (2 ^ b) n e 0 z))

  -- from zeros
  pub marked_goes : 9 ≤ b → n ≤ most_length → marked v (2 ^ b) n e ≡ true → entry_goes v (2 ^ b) n l (Ok Zeros) from k ≡ true
  unfolding entry_goes
  marked_goes low most m = rw (← q, found-marked v b n e 0 low most m) (same_self (Ok Zeros))

  pub marked-not : marked v (2 ^ b) n e ≡ false → entry_goes v (2 ^ b) n l (Ok Zeros) from k ≡ false
  unfolding entry_goes
  marked-not m = rw (← q) (same_not _ _ (found_unmarked v (2 ^ b) n e 0 m))

  -- from what is alike at every byte
  pub still_goes : (f : Result Found ℕ) → ((j : ℕ) → moved f j ≡ f) → same_found (entry_found v (2 ^ b) n e 0) f ≡ entry_goes v (2 ^ b) n l f from k
  unfolding entry_goes
  still_goes f s = rw (← q, s ((k - from) * 2 ^ b))

-- twice the host offset that the next entry must have
pub next_host : (C h from k : ℕ) → from ≤ k → 2 * (h + (k - from) * C) + 2 * C ≡ 2 * (h + (k + 1 - from) * C)
next_host C h from k l =
    let d : k + 1 - from ≡ k - from + 1 = omega arith in
    rw d (omega (arith, add-mul (k - from) 1 C, one-mul C))
