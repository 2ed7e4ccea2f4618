-- "No room" exactly where too few counts are zero: a write needs one or two free clusters. Assumes nothing.
use Prim.Native.Nat.{ℕ, ◌+◌, ◌-◌, ◌≤◌, ◌<◌}
use native.Mathlib.Nat.{zero-add}
use native.Mathlib.Omega.{arith}
use mathlib.Core.Path.{◌≡◌, refl}
use mathlib.Core.Logic.{◌↔◌}
use mathlib.Core.Bool.{Bool, true, false}
use mathlib.Core.List.{List}
use lib.Dec.{ltb}
use borrow.Author.Tests.{eq-eqb, ltb-true, ltb-false}
use Rattle.choice.specs.Pick.{first, count}
use Rattle.choice.proofs.Runs.{first-low}
use Rattle.choice.proofs.Found.{count-first, count_past, some_first, first-least}
use Rattle.qcow2_spec.specs.Header.{clusters}
use Rattle.qcow2_spec.specs.Counts.{count_of, free_at, free_from, free}

module _ (s : List ℕ) where
  -- the lowest free cluster is taken
  pub free-lowest : (k : ℕ) → k < clusters s → count_of s k ≡ 0 → free_from s 0 ≤ k
  unfolding free_from free_at
  free-lowest k l e = let z : clusters s - 0 ≡ clusters s = omega arith in rw z (first-least (free_at s) 0 (clusters s) k (omega arith) (omega arith) (eq-eqb _ _ e))

  -- one new cluster can be had exactly where a count is 0
  pub room-one : (free_from s 0 < clusters s) ↔ (1 ≤ free s)
  unfolding free_from free
  room-one =
      let z : clusters s - 0 ≡ clusters s = omega arith in
      rw z (rw zero-add at (some_first (free_at s) 0 (clusters s)))

  -- two can be had exactly where two counts are 0
  pub room-two : (free_from s (free_from s 0 + 1) < clusters s) ↔ (2 ≤ free s)
  unfolding free_from free
  room-two =
      let z : clusters s - 0 ≡ clusters s = omega arith in
      rw z (go (ltb t (clusters s)) refl)
    where
      t : ℕ
      t = first (free_at s) 0 (clusters s)

      u : ℕ
      u = first (free_at s) (t + 1) (clusters s - (t + 1))

      go : (b : Bool) → ltb t (clusters s) ≡ b → (u < clusters s) ↔ (2 ≤ count (free_at s) 0 (clusters s))
      go true e =
          let l : t < clusters s = ltb-true _ _ e in
          let c = rw zero-add at (count-first (free_at s) 0 (clusters s) (omega (arith, l))) in
          let r = some_first (free_at s) (t + 1) (clusters s - (t + 1)) in (
            λ h. omega (arith, c, r.0 (omega (arith, h, l))),
            λ h. omega (arith, l, r.1 (omega (arith, c, h))),
          )
      go false e =
          let l : clusters s ≤ t = ltb-false _ _ e in (
            λ h. absurd (omega (arith, l, h, first-low (free_at s) (t + 1) (clusters s - (t + 1)))),
            λ h. absurd (omega (arith, l, h, count_past (free_at s) 0 (clusters s) (omega (arith, l)))),
          )
