-- The lowest shared cluster of a window by its numbers.
-- Assumes nothing.
use Prim.Native.Nat.{ℕ, ◌+◌, ◌-◌, ◌*◌, ◌/◌, ◌%◌, ◌≤◌, ◌<◌}
use native.Mathlib.Omega.{arith}
use mathlib.Core.Path.{◌≡◌, sym, ap, ◌∙◌}
use mathlib.Core.Bool.{Bool, true}
use mathlib.Core.List.{List}
use lib.ListN.{length}
use Rattle.choice.specs.Pick.{first}
use Rattle.choice.proofs.Found.{first-least, first_passes}
use Rattle.endian.specs.Big.{be16, part}
use Rattle.tally.specs.States.{bad_mark}
use Rattle.window.proofs.Numbers.{be16-part}
use Rattle.qcow2_spec.specs.Check.{shared_at}
use Rattle.qcow2_spec.specs.Opened.{Opened}
use Rattle.qcow2_spec.specs.declared.Geometry.{Geometry}
use Rattle.qcow2_spec.proofs.Facts.{facts}
use Rattle.qcow2_forest.specs.Forest.{states_of}
use Rattle.qcow2_forest.proofs.Scratches.{shared_state}
use Rattle.qcow2_lowest.specs.Lowest.{LowestIn}

-- a window of m bytes, two for each cluster from b on, whose bytes are z at last; its length is handed on as l
module _ (g : Geometry) (s : List ℕ) (o : Opened g s) (b m : ℕ) (even : m % 2 ≡ 0) (fits : 2 * b + m ≤ 2 * g.clusters)
    (l : ℕ) (hl : l ≡ m) (z : List ℕ) (hz : length z ≡ l) (e : z ≡ part (states_of s) (2 * b) l) where
  abbrev bad : ℕ → Bool
  bad k = bad_mark (be16 z (2 * k))

  shared_in : (j : ℕ) → j < m / 2 → bad j ≡ shared_at s (b + j)
  shared_in j h =
      let t : l ≡ 2 * (m / 2) = omega arith in
      let d : z ≡ part (states_of s) (2 * b) (2 * (m / 2)) = e ∙ ap (part (states_of s) (2 * b)) t in
      ap (λ (y : List ℕ). bad_mark (be16 y (2 * j))) d ∙ ap bad_mark (be16-part (states_of s) b (m / 2) j h)
      ∙ shared_state s (facts s o.accepted) (b + j) (omega (arith, h, fits, o.is-clusters))

  -- j is the first bad number
  module _ (j : ℕ) (hj : j ≡ first bad 0 (length z / 2)) where
    before : (k : ℕ) → b ≤ k → k < b + m / 2 → shared_at s k ≡ true → b + j ≤ k
    before k h u p =
        let y : b + (k - b) ≡ k = omega arith in
        let q : bad (k - b) ≡ true = shared_in (k - b) (omega arith) ∙ ap (shared_at s) y ∙ p in
        omega (arith, h, hj, first-least bad 0 (length z / 2) (k - b) (omega arith) (omega (arith, u, hl, hz)) q)

    pub window_some : j < length z / 2 → LowestIn s b (b + m / 2) (b + j)
    window_some h =
        let i : j < m / 2 = omega (arith, h, hl, hz) in
        let p : bad j ≡ true = ap bad hj ∙ first_passes bad 0 (length z / 2) (omega (arith, h, hj)) in
        record { most = omega (arith, i, fits, o.is-clusters); some = λ x. (omega arith, omega arith, sym (shared_in j i) ∙ p); least = before }

    pub window_none : length z / 2 ≤ j → LowestIn s b (b + m / 2) g.clusters
    window_none h =
        record { most = omega (arith, o.is-clusters); some = λ x. absurd (omega (arith, x, o.is-clusters)); least = λ k a u p. absurd (omega (arith, u, h, hl, hz, before k a u p)) }
