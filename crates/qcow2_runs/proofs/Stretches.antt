-- A run by stretches.
-- Assumes nothing.
use Prim.Native.Nat.{ℕ, ◌+◌, ◌-◌, ◌*◌, ◌/◌, ◌%◌, ◌^◌, ◌≤◌, ◌<◌, min}
use native.Mathlib.Nat.{zero-add, sub-zero, mod-lt, div-add-mod', add-mul, one-mul, mul-mod_left, mul-le-mul_right}
use native.Mathlib.Omega.{arith}
use mathlib.Core.Path.{◌≡◌, ap, ◌∙◌}
use mathlib.Core.Bool.{Bool, true, false, not}
use mathlib.Core.List.{List}
use lib.Pow.{pow_pos}
use Rattle.choice.proofs.Searches.{first_turn, first-none}
use Rattle.choice.proofs.Runs.{first_miss}
use Rattle.choice.proofs.Found.{first-false}
use Rattle.qcow2_spec.specs.Header.{cluster_size}
use Rattle.qcow2_spec.specs.Guest.{reach}
use Rattle.qcow2_spec.specs.Runs.{goes_on, run_length}
use Rattle.qcow2_spec.specs.Opened.{Opened}
use Rattle.qcow2_spec.specs.declared.Geometry.{Geometry}
use Rattle.qcow2_spec.proofs.Runs.{same_self}
use Rattle.qcow2_guest.specs.Rows.{row_left}
use Rattle.qcow2_guest.proofs.Pieces.{located-moved}
use Rattle.qcow2_guest.proofs.Bytes.{row-left-some}
use Rattle.qcow2_stretch.specs.Going.{Goes, Ahead}
use Rattle.qcow2_runs.specs.Ends.{run_from}

-- ---- the first guest cluster
module _ (g : Geometry) (s : List ℕ) (o : Opened g s) (x len first : ℕ) (e : first ≡ min (2 ^ g.bits - x % 2 ^ g.bits) len) where
  pub cluster_goes : Goes s g.root x 0 first first
  unfolding goes_on
  cluster_goes = record { most = omega arith; on = λ j l. rw (zero-add j) (on j l); ends = λ l. absurd (omega arith) }
    where
      on : (j : ℕ) → j < first → goes_on s g.root x j ≡ true
      on j l =
          let k : x % cluster_size s + j < cluster_size s = rw (← o.is-cluster) (omega arith) in
          rw (located-moved s g.root x j k) (same_self _)

pub cluster_end : (g : Geometry) (x len first : ℕ) → first ≡ min (2 ^ g.bits - x % 2 ^ g.bits) len → first < len → (x + first) % 2 ^ g.bits ≡ 0
cluster_end g x len first e h =
    let C : ℕ = 2 ^ g.bits in
    let p : x % C < C = mod-lt x (pow_pos g.bits) in
    let d : x + first ≡ (x / C + 1) * C = omega (arith, div-add-mod' x C, add-mul (x / C) 1 C, one-mul C) in
    rw d (mul-mod_left (x / C + 1) C)

-- ---- the bytes of the next L1 entry
row_end : (C E x : ℕ) → 0 < C → 0 < E → (x + row_left C E x) % C ≡ 0
unfolding row_left
row_end C E x c e =
    let z : ℕ = E - x / C % E in
    let u : x / C % E < E = mod-lt (x / C) e in
    let n : 1 * C ≤ z * C = mul-le-mul_right C (omega arith) in
    let d : x + (z * C - x % C) ≡ (x / C + z) * C = omega (arith, div-add-mod' x C, mod-lt x c, one-mul C, add-mul (x / C) z C) in
    rw d (mul-mod_left (x / C + z) C)

module _ (g : Geometry) (y n m : ℕ) (e : m ≡ min (row_left (2 ^ g.bits) (2 ^ (g.bits - 3)) y) n) where
  -- after them a guest cluster starts
  pub row_stop : m < n → (y + m) % 2 ^ g.bits ≡ 0
  row_stop h =
      let d : m ≡ row_left (2 ^ g.bits) (2 ^ (g.bits - 3)) y = omega arith in
      rw d (row_end (2 ^ g.bits) (2 ^ (g.bits - 3)) y (pow_pos g.bits) (pow_pos (g.bits - 3)))

  pub row-some : 0 < n → 0 < m
  row-some h = omega (arith, row-left-some (2 ^ g.bits) (2 ^ (g.bits - 3)) y (pow_pos g.bits) (pow_pos (g.bits - 3)))

pub row-ahead : (g : Geometry) (s : List ℕ) (x i len m : ℕ) → m ≡ min (row_left (2 ^ g.bits) (2 ^ (g.bits - 3)) (x + i)) (len - i) → i < len → x + len ≤ reach s g.root → (x + i) % 2 ^ g.bits ≡ 0 → Ahead g s x i m
row-ahead g s x i len m e h f a = record { some = row-some g (x + i) (len - i) m e (omega arith); fits = omega arith; start = a; row = omega arith }

-- ---- where the run ends
module _ (s : List ℕ) (root x len : ℕ) where
  abbrev p : ℕ → Bool
  p i = not (goes_on s root x i)

  pub run-next : (i left r : ℕ) → i + left ≤ len → Goes s root x i left r → run_from s root x i (len - i) ≡ run_from s root x (i + r) (len - (i + r))
  unfolding run_from
  run-next i left r h u = first_miss p i r len (omega (arith, u.most)) (omega (arith, first-false p i r (λ j a b. at j a b)))
    where
      at : (j : ℕ) → i ≤ j → j < i + r → p j ≡ false
      at j a b = let d : i + (j - i) ≡ j = omega arith in ap not (rw d at (u.on (j - i) (omega arith)))

  pub run-first : (m r : ℕ) → m ≤ len → Goes s root x 0 m r → run_length s root x len ≡ run_from s root x r (len - r)
  unfolding run_length run_from
  run-first m r h u = rw (sub-zero, zero-add) at (run-next 0 m r (omega arith) u)

  pub run_stops : (i : ℕ) → i < len → goes_on s root x i ≡ false → run_from s root x i (len - i) ≡ i
  unfolding run_from
  run_stops i h e = first_turn p i len h ∙ rw e

  pub run-over : (i : ℕ) → len ≤ i → run_from s root x i (len - i) ≡ i
  unfolding run_from
  run-over i h = first-none p i len h
