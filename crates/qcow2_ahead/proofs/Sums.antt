-- The number of L1 entries ahead as a sum of the tables' sizes, and its bound.
-- Assumes nothing.
use Prim.Native.Nat.{ℕ, zero, suc, ◌+◌, ◌-◌, ◌*◌, ◌≤◌, ◌<◌}
use native.Mathlib.Omega.{arith}
use mathlib.Core.Path.{◌≡◌, ap, ◌∙◌}
use mathlib.Core.List.{List}
use lib.ListN.{length, drop, length-drop}
use Rattle.endian.proofs.Entries.{length-entries}
use Rattle.qcow2_spec.specs.Header.{most_l1, most_snapshots, snapshots, roots, root_size, root_at}
use Rattle.qcow2_spec.specs.References.{l1_entries}
use Rattle.qcow2_spec.proofs.Facts.{Facts, root-count, root-few}
use Rattle.qcow2_portions.specs.Rows.{ahead}
use Rattle.qcow2_portions.proofs.Rows.{length-ahead, length-ahead_out}

module _ (s : List ℕ) where
  length_l1 : (t : ℕ) → length (l1_entries s t) ≡ root_size s t
  unfolding l1_entries
  length_l1 t = length-entries (root_size s t) (drop (root_at s t) s)

  -- what table t has from index i on, and all of the next tables
  pub ahead-sum : (t i : ℕ) → t < roots s → length (ahead s t i) ≡ root_size s t - i + length (ahead s (suc t) 0)
  ahead-sum t i h =
      let e : length (drop i (l1_entries s t)) ≡ root_size s t - i = length-drop i (l1_entries s t) ∙ ap (λ (n : ℕ). n - i) (length_l1 t) in
      length-ahead s t i h ∙ ap (λ (n : ℕ). n + length (ahead s (suc t) 0)) e

module _ (s : List ℕ) (f : Facts s) where
  -- the k last tables
  most : (k t : ℕ) → t + k ≡ roots s → length (ahead s t 0) ≤ most_l1 * k
  most zero t e = omega (arith, length-ahead_out s t 0 (omega arith))
  most (suc k) t e = omega (arith, ahead-sum s t 0 (omega arith), root-few s f t (omega arith), most k (suc t) (omega arith))

  -- the snapshots' tables from k on
  pub ahead-most : (k : ℕ) → k ≤ snapshots s → length (ahead s (suc k) 0) ≤ most_l1 * most_snapshots
  ahead-most k h = omega (arith, most (snapshots s - k) (suc k) (omega (arith, root-count s f)), f.some)

  -- a turn of the walk over the snapshots
  pub ahead_turn : (k n m : ℕ) → k < snapshots s → m ≡ root_size s (suc k) → n + m + length (ahead s (suc (k + 1)) 0) ≡ n + length (ahead s (suc k) 0)
  ahead_turn k n m h e =
      let a : suc (k + 1) ≡ suc (suc k) = omega arith in
      rw a (omega (arith, ahead-sum s (suc k) 0 (omega (arith, root-count s f))))
