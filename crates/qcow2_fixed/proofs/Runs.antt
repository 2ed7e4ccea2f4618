-- Laws of runs of clusters and of the references that the header and the tables give, visited in a window.
-- Assumes nothing.
use Prim.Native.Nat.{ℕ, zero, suc, ◌+◌, ◌-◌, ◌*◌, ◌/◌, ◌^◌, ◌≤◌, ◌<◌}
use mathlib.Core.Path.{◌≡◌, refl, sym}
use mathlib.Core.List.{List}
use native.Mathlib.Nat.{mul-one, mul-le-mul_left, div-mul-le_self, div-add-mod'}
use native.Mathlib.Omega.{arith}
use borrow.Author.Tests.{eq-eqb, ne_eqb}
use lib.Pow.{pow_pos}
use lib.ListN.{take}
use Rattle.choice.specs.Pick.{ceil_div}
use Rattle.tally.specs.Tally.{run, joined}
use Rattle.window.specs.Window.{Board, visited_in, visit_all_in}
use Rattle.window.proofs.Steps.{visit_all_in_append}
use Rattle.qcow2_spec.specs.Header.{cluster_size, table_at, table_clusters, blocks, table, snapshots, snapshots_at, snapshot_at, roots, root_at, root_size}
use Rattle.qcow2_spec.specs.References.{named, root_run, snapshot_run, fixed_refs}

-- not more clusters than bytes: of an image of n bytes, and that x bytes need
pub few-clusters : (n N b : ℕ) → n ≡ N * 2 ^ b → N ≤ n
few-clusters n N b e = omega (arith, mul-le-mul_left N (pow_pos b), mul-one N)

pub few_needed : (x b : ℕ) → ceil_div x (2 ^ b) ≤ x
few_needed x b = below (ceil_div x (2 ^ b)) (div-mul-le_self (x + (2 ^ b - 1)) (2 ^ b))
  where
    below : (q : ℕ) → q * 2 ^ b ≤ x + (2 ^ b - 1) → q ≤ x
    below zero h = omega arith
    below (suc q) h = omega (arith, h, pow_pos b, mul-le-mul_left q (pow_pos b), mul-one q)

module _ (kind b : ℕ) (f : ℕ → List ℕ) where
  -- what is to be visited from L1 table t of n on: table t first; nothing at the end
  module _ (n t : ℕ) (w : Board) where
    pub roots_turn : t < n
        → visit_all_in kind b (joined f (run t (n - t))) w ≡ visit_all_in kind b (joined f (run (t + 1) (n - (t + 1)))) (visit_all_in kind b (f t) w)
    unfolding run
    roots_turn h =
        let e : n - t ≡ suc (n - (t + 1)) = omega arith in
        let g : suc t ≡ t + 1 = omega arith in
        rw (e, g) (visit_all_in_append kind b (f t) (joined f (run (t + 1) (n - (t + 1)))) w)

    pub roots_end : n ≤ t → visit_all_in kind b (joined f (run t (n - t))) w ≡ w
    unfolding run visit_all_in
    roots_end h = let e : n - t ≡ 0 = omega arith in rw e

-- what a place names
module _ (kind b C p : ℕ) (w : Board) where
  pub named_none : p ≡ 0 → w ≡ visit_all_in kind b (named C p) w
  unfolding named visit_all_in
  named_none e = rw (eq-eqb p 0 e)

  pub named_some : (p ≡ 0 → ⊥) → visited_in kind b (p / C) w ≡ visit_all_in kind b (named C p) w
  unfolding named visit_all_in
  named_some e = rw (ne_eqb p 0 e)

-- one L1 table's clusters, and the snapshot table's, in the numbers that the code has
pub root-run : (s : List ℕ) (t at size C : ℕ) → at ≡ root_at s t → size ≡ root_size s t → C ≡ cluster_size s
    → run (at / C) (ceil_div (8 * size) C) ≡ root_run s t
unfolding root_run
root-run s t at size C a b c = rw (a, b, c)

pub snapshot_run_lem : (s : List ℕ) (at end C : ℕ) → at ≡ snapshots_at s → end ≡ snapshot_at s (snapshots s) → C ≡ cluster_size s
    → run (at / C) (ceil_div (end - at) C) ≡ snapshot_run s
unfolding snapshot_run
snapshot_run_lem s at end C a b c = rw (a, b, c)

-- no snapshots, no clusters of their table
pub snapshot_none : (s : List ℕ) (kind b : ℕ) (w : Board) → snapshots s ≡ 0 → 0 < cluster_size s → w ≡ visit_all_in kind b (snapshot_run s) w
unfolding snapshot_run snapshot_at visit_all_in run
snapshot_none s kind b w e h =
    let C : ℕ = cluster_size s in
    let d : snapshots_at s - snapshots_at s + (C - 1) ≡ C - 1 = omega arith in
    let q : (C - 1) / C ≡ 0 = few ((C - 1) / C) (omega (arith, div-add-mod' (C - 1) C)) in
    rw (e, d, q)
  where
    few : (q : ℕ) → q * cluster_size s ≤ cluster_size s - 1 → q ≡ 0
    few zero l = refl
    few (suc q) l = absurd (omega arith)

-- the fixed references, run by run
fixed-runs : (s : List ℕ) (kind b : ℕ) (w : Board) → visit_all_in kind b (fixed_refs s) w
    ≡ visit_all_in kind b (joined (named (cluster_size s)) (take (blocks s) (table s)))
    (visit_all_in kind b (snapshot_run s)
    (visit_all_in kind b (joined (root_run s) (run 0 (roots s)))
    (visit_all_in kind b (run (table_at s / cluster_size s) (table_clusters s)) (visited_in kind b 0 w))))
unfolding fixed_refs visit_all_in
fixed-runs s kind b w = simp visit_all_in_append

-- the same in the numbers that the code has
pub fixed-all : (s : List ℕ) (kind b : ℕ) (w : Board) (at span C : ℕ) → at ≡ table_at s → span ≡ table_clusters s → C ≡ cluster_size s
    → visit_all_in kind b (joined (named (cluster_size s)) (take (blocks s) (table s)))
    (visit_all_in kind b (snapshot_run s)
    (visit_all_in kind b (joined (root_run s) (run 0 (roots s))) (visit_all_in kind b (run (at / C) span) (visited_in kind b 0 w))))
    ≡ visit_all_in kind b (fixed_refs s) w
fixed-all s kind b w at span C c d e = rw (c, d, e) (sym (fixed-runs s kind b w))
