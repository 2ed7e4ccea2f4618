-- Laws of a sweep that sets the bits of what an image without snapshots refers to, window by window.
-- Assumes nothing.
use Prim.Native.Nat.{ℕ, ◌+◌, ◌-◌, ◌*◌, ◌≤◌, ◌<◌, min}
use native.Mathlib.Nat.{add_assoc}
use native.Mathlib.Omega.{arith}
use mathlib.Core.Path.{◌≡◌, sym, ap, ◌∙◌}
use mathlib.Core.Logic.{◌⊎◌, inl, inr}
use mathlib.Core.Bool.{true, false}
use mathlib.Core.List.{List, ◌++◌}
use lib.Dec.{ltb}
use lib.ListN.{take, drop, replicate}
use lib.Seq.{get_or-drop, take_all}
use borrow.Author.Tests.{ltb-true, ltb-false, lt-ltb}
use Rattle.choice.proofs.Tests.{two_ways}
use Rattle.endian.specs.Big.{be16}
use Rattle.endian.proofs.Entries.{length-entries}
use Rattle.widths.specs.Width.{number}
use Rattle.tally.specs.Tally.{occurrences}
use Rattle.window.specs.Window.{Board, board, bit_kind, visit_all_in, tree_visited_in, Lowest}
use Rattle.window.proofs.Steps.{visit_all_in_append}
use Rattle.window.proofs.Bits.{tree_visited_in_bits, bits_set, bits_low}
use Rattle.qcow2_spec.specs.Header.{clusters, snapshots, root_size, root_at}
use Rattle.qcow2_spec.specs.References.{l1_refs, l1_entries, fixed_refs, root_refs, references}
use Rattle.qcow2_spec.specs.Check.{shared_at}
use Rattle.qcow2_spec.proofs.Single.{joined-one, single_shared}
use Rattle.qcow2_lowest.specs.Lowest.{LowestIn}
use Rattle.qcow2_bits.specs.Found.{SameFrom}

be16-drop : (t : List ℕ) (k i : ℕ) → be16 (drop k t) i ≡ be16 t (k + i)
unfolding be16
be16-drop t k i = simp (get_or-drop, add_assoc)

-- all entries of an L1 table, as a sweep takes them
pub rows_all : (s : List ℕ) (t k : ℕ) → k ≡ root_size s t → take (k - 0) (drop 0 (l1_entries s t)) ≡ l1_entries s t
unfolding l1_entries
rows_all s t k e = take_all (k - 0) (l1_entries s t) (omega (arith, length-entries (root_size s t) (drop (root_at s t) s)))

module _ (s : List ℕ) (one : snapshots s ≡ 0) where
  -- the fixed places and then the one L1 table are all references
  pub refs_visited : (b : ℕ) (w v x : Board) → v ≡ visit_all_in bit_kind b (fixed_refs s) w → x ≡ tree_visited_in (l1_refs s) bit_kind bit_kind b (l1_entries s 0) v
      → x ≡ visit_all_in bit_kind b (references s) w
  unfolding references root_refs
  refs_visited b w v x e f =
      f ∙ tree_visited_in_bits (l1_refs s) b (l1_entries s 0) v ∙ ap (visit_all_in bit_kind b (root_refs s 0)) e
      ∙ sym (visit_all_in_append bit_kind b (fixed_refs s) (root_refs s 0) w)
      ∙ ap (λ (l : List ℕ). visit_all_in bit_kind b (fixed_refs s ++ l) w) (sym (joined-one s one (root_refs s)))

  shared-twice : (k : ℕ) → shared_at s k ≡ true → 2 ≤ occurrences k (references s)
  shared-twice k h = ltb-true 1 (occurrences k (references s)) (sym (single_shared s one k) ∙ h)

  twice-shared : (k : ℕ) → 2 ≤ occurrences k (references s) → shared_at s k ≡ true
  twice-shared k h = single_shared s one k ∙ lt-ltb 1 (occurrences k (references s)) h

  -- a window of m bytes that was cleared, once all that is referred to is visited in it; k is as many clusters as it has bits for, or all that are left
  module _ (b m k : ℕ) (z t : List ℕ) (low n : ℕ) (is : n ≡ clusters s) (clear : z ≡ replicate m 0)
      (seen : board t low ≡ visit_all_in bit_kind b (references s) (board z (clusters s))) (most : k ≡ min (8 * m) (n - b)) (inside : b ≤ n) where
    swept : board t low ≡ visit_all_in bit_kind b (references s) (board (replicate m 0) (clusters s))
    swept = rw clear at seen

    pub window_lowest : LowestIn s b (b + k) low
    window_lowest = record {
      most = r.most;
      some = λ h. let t = r.twice h in (t.0, omega (arith, t.1), twice-shared low t.2);
      least = λ j h g t. r.least j h (omega arith) (shared-twice j t);
    }
      where
        r : Lowest b m (clusters s) (references s) low
        r = rw (← swept) at (bits_low b m (clusters s) (references s))

    bit_is : (j : ℕ) → j < 8 * m → number 1 t j ≡ min 1 (occurrences (b + j) (references s))
    bit_is j h = ap (λ (w : Board). number 1 w.bytes j) swept ∙ bits_set b m (clusters s) (references s) j h

    pub window_same : (scratch : List ℕ) → ((j : ℕ) → j < k → be16 (drop (2 * b) scratch) (2 * j) ≡ number 1 t j) → SameFrom s scratch b (b + k)
    window_same scratch f i h l =
        let a : 2 * b + 2 * (i - b) ≡ 2 * i = omega arith in
        let c : b + (i - b) ≡ i = omega arith in
        rw (be16-drop, a, c) at (f (i - b) (omega arith) ∙ bit_is (i - b) (omega arith))

-- a window longer than the clusters has room for all that are left
pub room-least : (m n b : ℕ) → min (8 * min m n) (n - b) ≡ min (8 * m) (n - b)
room-least m n b = omega arith

-- one window more
pub same_next : (s scratch : List ℕ) (b e : ℕ) → SameFrom s scratch 0 b → SameFrom s scratch b e → SameFrom s scratch 0 e
same_next s scratch b e f g k h l = go (two_ways (ltb k b))
  where
    go : (ltb k b ≡ true) ⊎ (ltb k b ≡ false) → be16 scratch (2 * k) ≡ min 1 (occurrences k (references s))
    go (inl x) = f k h (ltb-true k b x)
    go (inr x) = g k (ltb-false k b x) l
