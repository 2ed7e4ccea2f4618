-- A window of a scratch in which the fixed places and then the L1 tables in order are visited, table by table, and the first bad entry of the tables so far.
-- Assumes nothing.
use Prim.Native.Nat.{ℕ, zero, suc, ◌+◌, ◌-◌, ◌*◌, ◌/◌, ◌%◌, ◌≤◌, ◌<◌}
use native.Mathlib.Nat.{sub-zero}
use native.Mathlib.Omega.{arith}
use mathlib.Core.Path.{◌≡◌, refl, sym, ap, ◌∙◌}
use mathlib.Core.Bool.{true}
use mathlib.Core.List.{List}
use lib.ListN.{length, take, drop, replicate, length-replicate}
use lib.Seq.{take_all}
use Rattle.endian.specs.Big.{part}
use Rattle.endian.proofs.Entries.{length-entries}
use Rattle.tally.specs.States.{fixed_kind, table_kind, data_kind, visit_all, tree_visited}
use Rattle.tally.proofs.States.{length-visit_all, length-tree_visited}
use Rattle.window.specs.Window.{Board, board, visit_all_in, tree_visited_in}
use Rattle.window.proofs.Numbers.{visit_all_in-part, tree_visited_in-part, zeros-part}
use Rattle.qcow2_spec.specs.Header.{clusters, roots, root_size, root_at}
use Rattle.qcow2_spec.specs.References.{l1_entries, l1_refs, fixed_refs}
use Rattle.qcow2_spec.specs.Check.{or_else, l1_verdict}
use Rattle.qcow2_spec.specs.declared.Verdict.{Verdict}
use Rattle.qcow2_spec.specs.declared.Verdict.TheVariants.{Sound}
use Rattle.qcow2_spec.proofs.Else.{else_else, else_sound}
use Rattle.qcow2_trees.specs.Walks.{roots_visited}
use Rattle.qcow2_trees.proofs.Roots.{roots_turn, roots-none}
use Rattle.qcow2_forest.specs.Forest.{states_of}
use Rattle.qcow2_bad.proofs.Tables.{table_found, tables_from, tables_turn, tables-none}
use Rattle.qcow2_swept.specs.Rows.{seek_by}
use Rattle.qcow2_swept.proofs.Seeks.{seek_by-bad}

module _ (s : List ℕ) where
  -- the entries of an L1 table, all of them
  rows_all : (t n : ℕ) → n ≡ root_size s t → take (n - 0) (drop 0 (l1_entries s t)) ≡ l1_entries s t
  unfolding l1_entries
  rows_all t n e = take_all (n - 0) (l1_entries s t) (omega (arith, e, length-entries (root_size s t) (drop (root_at s t) s)))

  -- L1 table t swept from its first entry to its last, in the code's numbers
  module _ (t u n table leaf : ℕ) (hu : u ≡ t) (hn : n ≡ root_size s u) (hl : leaf ≡ data_kind t) where
    pub table-found : (v x : Verdict) → x ≡ or_else v (l1_verdict s (seek_by leaf s u) 0 (take (n - 0) (drop 0 (l1_entries s u))) Sound) → x ≡ or_else v (table_found s t)
    table-found v x h =
        h ∙ ap (λ (es : List ℕ). or_else v (l1_verdict s (seek_by leaf s u) 0 es Sound)) (rows_all u n hn)
        ∙ ap (or_else v) (seek_by-bad leaf s u 0 (l1_entries s u) Sound (λ q. omega (arith, q, hl))) ∙ ap (λ (k : ℕ). or_else v (table_found s k)) hu

    pub table-visited : (b : ℕ) (x y : Board) → table ≡ table_kind t → y ≡ tree_visited_in (l1_refs s) table leaf b (take (n - 0) (drop 0 (l1_entries s u))) x
        → y ≡ tree_visited_in (l1_refs s) (table_kind t) (data_kind t) b (l1_entries s t) x
    table-visited b x y ht h =
        h ∙ ap (λ (es : List ℕ). tree_visited_in (l1_refs s) table leaf b es x) (rows_all u n hn ∙ ap (l1_entries s) hu) ∙ rw (ht, hl) refl

  -- a whole scratch once the fixed places and the first t L1 tables are walked
  unfoldable pub walked_to : ℕ → List ℕ
  walked_to zero = visit_all fixed_kind (fixed_refs s) (replicate (2 * clusters s) 0)
  walked_to (suc t) = tree_visited (l1_refs s) (table_kind t) (data_kind t) (l1_entries s t) (walked_to t)

  length-walked : (t : ℕ) → length (walked_to t) ≡ 2 * clusters s
  unfolding walked_to
  length-walked zero = length-visit_all fixed_kind (fixed_refs s) (replicate (2 * clusters s) 0) ∙ length-replicate {A = ℕ} (2 * clusters s) 0
  length-walked (suc t) = length-tree_visited (l1_refs s) (table_kind t) (data_kind t) (l1_entries s t) (walked_to t) ∙ length-walked t

  walked-left : (t : ℕ) → t ≤ roots s → roots_visited true s t (roots s - t) (walked_to t) ≡ states_of s
  unfolding walked_to states_of
  walked-left zero h = rw sub-zero
  walked-left (suc t) h =
      let e : t + 1 ≡ suc t = omega arith in
      sym (rw e at (roots_turn true s (roots s) t (walked_to t) (omega arith))) ∙ walked-left t (omega arith)

  walked_all : walked_to (roots s) ≡ states_of s
  walked_all = sym (roots-none true s (roots s) (roots s) (walked_to (roots s)) (omega arith)) ∙ walked-left (roots s) (omega arith)

  -- ---- a window of m bytes, two for each cluster from b on
  module _ (b m : ℕ) (even : m % 2 ≡ 0) (fits : 2 * b + m ≤ 2 * clusters s) where
    abbrev pub window_to : ℕ → List ℕ
    window_to t = part (walked_to t) (2 * b) m

    twice : m ≡ 2 * (m / 2)
    twice = omega arith

    inside : b + m / 2 ≤ clusters s
    inside = omega arith

    -- the fixed places
    pub window_first : (z y : List ℕ) (low r : ℕ) → z ≡ replicate m 0 → board y r ≡ visit_all_in fixed_kind b (fixed_refs s) (board z low) → y ≡ window_to 0
    unfolding walked_to
    window_first z y low r e v =
        let Z : List ℕ = replicate (2 * clusters s) 0 in
        let d : z ≡ part Z (2 * b) (2 * (m / 2)) = e ∙ ap (λ (n : ℕ). replicate n 0) twice ∙ sym (zeros-part (clusters s) b (m / 2) inside) in
        ap (λ (w : Board). w.bytes)
        (v ∙ ap (λ (l : List ℕ). visit_all_in fixed_kind b (fixed_refs s) (board l low)) d
        ∙ visit_all_in-part (clusters s) b (m / 2) low inside fixed_kind (λ q. omega (arith, q)) (fixed_refs s) Z (length-replicate {A = ℕ} (2 * clusters s) 0))
        ∙ ap (part (visit_all fixed_kind (fixed_refs s) Z) (2 * b)) (sym twice)

    -- L1 table t more
    pub window_next : (t : ℕ) (z y : List ℕ) (low r : ℕ) → z ≡ window_to t
        → board y r ≡ tree_visited_in (l1_refs s) (table_kind t) (data_kind t) b (l1_entries s t) (board z low) → y ≡ window_to (t + 1)
    unfolding walked_to
    window_next t z y low r e v =
        let Z : List ℕ = walked_to t in
        let d : z ≡ part Z (2 * b) (2 * (m / 2)) = e ∙ ap (part Z (2 * b)) twice in
        let f : suc t ≡ t + 1 = omega arith in
        ap (λ (w : Board). w.bytes)
        (v ∙ ap (λ (l : List ℕ). tree_visited_in (l1_refs s) (table_kind t) (data_kind t) b (l1_entries s t) (board l low)) d
        ∙ tree_visited_in-part (clusters s) b (m / 2) low inside (table_kind t) (data_kind t) (λ q. omega (arith, q)) (λ q. omega (arith, q)) (l1_refs s) (l1_entries s t) Z (length-walked t))
        ∙ ap (part (walked_to (suc t)) (2 * b)) (sym twice) ∙ ap window_to f

    pub window_all : (t : ℕ) (z : List ℕ) → t ≡ roots s → z ≡ window_to t → z ≡ part (states_of s) (2 * b) m
    window_all t z e d = d ∙ ap window_to e ∙ ap (λ (l : List ℕ). part l (2 * b) m) walked_all

  -- ---- the first bad entry: found so far, and then in the tables left
  pub found-next : (t : ℕ) (v u : Verdict) → t < roots s → u ≡ or_else v (table_found s t) → or_else u (tables_from s (t + 1)) ≡ or_else v (tables_from s t)
  found-next t v u h e =
      ap (λ (w : Verdict). or_else w (tables_from s (t + 1))) e ∙ sym (else_else v (table_found s t) (tables_from s (t + 1))) ∙ ap (or_else v) (sym (tables_turn s t h))

  pub found_all : (t : ℕ) (v : Verdict) → roots s ≤ t → v ≡ or_else v (tables_from s t)
  found_all t v h = sym (else_sound v) ∙ ap (or_else v) (sym (tables-none s t h))
