-- Entries of one L1 table are taken: what is left to be taken ends as before.
-- Assumes nothing.
use Prim.Native.Nat.{ℕ, ◌+◌, ◌-◌, ◌*◌, ◌≤◌, ◌<◌, min}
use native.Mathlib.Numerals.{add-one}
use native.Mathlib.Omega.{arith}
use mathlib.Core.Path.{◌≡◌, refl, sym, ap, ◌∙◌}
use mathlib.Core.Logic.{◌⊎◌, inl, inr, ◌≢◌}
use mathlib.Core.Bool.{true, false}
use mathlib.Core.List.{List, [], ◌∷◌, ◌++◌}
use lib.Dec.{ltb}
use lib.ListN.{length, take, drop, length-take, length-drop}
use lib.Seq.{take_all}
use borrow.Author.Tests.{ltb-true, ltb-false}
use Rattle.choice.proofs.Tests.{two_ways}
use Rattle.endian.proofs.Entries.{length-entries}
use Rattle.tally.proofs.States.{tree_visited-count}
use Rattle.window.specs.Window.{Board, board, bit_kind, tree_visited_in}
use Rattle.window.proofs.Numbers.{tree_visited_in-whole}
use Rattle.qcow2_spec.specs.Header.{roots, root_size, root_at}
use Rattle.qcow2_spec.specs.References.{l1_entries, l1_refs}
use Rattle.qcow2_spec.specs.Check.{or_else, l1_verdict}
use Rattle.qcow2_spec.specs.declared.Verdict.{Verdict}
use Rattle.qcow2_spec.specs.declared.Verdict.TheVariants.{Sound}
use Rattle.qcow2_swept.specs.Rows.{seek_by}
use Rattle.qcow2_swept.proofs.Seeks.{seek_by-bad}
use Rattle.qcow2_portions.specs.Rows.{Row, rows_of, ahead, added, met, root_after, row_after}
use Rattle.qcow2_portions.proofs.Rows.{added_append, met_append, added-rows, met-rows, take_within, take_across, length-ahead, length-ahead_out, root_after-rows, row_after-rows, root_after_append, row_after_append}
use Rattle.qcow2_take.specs.declared.Taking.{Taking}
use Rattle.qcow2_take.specs.Taking.{to_take, Takes}

counts : 0 ≢ bit_kind
counts e = omega (arith, e)

module _ (s : List ℕ) where
  pub length_rest : (t i : ℕ) → length (drop i (l1_entries s t)) ≡ root_size s t - i
  unfolding l1_entries
  length_rest t i = length-drop i (l1_entries s t) ∙ ap (λ (n : ℕ). n - i) (length-entries (root_size s t) (drop (root_at s t) s))

  -- a sweep that counts, over entries es of L1 table t from index i on
  module _ (N t i : ℕ) (es z y : List ℕ) (low r : ℕ) (v u : Verdict)
      (wide : length z ≡ 2 * N)
      (swept : board y r ≡ tree_visited_in (l1_refs s) 0 0 0 es (board z low))
      (named : u ≡ or_else v (l1_verdict s (seek_by 0 s t) i es Sound)) where
    swept_figures : y ≡ added s (rows_of t i es) z
    swept_figures = ap (λ (w : Board). w.bytes) (swept ∙ tree_visited_in-whole N low z wide (l1_refs s) 0 0 counts counts es) ∙ tree_visited-count (l1_refs s) es z ∙ sym (added-rows s t i es z)

    swept_found : u ≡ met s (rows_of t i es) v
    swept_found = named ∙ ap (or_else v) (seek_by-bad 0 s t i es Sound counts) ∙ sym (met-rows s t i es v)

  -- ---- the table has all that is to be taken
  module _ (w : Taking) (z y : List ℕ) (u : Verdict) (some : 0 < w.left) (here : w.root < roots s) (fits : w.left ≤ root_size s w.root - w.row)
      (figs : y ≡ added s (rows_of w.root w.row (take w.left (drop w.row (l1_entries s w.root)))) z)
      (fnd : u ≡ met s (rows_of w.root w.row (take w.left (drop w.row (l1_entries s w.root)))) w.found) where
    abbrev es : List ℕ
    es = take w.left (drop w.row (l1_entries s w.root))

    short : w.left ≤ length (drop w.row (l1_entries s w.root))
    short = omega (arith, length_rest w.root w.row)

    whole : to_take s w ≡ rows_of w.root w.row es
    whole = take_within s w.left w.root w.row here short

    many : length es ≡ w.left
    many = length-take w.left (drop w.row (l1_entries s w.root)) ∙ omega (arith, short)

    pub takes-within : Takes s w z (record { root = w.root; row = w.row + w.left; left = 0; found = u }) y
    unfolding added met root_after row_after
    takes-within = record {
      figures = figs ∙ ap (λ (q : List Row). added s q z) (sym whole);
      found = fnd ∙ ap (λ (q : List Row). met s q w.found) (sym whole);
      root = sym (ap (root_after w.root) whole ∙ root_after-rows w.root w.row es);
      row = sym (ap (row_after w.row) whole ∙ row_after-rows w.root w.row es ∙ ap (λ (n : ℕ). w.row + n) many);
      there = omega arith;
      less = omega arith;
    }

  -- ---- it has fewer
  module _ (w : Taking) (z y : List ℕ) (u : Verdict) (here : w.root < roots s) (there : w.left ≤ length (ahead s w.root w.row)) (past : root_size s w.root - w.row < w.left)
      (figs : y ≡ added s (rows_of w.root w.row (drop w.row (l1_entries s w.root))) z)
      (fnd : u ≡ met s (rows_of w.root w.row (drop w.row (l1_entries s w.root))) w.found) where
    abbrev rest : List ℕ
    rest = drop w.row (l1_entries s w.root)

    abbrev after : List Row
    after = take (w.left - (root_size s w.root - w.row)) (ahead s (w.root + 1) 0)

    size : length rest ≡ root_size s w.root - w.row
    size = length_rest w.root w.row

    split : to_take s w ≡ rows_of w.root w.row rest ++ after
    split = take_across s w.left w.root w.row here (omega (arith, size)) ∙ rw (size, ← add-one w.root) refl

    ahead-there : w.left - (root_size s w.root - w.row) ≤ length (ahead s (w.root + 1) 0)
    ahead-there = rw (add-one w.root) (omega (arith, length-ahead s w.root w.row here, size))

    nonempty : 0 < length after
    nonempty = omega (arith, length-take (w.left - (root_size s w.root - w.row)) (ahead s (w.root + 1) 0), ahead-there)

    pub takes_across : Takes s w z (record { root = w.root + 1; row = 0; left = w.left - (root_size s w.root - w.row); found = u }) y
    takes_across = record {
      figures = ap (added s after) figs ∙ sym (added_append s (rows_of w.root w.row rest) after z) ∙ ap (λ (q : List Row). added s q z) (sym split);
      found = ap (met s after) fnd ∙ sym (met_append s (rows_of w.root w.row rest) after w.found) ∙ ap (λ (q : List Row). met s q w.found) (sym split);
      root = sym (ap (root_after w.root) split ∙ root_after_append w.root (w.root + 1) (rows_of w.root w.row rest) after nonempty);
      row = sym (ap (row_after w.row) split ∙ row_after_append w.row 0 (rows_of w.root w.row rest) after nonempty);
      there = ahead-there;
      less = omega arith;
    }

  -- ---- the entries from an index on, which may lie past the table's end
  pub rest-rows : (t i : ℕ) → rows_of t (min i (root_size s t)) (take (root_size s t - min i (root_size s t)) (drop (min i (root_size s t)) (l1_entries s t))) ≡ rows_of t i (drop i (l1_entries s t))
  unfolding rows_of
  rest-rows t i = go (two_ways (ltb i (root_size s t)))
    where
      none : (k : ℕ) (l : List ℕ) → length l ≡ 0 → rows_of t k l ≡ []
      none k [] h = refl
      none k (x ∷ l) h = absurd (omega arith)

      go : (ltb i (root_size s t) ≡ true) ⊎ (ltb i (root_size s t) ≡ false) → rows_of t (min i (root_size s t)) (take (root_size s t - min i (root_size s t)) (drop (min i (root_size s t)) (l1_entries s t))) ≡ rows_of t i (drop i (l1_entries s t))
      go (inl h) =
          let e : min i (root_size s t) ≡ i = omega (arith, ltb-true i (root_size s t) h) in
          rw e (ap (rows_of t i) (take_all (root_size s t - i) (drop i (l1_entries s t)) (omega (arith, length_rest t i))))
      go (inr h) =
          let e : min i (root_size s t) ≡ root_size s t = omega (arith, ltb-false i (root_size s t) h) in
          let k : ℕ = min i (root_size s t) in
          let f : min (root_size s t - k) (length (drop k (l1_entries s t))) ≡ 0 = omega (arith, e) in
          none k (take (root_size s t - k) (drop k (l1_entries s t))) (length-take (root_size s t - k) (drop k (l1_entries s t)) ∙ f) ∙ sym (none i (drop i (l1_entries s t)) (omega (arith, length_rest t i, ltb-false i (root_size s t) h)))

  -- some are ahead only of a table that is there
  pub ahead-inside : (t i n : ℕ) → 0 < n → n ≤ length (ahead s t i) → t < roots s
  ahead-inside t i n p h = go (two_ways (ltb t (roots s)))
    where
      go : (ltb t (roots s) ≡ true) ⊎ (ltb t (roots s) ≡ false) → t < roots s
      go (inl x) = ltb-true t (roots s) x
      go (inr x) = absurd (omega (arith, length-ahead_out s t i (ltb-false t (roots s) x)))

  -- ---- in the numbers of the code: the table's number and size, the index of the first entry swept, and how many there are from it on
  module _ (w : Taking) (z y : List ℕ) (u : Verdict) (N root size from here low r : ℕ) (wide : length z ≡ 2 * N)
      (is-root : root ≡ w.root) (is-size : size ≡ root_size s root) (is_here : here ≡ size - w.row) (is_from : from ≡ min w.row size)
      (some : 0 < w.left) (there : w.left ≤ length (ahead s w.root w.row)) where
    sized : size ≡ root_size s w.root
    sized = is-size ∙ ap (root_size s) is-root

    pub within_code : w.left ≤ here
        → board y r ≡ tree_visited_in (l1_refs s) 0 0 0 (take (from + w.left - from) (drop from (l1_entries s root))) (board z low)
        → u ≡ or_else w.found (l1_verdict s (seek_by 0 s root) from (take (from + w.left - from) (drop from (l1_entries s root))) Sound)
        → Takes s w z (record { root = w.root; row = w.row + w.left; left = 0; found = u }) y
    within_code h a b =
        let i : from ≡ w.row = omega arith in
        let k : w.row + w.left - w.row ≡ w.left = omega arith in
        let x = rw (is-root, i, k) at a in
        let q = rw (is-root, i, k) at b in
        takes-within w z y u some (ahead-inside w.root w.row w.left some there) (omega (arith, sized))
        (swept_figures N w.root w.row _ z y low r w.found u wide x q)
        (swept_found N w.root w.row _ z y low r w.found u wide x q)

    pub across_code : here < w.left
        → board y r ≡ tree_visited_in (l1_refs s) 0 0 0 (take (size - from) (drop from (l1_entries s root))) (board z low)
        → u ≡ or_else w.found (l1_verdict s (seek_by 0 s root) from (take (size - from) (drop from (l1_entries s root))) Sound)
        → Takes s w z (record { root = w.root + 1; row = 0; left = w.left - here; found = u }) y
    across_code h a b =
        let t = w.root in
        let x = rw (is-root, is_from, sized) at a in
        let q = rw (is-root, is_from, sized) at b in
        let e = rest-rows t w.row in
        rw (is_here, sized)
        (takes_across w z y u (ahead-inside t w.row w.left some there) there (omega (arith, sized))
        (swept_figures N t (min w.row (root_size s t)) _ z y low r w.found u wide x q ∙ ap (λ (rs : List Row). added s rs z) e)
        (swept_found N t (min w.row (root_size s t)) _ z y low r w.found u wide x q ∙ ap (λ (rs : List Row). met s rs w.found) e))
