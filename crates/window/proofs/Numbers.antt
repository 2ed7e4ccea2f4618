-- A window of numbers is a part of the whole scratch: visits in the window leave what visits to the whole scratch leave there.
-- Assumes nothing.
use Rattle.std.specs.Prelude.{if◌then◌else◌}
use Prim.Native.Nat.{ℕ, suc, ◌+◌, ◌-◌, ◌*◌, ◌/◌, ◌%◌, ◌≤◌, ◌<◌}
use native.Mathlib.Decide.{dec_lt}
use native.Mathlib.Omega.{arith}
use mathlib.Core.Path.{◌≡◌, refl, sym, ap, ◌∙◌}
use mathlib.Core.Logic.{◌≢◌}
use mathlib.Core.Bool.{Bool, true, false, not}
use mathlib.Core.List.{List, [], ◌∷◌, ◌++◌}
use lib.Dec.{ltb}
use lib.ListN.{length, take, drop, set, replicate, length-drop, length-replicate, replicate-append-replicate}
use lib.Seq.{length-take-le, take-set-le, take-set-lt, drop-set-lt, drop-set-add, take_all, take_at, drop_at}
use Rattle.endian.specs.Big.{be16, bytes16, part}
use Rattle.endian.proofs.Laws.{be16-same, part_same}
use Rattle.tally.specs.States.{step, visited, visit_all, entry_visited, tree_visited}
use Rattle.tally.proofs.States.{length-visited, length-visit_all, length-entry_visited, length-tree_visited}
use Rattle.window.specs.Window.{Board, board, bit_kind, number_visited, visited_in, visit_all_in, entry_visited_in, tree_visited_in}
use Rattle.window.proofs.Steps.{number-outside, number-inside, visit_before, visit_numbers}

-- ---- one store in a part of n elements from `at` on
module _ (s : List ℕ) (at n : ℕ) where
  set_before : (i v : ℕ) → i < at → part (set s i v) at n ≡ part s at n
  set_before i v h = ap (take n) (drop-set-lt at s i v h)

  set_after : (i v : ℕ) → n ≤ i → part (set s (at + i) v) at n ≡ part s at n
  set_after i v h = ap (take n) (drop-set-add at s i v) ∙ take-set-le n (drop at s) i v h

  set-inside : (i v : ℕ) → i < n → part (set s (at + i) v) at n ≡ set (part s at n) i v
  set-inside i v h = ap (take n) (drop-set-add at s i v) ∙ take-set-lt n (drop at s) i v h

-- two stores
module _ (s : List ℕ) (at n : ℕ) where
  sets_after : (i v w : ℕ) → n ≤ i → part (set (set s (at + i) v) (at + suc i) w) at n ≡ part s at n
  sets_after i v w h = set_after (set s (at + i) v) at n (suc i) w (omega arith) ∙ set_after s at n i v h

  sets_inside : (i v w : ℕ) → suc i < n → part (set (set s (at + i) v) (at + suc i) w) at n ≡ set (set (part s at n) i v) (suc i) w
  sets_inside i v w h = set-inside (set s (at + i) v) at n (suc i) w h ∙ ap (λ (l : List ℕ). set l (suc i) w) (set-inside s at n i v (omega arith))

-- ---- the number of a cluster of the window
pub be16-part : (z : List ℕ) (b k j : ℕ) → j < k → be16 (part z (2 * b) (2 * k)) (2 * j) ≡ be16 z (2 * (b + j))
be16-part z b k j h =
    let e : 2 * b + 2 * j ≡ 2 * (b + j) = omega arith in
    be16-same (part z (2 * b) (2 * k)) (2 * j) z (2 * b + 2 * j) (part_same z (2 * b) (2 * k) (2 * j) 2 (omega arith)) ∙ ap (be16 z) e

-- ---- one visit
module _ (kind : ℕ) (z : List ℕ) (b k : ℕ) where
  part-before : (c : ℕ) → c < b → part (visited kind z c) (2 * b) (2 * k) ≡ part z (2 * b) (2 * k)
  unfolding visited bytes16
  part-before c h = set_before (set z (2 * c) _) (2 * b) (2 * k) (suc (2 * c)) _ (omega arith) ∙ set_before z (2 * b) (2 * k) (2 * c) _ (omega arith)

  part-after : (j : ℕ) → k ≤ j → part (visited kind z (b + j)) (2 * b) (2 * k) ≡ part z (2 * b) (2 * k)
  unfolding visited bytes16
  part-after j h =
      let e : 2 * (b + j) ≡ 2 * b + 2 * j = omega arith in
      let f : suc (2 * (b + j)) ≡ 2 * b + suc (2 * j) = omega arith in
      rw (f, e) (sets_after z (2 * b) (2 * k) (2 * j) _ _ (omega arith))

  part-inside : (j : ℕ) → j < k → part (visited kind z (b + j)) (2 * b) (2 * k) ≡ visited kind (part z (2 * b) (2 * k)) j
  unfolding visited bytes16
  part-inside j h =
      let e : 2 * (b + j) ≡ 2 * b + 2 * j = omega arith in
      let f : suc (2 * (b + j)) ≡ 2 * b + suc (2 * j) = omega arith in
      let g : be16 (part z (2 * b) (2 * k)) (2 * j) ≡ be16 z (2 * (b + j)) = be16-part z b k j h in
      rw (g, f, e) (sets_inside z (2 * b) (2 * k) (2 * j) (step kind (be16 z (2 * b + 2 * j)) / 256 % 256) (step kind (be16 z (2 * b + 2 * j)) % 256) (omega arith))

-- ---- windows of k clusters from b on, in a scratch of N clusters
module _ (N b k low : ℕ) (fits : b + k ≤ N) where
  pub visited-part : (kind : ℕ) → kind ≢ bit_kind → (z : List ℕ) → length z ≡ 2 * N → (c : ℕ)
      → visited_in kind b c (board (part z (2 * b) (2 * k)) low) ≡ board (part (visited kind z c) (2 * b) (2 * k)) low
  visited-part kind ne z len c = go (dec_lt c b)
    where
      P : List ℕ
      P = part z (2 * b) (2 * k)

      shown : List ℕ → Board
      shown l = board l low

      long : length P ≡ 2 * k
      long = length-take-le (2 * k) (drop (2 * b) z) (rw length-drop (omega arith))

      at : (j : ℕ) → b + j ≡ c → Dec (j < k) → number_visited kind j (board P low) ≡ board (part (visited kind z c) (2 * b) (2 * k)) low
      at j e (yes h) = sym (number-inside kind P low j (visited kind P j) (omega (arith, long)) refl) ∙ ap shown (sym (part-inside kind z b k j h) ∙ ap (λ (y : ℕ). part (visited kind z y) (2 * b) (2 * k)) e)
      at j e (no h) = sym (number-outside kind P low j (omega (arith, long))) ∙ ap shown (sym (part-after kind z b k j (omega arith)) ∙ ap (λ (y : ℕ). part (visited kind z y) (2 * b) (2 * k)) e)

      go : Dec (c < b) → visited_in kind b c (board P low) ≡ board (part (visited kind z c) (2 * b) (2 * k)) low
      go (yes h) = sym (visit_before kind b c (board P low) h) ∙ ap shown (sym (part-before kind z b k c h))
      go (no h) = sym (visit_numbers kind b c (board P low) (omega arith) ne) ∙ at (c - b) (omega arith) (dec_lt (c - b) k)

  pub visit_all_in-part : (kind : ℕ) → kind ≢ bit_kind → (cs z : List ℕ) → length z ≡ 2 * N
      → visit_all_in kind b cs (board (part z (2 * b) (2 * k)) low) ≡ board (part (visit_all kind cs z) (2 * b) (2 * k)) low
  unfolding visit_all_in visit_all
  visit_all_in-part kind ne [] z len = refl
  visit_all_in-part kind ne (c ∷ cs) z len =
      ap (visit_all_in kind b cs) (visited-part kind ne z len c) ∙ visit_all_in-part kind ne cs (visited kind z c) (length-visited kind z c ∙ len)

  module _ (table leaf : ℕ) (net : table ≢ bit_kind) (nel : leaf ≢ bit_kind) where
    pub entry_visited_in-part : (refs z : List ℕ) → length z ≡ 2 * N
        → entry_visited_in table leaf b refs (board (part z (2 * b) (2 * k)) low) ≡ board (part (entry_visited table leaf refs z) (2 * b) (2 * k)) low
    unfolding entry_visited_in entry_visited
    entry_visited_in-part refs z len =
        ap (visit_all_in leaf b (drop 1 refs)) (visit_all_in-part table net (take 1 refs) z len)
        ∙ visit_all_in-part leaf nel (drop 1 refs) (visit_all table (take 1 refs) z) (length-visit_all table (take 1 refs) z ∙ len)

    pub tree_visited_in-part : (f : ℕ → List ℕ) (es z : List ℕ) → length z ≡ 2 * N
        → tree_visited_in f table leaf b es (board (part z (2 * b) (2 * k)) low) ≡ board (part (tree_visited f table leaf es z) (2 * b) (2 * k)) low
    unfolding tree_visited_in tree_visited
    tree_visited_in-part f [] z len = refl
    tree_visited_in-part f (e ∷ es) z len =
        ap (tree_visited_in f table leaf b es) (entry_visited_in-part (f e) z len)
        ∙ tree_visited_in-part f es (entry_visited table leaf (f e) z) (length-entry_visited table leaf (f e) z ∙ len)

-- a cleared scratch
pub zeros-part : (N b k : ℕ) → b + k ≤ N → part (replicate (2 * N) 0) (2 * b) (2 * k) ≡ replicate (2 * k) 0
zeros-part N b k h =
    let m : ℕ = 2 * (N - (b + k)) in
    let e : 2 * N ≡ 2 * b + (2 * k + m) = omega arith in
    rw (e, ← replicate-append-replicate (2 * b) (2 * k + m), ← replicate-append-replicate (2 * k) m)
    (ap (take (2 * k)) (drop_at (replicate (2 * b) 0) (replicate (2 * k) 0 ++ replicate m 0) (2 * b) (length-replicate (2 * b) 0))
    ∙ take_at (replicate (2 * k) 0) (replicate m 0) (2 * k) (length-replicate (2 * k) 0))

-- ---- a window that is the whole scratch
module _ (N low : ℕ) (z : List ℕ) (len : length z ≡ 2 * N) where
  whole : (y : List ℕ) → length y ≡ 2 * N → part y (2 * 0) (2 * N) ≡ y
  whole y e = take_all (2 * N) y (omega arith)

  pub visit_all_in-whole : (kind : ℕ) → kind ≢ bit_kind → (cs : List ℕ) → visit_all_in kind 0 cs (board z low) ≡ board (visit_all kind cs z) low
  visit_all_in-whole kind ne cs =
      ap (λ (l : List ℕ). visit_all_in kind 0 cs (board l low)) (sym (whole z len)) ∙ visit_all_in-part N 0 N low (omega arith) kind ne cs z len
      ∙ ap (λ (l : List ℕ). board l low) (whole (visit_all kind cs z) (length-visit_all kind cs z ∙ len))

  pub tree_visited_in-whole : (f : ℕ → List ℕ) (table leaf : ℕ) → table ≢ bit_kind → leaf ≢ bit_kind → (es : List ℕ)
      → tree_visited_in f table leaf 0 es (board z low) ≡ board (tree_visited f table leaf es z) low
  tree_visited_in-whole f table leaf net nel es =
      ap (λ (l : List ℕ). tree_visited_in f table leaf 0 es (board l low)) (sym (whole z len)) ∙ tree_visited_in-part N 0 N low (omega arith) table leaf net nel f es z len
      ∙ ap (λ (l : List ℕ). board l low) (whole (tree_visited f table leaf es z) (length-tree_visited f table leaf es z ∙ len))

-- ---- numbers leave the lowest cluster that bits told of
number_visited-low : (kind j : ℕ) (w : Board) → (number_visited kind j w).low ≡ w.low
unfolding number_visited
number_visited-low kind j w = go (ltb j (length w.bytes / 2))
  where
    go : (t : Bool) → (if not t then w else board (visited kind w.bytes j) w.low).low ≡ w.low
    go false = refl
    go true = refl

visited_in-low : (kind b : ℕ) → kind ≢ bit_kind → (c : ℕ) (w : Board) → (visited_in kind b c w).low ≡ w.low
visited_in-low kind b ne c w = go (dec_lt c b)
  where
    go : Dec (c < b) → (visited_in kind b c w).low ≡ w.low
    go (yes h) = ap (λ (v : Board). v.low) (sym (visit_before kind b c w h))
    go (no h) = ap (λ (v : Board). v.low) (sym (visit_numbers kind b c w (omega arith) ne)) ∙ number_visited-low kind (c - b) w

pub low-kept : (kind b : ℕ) → kind ≢ bit_kind → (cs : List ℕ) (w : Board) → (visit_all_in kind b cs w).low ≡ w.low
unfolding visit_all_in
low-kept kind b ne [] w = refl
low-kept kind b ne (c ∷ cs) w = low-kept kind b ne cs (visited_in kind b c w) ∙ visited_in-low kind b ne c w

pub tree_visited_in-low : (f : ℕ → List ℕ) (table leaf b : ℕ) → table ≢ bit_kind → leaf ≢ bit_kind → (es : List ℕ) (w : Board) → (tree_visited_in f table leaf b es w).low ≡ w.low
unfolding tree_visited_in entry_visited_in
tree_visited_in-low f table leaf b net nel [] w = refl
tree_visited_in-low f table leaf b net nel (e ∷ es) w =
    tree_visited_in-low f table leaf b net nel es _ ∙ low-kept leaf b nel (drop 1 (f e)) (visit_all_in table b (take 1 (f e)) w) ∙ low-kept table b net (take 1 (f e)) w
