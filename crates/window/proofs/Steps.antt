-- One visit in a window, by its cases, and a run of them.
-- Assumes nothing.
use Prim.Native.Nat.{ℕ, suc, ◌+◌, ◌-◌, ◌*◌, ◌/◌, ◌≤◌, ◌<◌, min}
use native.Mathlib.Omega.{arith}
use mathlib.Core.Path.{◌≡◌, refl, sym, ◌∙◌}
use mathlib.Core.Logic.{◌≢◌}
use mathlib.Core.List.{List, [], ◌∷◌, ◌++◌}
use lib.ListN.{length, drop}
use borrow.Author.Tests.{eq-eqb, ne_eqb, lt-ltb, le-ltb}
use Rattle.widths.specs.Width.{number, stored}
use Rattle.endian.specs.Big.{be64, entries}
use Rattle.endian.proofs.Entries.{entries_turn, entries_none}
use Rattle.tally.specs.Tally.{run, joined}
use Rattle.tally.specs.States.{visited}
use Rattle.window.specs.Window.{Board, board, bit_kind, bit_visited, number_visited, visited_in, visit_all_in}

module _ (s : List ℕ) (low j c : ℕ) where
  pub bit-outside : length s ≤ j / 8 → board s low ≡ bit_visited j c (board s low)
  unfolding bit_visited
  bit-outside h = rw (le-ltb (j / 8) (length s) h) refl

  pub bit-again : (x r : ℕ) → j / 8 < length s → x ≡ number 1 s j → x ≡ 1 → r ≡ min low c → board s r ≡ bit_visited j c (board s low)
  unfolding bit_visited
  bit-again x r h e o m = rw (lt-ltb (j / 8) (length s) h, eq-eqb (number 1 s j) 1 (sym e ∙ o), m) refl

  pub bit-first : (t : List ℕ) (x : ℕ) → j / 8 < length s → x ≡ number 1 s j → x ≢ 1 → t ≡ stored 1 s j 1 → board t low ≡ bit_visited j c (board s low)
  unfolding bit_visited
  bit-first t x h e o m = rw (lt-ltb (j / 8) (length s) h, ne_eqb (number 1 s j) 1 (λ y. o (e ∙ y)), m) refl

module _ (kind : ℕ) (s : List ℕ) (low j : ℕ) where
  pub number-outside : length s / 2 ≤ j → board s low ≡ number_visited kind j (board s low)
  unfolding number_visited
  number-outside h = rw (le-ltb j (length s / 2) h) refl

  pub number-inside : (t : List ℕ) → j < length s / 2 → t ≡ visited kind s j → board t low ≡ number_visited kind j (board s low)
  unfolding number_visited
  number-inside t h e = rw (lt-ltb j (length s / 2) h, e) refl

module _ (kind b c : ℕ) (w : Board) where
  pub visit_before : c < b → w ≡ visited_in kind b c w
  unfolding visited_in
  visit_before h = rw (lt-ltb c b h) refl

  pub visit_bits : b ≤ c → kind ≡ bit_kind → bit_visited (c - b) c w ≡ visited_in kind b c w
  unfolding visited_in
  visit_bits h e = rw (le-ltb c b h, eq-eqb kind bit_kind e) refl

  pub visit_numbers : b ≤ c → kind ≢ bit_kind → number_visited kind (c - b) w ≡ visited_in kind b c w
  unfolding visited_in
  visit_numbers h e = rw (le-ltb c b h, ne_eqb kind bit_kind e) refl

-- ---- lists
pub visit_all_in_append : (kind b : ℕ) (rs qs : List ℕ) (w : Board) → visit_all_in kind b (rs ++ qs) w ≡ visit_all_in kind b qs (visit_all_in kind b rs w)
unfolding visit_all_in
visit_all_in_append kind b [] qs w = refl
visit_all_in_append kind b (c ∷ cs) qs w = visit_all_in_append kind b cs qs (visited_in kind b c w)

pub visit_all_in-none : (kind b : ℕ) (w : Board) → w ≡ visit_all_in kind b [] w
unfolding visit_all_in
visit_all_in-none kind b w = refl

pub visit_all_in-one : (kind b c : ℕ) (w : Board) → visited_in kind b c w ≡ visit_all_in kind b (c ∷ []) w
unfolding visit_all_in
visit_all_in-one kind b c w = refl

-- what the entries of a table from j of k on refer to: entry j first; nothing at the end
module _ (kind b : ℕ) (f : ℕ → List ℕ) (k j : ℕ) (t : List ℕ) (w : Board) where
  pub visit_all_in_turn : j < k
      → visit_all_in kind b (joined f (entries (k - j) (drop (8 * j) t))) w
      ≡ visit_all_in kind b (joined f (entries (k - (j + 1)) (drop (8 * (j + 1)) t))) (visit_all_in kind b (f (be64 t (8 * j))) w)
  visit_all_in_turn h = rw (entries_turn k j t h) (visit_all_in_append kind b (f (be64 t (8 * j))) _ w)

  pub visit_all_in_end : k ≤ j → visit_all_in kind b (joined f (entries (k - j) (drop (8 * j) t))) w ≡ w
  visit_all_in_end h = rw (entries_none k j t h) (sym (visit_all_in-none kind b w))

-- one of the k - j turns of a run
pub run_turn : (kind b i k j : ℕ) (w : Board) → j < k
    → visit_all_in kind b (run (i + j) (k - j)) w ≡ visit_all_in kind b (run (i + (j + 1)) (k - (j + 1))) (visited_in kind b (i + j) w)
unfolding run visit_all_in
run_turn kind b i k j w h =
    let e : k - j ≡ suc (k - (j + 1)) = omega arith in
    let f : suc (i + j) ≡ i + (j + 1) = omega arith in
    rw (e, f)

pub run_none : (kind b i k j : ℕ) (w : Board) → k ≤ j → visit_all_in kind b (run (i + j) (k - j)) w ≡ w
unfolding run visit_all_in
run_none kind b i k j w h = let e : k - j ≡ 0 = omega arith in rw e
