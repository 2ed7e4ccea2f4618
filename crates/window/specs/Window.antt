-- Clusters visited in a window: only those from b on that there is room for. Two bytes of each hold its number, as in a whole scratch (`States` of tally), or one bit says that it was reached; with bits the lowest cluster that is reached again is kept beside them. Nothing here knows an image format.
-- Assumes nothing.
use Rattle.std.specs.Prelude.{ℕ, ◌+◌, ◌-◌, ◌*◌, ◌/◌, ◌≤◌, ◌<◌, min, not, List, [], ◌∷◌, ltb, eqb, length, take, drop, if◌then◌else◌}
use Rattle.widths.specs.Width.{number, stored}
use Rattle.tally.specs.Tally.{occurrences}
use Rattle.tally.specs.States.{visited}

-- the kind of a visit that sets one bit; those below it are the kinds of a scratch (`States`)
abbrev pub bit_kind : ℕ
bit_kind = 512

-- a window's bytes, and the lowest cluster that was reached again; `low` is a number that no cluster has where none was
pub record Board : Type 0 where
  pub bytes : List ℕ
  pub low : ℕ

abbrev pub board : List ℕ → ℕ → Board
board bytes low = record { bytes = bytes; low = low }

-- bit j is set, which is cluster c's; where it stands already, c is reached again
unfoldable pub bit_visited : (j c : ℕ) → Board → Board
bit_visited j c w =
    if not (ltb (j / 8) (length w.bytes)) then w else
    if eqb (number 1 w.bytes j) 1 then board w.bytes (min w.low c) else
    board (stored 1 w.bytes j 1) w.low

-- number j is stepped on
unfoldable pub number_visited : (kind j : ℕ) → Board → Board
number_visited kind j w = if not (ltb j (length w.bytes / 2)) then w else board (visited kind w.bytes j) w.low

-- cluster c is visited in the window from b on
unfoldable pub visited_in : (kind b c : ℕ) → Board → Board
visited_in kind b c w =
    if ltb c b then w else
    if eqb kind bit_kind then bit_visited (c - b) c w else
    number_visited kind (c - b) w

-- the clusters of a list
unfoldable pub visit_all_in : (kind b : ℕ) → List ℕ → Board → Board
visit_all_in kind b [] w = w
visit_all_in kind b (c ∷ cs) w = visit_all_in kind b cs (visited_in kind b c w)

-- what an entry refers to: the first is a table, the others are data
unfoldable pub entry_visited_in : (table leaf b : ℕ) → (refs : List ℕ) → Board → Board
entry_visited_in table leaf b refs w = visit_all_in leaf b (drop 1 refs) (visit_all_in table b (take 1 refs) w)

-- the entries of a tree, of which entry e refers to f e
unfoldable pub tree_visited_in : (f : ℕ → List ℕ) (table leaf b : ℕ) → (es : List ℕ) → Board → Board
tree_visited_in f table leaf b [] w = w
tree_visited_in f table leaf b (e ∷ es) w = tree_visited_in f table leaf b es (entry_visited_in table leaf b (f e) w)

-- of the clusters from b on that have a bit in m bytes, low is the lowest that stands in a list twice or more; it is `none` where none below that does
pub record Lowest (b m none : ℕ) (cs : List ℕ) (low : ℕ) : Type 0 where
  pub most : low ≤ none
  pub twice : low < none → (b ≤ low) × (low < b + 8 * m) × (2 ≤ occurrences low cs)
  pub least : (k : ℕ) → b ≤ k → k < b + 8 * m → 2 ≤ occurrences k cs → low ≤ k
