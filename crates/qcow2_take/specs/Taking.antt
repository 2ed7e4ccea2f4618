-- Taking entries table by table: what is still to be taken ends as all of it would.
-- Assumes nothing.
use Rattle.std.specs.Prelude.{ℕ, ◌+◌, ◌-◌, ◌≤◌, ◌<◌, ◌≡◌, List, length, take}
use Rattle.qcow2_spec.specs.Header.{roots}
use Rattle.qcow2_portions.specs.Rows.{Row, ahead, added, met, root_after, row_after}
use Rattle.qcow2_take.specs.declared.Taking.{Taking}

-- the entries still to be taken
abbrev pub to_take : List ℕ → Taking → List Row
to_take s w = take w.left (ahead s w.root w.row)

-- what is left, in tables and entries
abbrev pub tables_left : List ℕ → Taking → ℕ
tables_left s w = roots s - w.root + w.left

-- from one state and its figures z to the next: both end alike
pub record Takes (s : List ℕ) (w : Taking) (z : List ℕ) (v : Taking) (y : List ℕ) : Type 0 where
  pub figures : added s (to_take s v) y ≡ added s (to_take s w) z
  pub found : met s (to_take s v) v.found ≡ met s (to_take s w) w.found
  pub root : root_after v.root (to_take s v) ≡ root_after w.root (to_take s w)
  pub row : row_after v.row (to_take s v) ≡ row_after w.row (to_take s w)
  pub there : v.left ≤ length (ahead s v.root v.row)
  pub less : tables_left s v < tables_left s w
