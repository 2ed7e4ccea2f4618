-- What sweeps over windows tell of an image and of a scratch.
-- Assumes nothing.
use Rattle.std.specs.Prelude.{ℕ, ◌≡◌, true, List}
use Rattle.choice.specs.Pick.{all, first}
use Rattle.packed_twos.specs.Twos.{figures_in}
use Rattle.qcow2_spec.specs.Header.{clusters}
use Rattle.qcow2_spec.specs.References.{l1_entries}
use Rattle.qcow2_spec.specs.Check.{entry_good, shared_at}
use Rattle.qcow2_verdict.specs.Marks.{OwnMarks}
use Rattle.qcow2_windows.specs.declared.Looked.{Looked}

-- the lowest shared cluster; where there is none, `good` says that all active entries are good, and `right` that their marks are right too
pub record Looks (s scratch : List ℕ) (r : Looked) : Type 0 where
  pub shared : r.shared ≡ first (shared_at s) 0 (clusters s)
  pub good : r.shared ≡ clusters s → r.good ≡ true → all (entry_good s) (l1_entries s 0) ≡ true
  pub right : r.shared ≡ clusters s → r.right ≡ true → OwnMarks s (figures_in scratch)
