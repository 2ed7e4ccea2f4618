-- The portions of the bench image and of images with an L2 table, proved by computation.
-- Assumes nothing.
use mathlib.Core.Path.{refl, subst, fun_ext}
use Rattle.units.specs.Plan.{after}
use Rattle.tally.specs.Tally.{bumped_wide, bump_all_wide, wide}
use Rattle.qcow2_spec.specs.References.{scratch_after, scratch_counted, scratch_left}
use Rattle.qcow2_spec.specs.Check.{check}
use Rattle.qcow2_portions.specs.Rows.{rows_of, tables_rows, ahead, added, met, root_after, row_after, started}
use Rattle.qcow2_portions.specs.Last.{passed_l1, passed_all, good_marks, marks_verdict, last_verdict}
use Rattle.qcow2_portion.specs.State.{taken_rows, figures_taken, verdict_taken, taken, stepped, scratch_stepped, portioned, scratch_portioned, portion, scratch_portion}
use Rattle.qcow2_portion.specs.Cutting.{state_after, scratch_after as scratch_over}
use Rattle.bench_table.proofs.Quick.{quick, quick_ok}
use Rattle.bench_table.proofs.Table.{computing}
use Rattle.bench_portions.specs.Portions.{tabled, second, other, Begun, Found, Ended, Kept, Empty, Whole, Taken, Bad, Changed}

-- what a portion computes with, beside the bench table's
unfoldable pub portions : Unit {0}
unfolding computing bumped_wide bump_all_wide wide scratch_after scratch_counted scratch_left check rows_of tables_rows ahead added met root_after row_after started passed_l1 passed_all good_marks marks_verdict last_verdict taken_rows figures_taken verdict_taken taken stepped scratch_stepped portioned scratch_portioned portion scratch_portion state_after scratch_over tabled second other
portions = tt

pub begun : Begun
unfolding portions
begun = record { none = refl; none_going = refl; none_ahead = refl; one = refl; one_more = refl; both = refl; five = refl; rest = refl; rest_going = refl }

pub found : Found
unfolding portions
found = record { leaks = refl; bad_l1 = refl; bad_l2 = refl; shared = refl; short = refl; mark_l1 = refl; mark_l2 = refl; refused = refl; leaks-told = refl; refused-told = refl }

pub ended : Ended
unfolding portions
ended = record { sound = refl; leaks = refl; bad = refl }

pub kept : Kept
unfolding portions
kept = record { no_room = refl; no_room-none = refl; no_room-finished = refl; no_header = refl; no_header_going = refl; no_header-finished = refl; no_bytes_lent = refl; bytes_lent = refl }

pub empty : Empty
unfolding portions
empty = record { none = refl; one = refl }

quick_whole : Whole quick
unfolding portions
quick_whole = record { written_is = refl }

pub whole : Whole after
whole = subst Whole (fun_ext (λ p. fun_ext (λ a. fun_ext (λ s. quick_ok p a s)))) quick_whole

pub taken-entries : Taken
unfolding portions
taken-entries = record { one = refl; one_more = refl; both = refl; handed_on = refl; handed_scratch = refl; checked = refl; counted = refl; capped = refl; carried = refl; of-two-bytes = refl; no_index = refl; no_table = refl; no_numbers = refl }

pub bad : Bad
unfolding portions
bad = record { first = refl; first-told = refl; first-at-once = refl; second-bad = refl; both-bad = refl; below = refl; below-first = refl }

pub changed : Changed
unfolding portions
changed = record { unnamed = refl; unnamed-check = refl; before = refl; short = refl; mark = refl; mark_check = refl; mark-below = refl; no-mark = refl; no_mark_check = refl; mark_late = refl; leaks = refl; shared = refl; shared-before = refl }
