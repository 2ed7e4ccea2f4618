-- The image with two snapshots: what the calls answer on it, also with counts of other widths.
-- Assumes nothing.
use mathlib.Core.Path.{refl}
use Rattle.bench_table.specs.Shots.{Shots, Widths}
use Rattle.bench_table.proofs.Shots.{computing}

pub right-answers : Shots
unfolding computing
right-answers = record { accepted = refl; sound = refl; counted = refl; table_kept = refl; mark_kept = refl; own-written = refl; own-freed = refl; own_new = refl; reads-0 = refl; reads-1 = refl; reach-1 = refl; past-1 = refl; past-0 = refl; none_2 = refl }

pub other-widths : Widths
unfolding computing
other-widths = record { two = refl; two-leak = refl; two-cost = refl; two-mended = refl; two-sound = refl; one-short = refl; wide = refl; wide-leak = refl; wide-difference = refl; wide-mended = refl }
