-- The portions of the image with two snapshots, proved by computation.
-- Assumes nothing.
use mathlib.Core.Path.{refl}
use Rattle.bench_table.proofs.Shots.{computing}
use Rattle.bench_portions.specs.Several.{Ones, Cuts, MadeUp, Faulty, Moved}
use Rattle.bench_portions.proofs.Portions.{portions}

unfoldable several : Unit {0}
unfolding computing portions
several = tt

pub ones : Ones
unfolding several
ones = record { first = refl; second = refl; third = refl; fourth = refl; last = refl }

pub cuts : Cuts
unfolding several
cuts = record { three = refl; four = refl; five = refl; four-more = refl; checked = refl; counted = refl }

pub made_up : MadeUp
unfolding several
made_up = record { snapshot-0 = refl; snapshot-1 = refl; no_index = refl; no-index-last = refl; no_table = refl }

pub faulty : Faulty
unfolding several
faulty = record { bad_l1 = refl; bad_l2 = refl; bad-at-once = refl; no-active = refl; no-snapshot = refl; no-snapshot-last = refl }

pub moved : Moved
unfolding several
moved = record { unnamed = refl; unnamed-check = refl; gone = refl; last-gone = refl; longer = refl; shorter = refl }
