-- The image with two snapshots and one thing changed: what it is refused with, or its verdict.
-- Assumes nothing.
use mathlib.Core.Path.{refl}
use Rattle.bench_table.specs.Shots.{Wrong}
use Rattle.bench_table.proofs.Shots.{computing}

pub wrong_images : Wrong
unfolding computing
wrong_images = record { many = refl; askew = refl; past = refl; past-last = refl; l1_past = refl; l1_to_end = refl; rows = refl; place = refl; bad_snapshot_lem = refl; bad_l1 = refl; shared_roles = refl; shared-once = refl; shared-table = refl; short = refl; leak = refl; mark_1 = refl; mark_2 = refl; mark_unseen = refl }
