-- The numbers on the image that is made longer, proved by computation. Assumes nothing.
use mathlib.Core.Path.{refl}
use Rattle.bench_table.proofs.Table.{computing}
use Rattle.qcow2_longer.specs.Extend.{bad_old, old_blocks, new_blocks, new_place, to_make, good_new, good_longer, longer_number, extend_number}
use Rattle.qcow2_longer.specs.Numbers.{padded, two, Numbers}

pub numbers : Numbers
unfolding computing bad_old old_blocks new_blocks new_place to_make good_new good_longer longer_number extend_number padded two
numbers = record { accepted = refl; one-cluster = refl; nothing_old = refl; nothing_named = refl; too_short = refl; no_multiple = refl; above = refl; all_old = refl; all_named = refl; no_first = refl; askew = refl; past_old = refl; past_new = refl; made = refl; elsewhere = refl; late = refl; nine_first = refl; eighteen_first = refl; bad_name = refl; ten_first = refl; name_alone = refl; shots = refl; name_first = refl; last_of_old = refl; first_of_new = refl; others = refl }
