-- The lists on the image that is made longer, and what they leave, proved by computation.
-- Assumes nothing.
use mathlib.Core.Path.{refl, subst, fun_ext}
use Rattle.units.specs.Plan.{after}
use Rattle.qcow2_spec.specs.Check.{check}
use Rattle.bench_table.proofs.Quick.{quick, quick_ok}
use Rattle.bench_table.proofs.Table.{computing}
use Rattle.qcow2_longer.specs.Extend.{bad_old, old_blocks, new_blocks, new_place, to_make, good_new, good_longer, longer_number, extend_number, new_block, make_block, make_blocks, extend_plan}
use Rattle.qcow2_longer.specs.Numbers.{padded, two, three}
use Rattle.bench_longer.specs.Longer.{over-table, noisy, Lists, Left}

-- what an example computes with, beside the bench table's
unfoldable extending : Unit {0}
unfolding computing bad_old old_blocks new_blocks new_place to_make good_new good_longer longer_number extend_number new_block make_block make_blocks extend_plan padded two three over-table noisy check
extending = tt

pub lists : Lists
unfolding extending
lists = record { one_block = refl; same_block = refl; all_made = refl; own = refl; last = refl; next = refl; cleared = refl; cleared-cost = refl; not-cleared = refl; count-1 = refl; count-4 = refl; count-8 = refl; count-16 = refl; count-32 = refl; on-entry = refl }

quick_left : Left quick
unfolding extending
quick_left = record { sound = refl; leak = refl }

pub stored : Left after
stored = subst Left (fun_ext (λ p. fun_ext (λ a. fun_ext (λ s. quick_ok p a s)))) quick_left
