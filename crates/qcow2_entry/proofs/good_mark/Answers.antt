use mathlib.Core.Path.{◌≡◌}
use mathlib.Core.Bool.{true, false}
use Rattle.qcow2_spec.specs.Entries.{zero_mark}
use Rattle.qcow2_entry.proofs.good_mark.Goals as goal

pub returns-then-has_mark : goal.returns-then-has_mark
returns-then-has_mark c = let t : zero_mark c.args.e ≡ true = cc in rw t

pub returns : goal.returns
returns c = let t : zero_mark c.args.e ≡ false = cc in rw t
