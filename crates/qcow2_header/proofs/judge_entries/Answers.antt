use mathlib.Core.Path.{◌≡◌}
use mathlib.Core.Bool.{true}
use Rattle.qcow2_header.specs.Chain.{bad_entries, from10}
use Rattle.qcow2_header.proofs.judge_entries.Goals as goal

pub returns-then-bad_entries : goal.returns-then-bad_entries
unfolding from10
returns-then-bad_entries c = let e : bad_entries c.args.image.now ≡ true = cc in rw e cc

pub returns : goal.returns
unfolding from10
returns c = rw (← c.bad_entries.ensures, c.if-bad_entries.false) c.judge_backing.ensures
