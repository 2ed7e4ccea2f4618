use mathlib.Core.Path.{sym, ◌∙◌}
use mathlib.Core.Bool.{false}
use Rattle.tally.specs.States.{flag_at}
use Rattle.scans.proofs.Flags.{some-none}
use Rattle.scans.proofs.first_bad.Goals as goal

pub returns : goal.returns
returns c = some-none (flag_at false c.args.scratch.now) _ (sym c.some_bad.ensures ∙ c.if-some_bad.false)
