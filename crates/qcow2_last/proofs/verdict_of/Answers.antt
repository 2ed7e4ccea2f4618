use mathlib.Core.Path.{sym, ◌∙◌}
use Rattle.qcow2_last.proofs.Last.{found_first, found_none}
use Rattle.qcow2_last.proofs.verdict_of.Goals as goal

pub judge_last-requires : goal.judge_last-requires
judge_last-requires c = c.requires

pub returns-then-is_sound : goal.returns-then-is_sound
returns-then-is_sound c = c.judge_last.ensures ∙ found_none c.args.found _ (sym c.is_sound.ensures ∙ c.if-is_sound.true)

pub returns : goal.returns
returns c = found_first c.args.found _ (sym c.is_sound.ensures ∙ c.if-is_sound.false)
