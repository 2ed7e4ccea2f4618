use mathlib.Core.Path.{sym, ◌∙◌}
use Rattle.qcow2_header.specs.Chain.{from9}
use Rattle.qcow2_header.proofs.Laws.{tables-is, placed}
use Rattle.qcow2_header.proofs.judge_tables.Goals as goal

pub returns-then-misplaced_tables : goal.returns-then-misplaced_tables
unfolding from9
returns-then-misplaced_tables c =
    rw (← tables-is _ _ c.requires.is, ← c.misplaced_tables.ensures, c.if-misplaced_tables.true) cc

pub judge_entries-requires : goal.judge_entries-requires
judge_entries-requires c = placed _ _ c.requires (sym c.misplaced_tables.ensures ∙ c.if-misplaced_tables.false)

pub returns : goal.returns
unfolding from9
returns c =
    rw (← tables-is _ _ c.requires.is, ← c.misplaced_tables.ensures, c.if-misplaced_tables.false) c.judge_entries.ensures
