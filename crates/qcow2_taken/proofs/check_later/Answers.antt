use mathlib.Core.Path.{sym, ap, ◌∙◌}
use Rattle.qcow2_spec.specs.Causes.{answer}
use Rattle.qcow2_header.proofs.Laws.{snapshots-told}
use Rattle.qcow2_taken.proofs.Rules.{later_backing, later_snapshots}
use Rattle.qcow2_taken.proofs.check_later.Goals as goal

pub check_snapshots-requires : goal.check_snapshots-requires
check_snapshots-requires c = let p = c.requires in ((p.short, p.high), snapshots-told _ _ p.is)

pub returns-then-bad_backing : goal.returns-then-bad_backing
returns-then-bad_backing c = rw (← later_backing _ (sym c.bad_backing.ensures ∙ c.if-bad_backing.true)) cc

pub returns : goal.returns
returns c = c.check_snapshots.ensures ∙ ap answer (later_snapshots _ (sym c.bad_backing.ensures ∙ c.if-bad_backing.false))
