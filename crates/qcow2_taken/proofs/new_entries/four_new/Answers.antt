use Rattle.qcow2_taken.proofs.Runs.{run-four}
use Rattle.qcow2_taken.proofs.new_entries.four_new.Goals as goal

pub returns-then-not-entry_new : goal.returns-then-not-entry_new
returns-then-not-entry_new c = rw (run-four, ← c.entry_new.ensures, c.if-not-entry_new.true)

pub returns-then-not-entry_new-2 : goal.returns-then-not-entry_new-2
returns-then-not-entry_new-2 c = rw (run-four, ← c.entry_new.ensures, c.if-not-entry_new.false, ← c.entry_new-2.ensures, c.if-not-entry_new-2.true)

pub returns-then-not-entry_new-3 : goal.returns-then-not-entry_new-3
returns-then-not-entry_new-3 c =
    rw (run-four, ← c.entry_new.ensures, c.if-not-entry_new.false, ← c.entry_new-2.ensures, c.if-not-entry_new-2.false, ← c.entry_new-3.ensures, c.if-not-entry_new-3.true)

pub returns : goal.returns
returns c =
    rw (run-four, ← c.entry_new.ensures, c.if-not-entry_new.false, ← c.entry_new-2.ensures, c.if-not-entry_new-2.false, ← c.entry_new-3.ensures, c.if-not-entry_new-3.false)
    c.entry_new-4.ensures
