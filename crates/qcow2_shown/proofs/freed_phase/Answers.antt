-- `qcow2_shown::freed_phase` meets its contract. Assumes nothing.
use Rattle.qcow2_shown.proofs.freed_phase.Goals as goal

pub returns-in-Entry : goal.returns-in-Entry
returns-in-Entry c = rw c.in-Entry.is c.shown.ensures

pub returns-in-Both : goal.returns-in-Both
returns-in-Both c = rw c.in-Both.is c.shown-in-Both.ensures
