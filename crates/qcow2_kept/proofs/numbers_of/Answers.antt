use mathlib.Core.Path.{sym, ap}
use Rattle.qcow2_kept.specs.Kept.{numbers_of}
use Rattle.qcow2_kept.proofs.numbers_of.Goals as goal

pub returns-in-Sound : goal.returns-in-Sound
returns-in-Sound c = sym (ap numbers_of c.in-Sound.is)

pub returns-in-Leaks : goal.returns-in-Leaks
returns-in-Leaks c = sym (ap numbers_of c.in-Leaks.is)

pub returns-in-BadL1 : goal.returns-in-BadL1
returns-in-BadL1 c = sym (ap numbers_of c.in-BadL1.is)

pub returns-in-BadL2 : goal.returns-in-BadL2
returns-in-BadL2 c = sym (ap numbers_of c.in-BadL2.is)

pub returns-in-Shared : goal.returns-in-Shared
returns-in-Shared c = sym (ap numbers_of c.in-Shared.is)

pub returns-in-Short : goal.returns-in-Short
returns-in-Short c = sym (ap numbers_of c.in-Short.is)

pub returns-in-MarkL1 : goal.returns-in-MarkL1
returns-in-MarkL1 c = sym (ap numbers_of c.in-MarkL1.is)

pub returns-in-MarkL2 : goal.returns-in-MarkL2
returns-in-MarkL2 c = sym (ap numbers_of c.in-MarkL2.is)

pub returns-in-Refused : goal.returns-in-Refused
returns-in-Refused c = sym (ap numbers_of c.in-Refused.is)
