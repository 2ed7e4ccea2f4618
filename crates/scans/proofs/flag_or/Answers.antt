use Rattle.scans.proofs.Flags.{flag-zero, flag_one, flag-more, flag-bad, flag-good}
use Rattle.scans.proofs.flag_or.Goals as goal

pub returns-then-t-eq0 : goal.returns-then-t-eq0
returns-then-t-eq0 c = let a = c.args in rw (flag-zero a.t a.alone c.if-t-eq0.true)

pub returns-then-t-eq256 : goal.returns-then-t-eq256
returns-then-t-eq256 c = let a = c.args in rw (flag_one a.t a.alone c.if-alone.true c.if-t-eq256.true)

pub returns-then-alone : goal.returns-then-alone
returns-then-alone c =
    let a = c.args in
    rw (flag-more a.t a.alone c.if-alone.true c.if-t-eq0.false c.if-t-eq256.false)

pub returns-then-t-eq0-2 : goal.returns-then-t-eq0-2
returns-then-t-eq0-2 c =
    let a = c.args in
    rw (flag-bad a.t a.alone c.if-alone.false c.if-t-eq0.false c.if-t-eq0-2.true)

pub returns : goal.returns
returns c =
    let a = c.args in
    rw (flag-good a.t a.alone c.if-alone.false c.if-t-eq0.false c.if-t-eq0-2.false)
