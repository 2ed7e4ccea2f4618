-- `qcow2_shown::shown` meets its contract. Assumes nothing.
use Rattle.qcow2_shown.proofs.Tests.{shown-one, shown-two}
use Rattle.qcow2_shown.proofs.shown.Goals as goal

pub returns-then-scan : goal.returns-then-scan
returns-then-scan c = shown-one c.args.at _ _ c.scan.ensures c.if-scan.true

pub returns : goal.returns
returns c = shown-two c.args.at _ _ c.scan.ensures c.if-scan.false
