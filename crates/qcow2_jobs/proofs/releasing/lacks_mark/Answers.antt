use Rattle.qcow2_jobs.proofs.releasing.lacks_mark.Goals as goal

pub returns-then-g : goal.returns-then-g
returns-then-g c = rw c.if-g.true

pub returns : goal.returns
returns c = rw c.if-g.false
