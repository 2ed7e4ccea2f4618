use mathlib.Core.Path.{subst}
use lib.ListN.{length}
use Rattle.qcow2_jobs.specs.Jobs.{FreedIn}
use Rattle.qcow2_jobs.specs.declared.releasing.Freed.{Freed}
use Rattle.qcow2_discard.proofs.put_freed.Goals as goal

pub put_cleared-requires : goal.put_cleared-requires
put_cleared-requires c =
    subst (λ (f : Freed). FreedIn (length c.args.image.now) f) c.in-Entry.is c.requires

pub put_counted-requires : goal.put_counted-requires
put_counted-requires c =
    subst (λ (f : Freed). FreedIn (length c.args.image.now) f) c.in-Both.is c.requires

pub returns-in-Entry : goal.returns-in-Entry
returns-in-Entry c = rw c.in-Entry.is c.put_cleared.ensures

pub returns-in-Both : goal.returns-in-Both
returns-in-Both c = rw c.in-Both.is c.put_counted.ensures
