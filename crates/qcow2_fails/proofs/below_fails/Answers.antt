use Rattle.qcow2_fails.proofs.Failing.{figures-many, second_fair, below_fails}
use Rattle.qcow2_fails.proofs.below_fails.Goals as goal

pub below_at-e-requires : goal.below_at-e-requires
below_at-e-requires c = c.requires.0

pub entry_fails-requires : goal.entry_fails-requires
entry_fails-requires c =
    let q = c.requires.0 in
    let o = q.0.0 in
    let a = c.args in
    let s = a.image.now in
    let S = a.scratch.now in (
      (o.low, o.high),
      λ e.
          let m = c.requires.1 e in
          rw (c.below_at-e.ensures, figures-many a.g s S o m.0) (second_fair a.g s S o a.i a.j (m.1 a.i q.0.1) q.1.1),
    )

pub returns : goal.returns
returns c =
    let q = c.requires.0 in
    let a = c.args in
    rw (← below_fails a.g a.image.now a.scratch.now q.0.0 a.marks a.i a.j q.0.1 q.1.1 c.requires.1, ← c.below_at-e.ensures)
    c.entry_fails.ensures
