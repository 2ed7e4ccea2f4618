use native.Mathlib.Omega.{arith}
use mathlib.Core.Path.{sym, ◌∙◌}
use Rattle.qcow2_runs.proofs.Stretches.{cluster_goes, cluster_end, run-first}
use Rattle.qcow2_runs.proofs.run_length.Goals as goal

pub next_rows-requires : goal.next_rows-requires
next_rows-requires c =
    let a = c.args in
    let e = c.piece-first.ensures in
    (c.requires.0, ((omega (arith, e), c.requires.1), cluster_end a.g a.x a.len _ e))

pub returns : goal.returns
returns c =
    let a = c.args in
    let e = c.piece-first.ensures in
    c.next_rows.ensures ∙ sym (run-first a.image.now a.g.root a.x a.len _ _ (omega (arith, e)) (cluster_goes a.g a.image.now c.requires.0.0 a.x a.len _ e))
