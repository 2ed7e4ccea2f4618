use native.Mathlib.Omega.{arith}
use mathlib.Core.Path.{◌∙◌}
use Rattle.qcow2_portion.proofs.Taking.{figures-told, taken_more, taken-last}
use Rattle.qcow2_portion.proofs.taken.Goals as goal

pub count_ahead-n-requires : goal.count_ahead-n-requires
count_ahead-n-requires c = c.requires.0

pub take-w-requires : goal.take-w-requires
take-w-requires c = (c.requires, omega (arith, c.count_ahead-n.ensures, c.min-count.ensures))

pub returns-then-may-n : goal.returns-then-may-n
returns-then-may-n c =
    let a = c.args in
    let s = a.image.now in
    let t = c.take-w.ensures in
    let n = c.count_ahead-n.ensures in
    let m = c.min-count.ensures in
    (taken_more s a.scratch.now _ a.root a.row a.may _ _ a.found n m t.1.1 _ t.1.0 _ _ t.0.0 t.0.1 c.if-may-n.true, figures-told s a.scratch.now _ a.root a.row a.may _ _ a.found n m t.1.1)

pub verdict_of-v-requires : goal.verdict_of-v-requires
verdict_of-v-requires c = (c.requires.0, c.take-w.auto.scratch ∙ c.requires.1)

pub returns : goal.returns
returns c =
    let a = c.args in
    let s = a.image.now in
    let t = c.take-w.ensures in
    let n = c.count_ahead-n.ensures in
    let m = c.min-count.ensures in
    (taken-last s a.scratch.now _ a.root a.row a.may _ _ a.found n m t.1.1 _ t.1.0 _ a.g.clusters c.requires.0.0.is-clusters (c.take-w.auto.scratch ∙ c.requires.1) c.verdict_of-v.ensures c.if-may-n.false, figures-told s a.scratch.now _ a.root a.row a.may _ _ a.found n m t.1.1)
