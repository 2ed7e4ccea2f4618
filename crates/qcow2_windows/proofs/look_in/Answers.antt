use native.Mathlib.Omega.{arith}
use mathlib.Core.Path.{refl, sym, ◌∙◌}
use Rattle.qcow2_spec.proofs.Facts.{facts}
use Rattle.qcow2_windows.proofs.Looking.{bits_looks, states_looks}
use Rattle.qcow2_windows.proofs.look_in.Goals as goal

pub look-w-requires : goal.look-w-requires
look-w-requires c =
    let o = c.requires.0.0.0 in
    (((c.requires.0.0, sym o.is-snapshots ∙ c.if-g-eq0.true), c.requires.0.1), omega arith)

pub returns-then-g-eq0 : goal.returns-then-g-eq0
returns-then-g-eq0 c =
    let a = c.args in
    let s = a.image.now in
    let o = c.requires.0.0.0 in
    let e = c.look-w.ensures in
    bits_looks s a.scratch.now a.g.clusters _ _ _ _ (facts s o.accepted) (sym o.is-snapshots ∙ c.if-g-eq0.true) o.is-clusters c.requires.0.1 refl e.0 e.1

pub look-w-requires-2 : goal.look-w-requires-2
look-w-requires-2 c = (c.requires.0.0, omega arith)

pub returns : goal.returns
returns c =
    let a = c.args in
    let e = c.look-w-2.ensures in
    states_looks a.image.now a.scratch.now _ _ e.0 e.1
