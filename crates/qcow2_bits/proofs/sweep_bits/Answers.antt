use native.Mathlib.Omega.{arith}
use mathlib.Core.Path.{ap, ◌∙◌}
use Rattle.qcow2_spec.specs.Header.{root_size}
use Rattle.qcow2_bits.proofs.Bits.{rows_all, refs_visited}
use Rattle.qcow2_bits.proofs.sweep_bits.Goals as goal

pub visit_fixed-low-requires : goal.visit_fixed-low-requires
visit_fixed-low-requires c = (c.requires.0, omega arith)

pub sweep_rows-requires : goal.sweep_rows-requires
sweep_rows-requires c = ((c.requires.0.0, (omega arith, omega arith)), (omega arith, omega arith))

pub returns : goal.returns
returns c =
    let a = c.args in
    let s = a.image.now in
    let p = c.requires.0 in
    let f = rw p.0.is-clusters at c.visit_fixed-low.ensures in
    let l = rows_all s 0 a.g.l1size (p.0.is_l1size ∙ ap (root_size s) p.1) in
    let w = rw (p.1, l) at c.sweep_rows.ensures in
    (w.0, refs_visited s c.requires.1 a.b _ _ _ f w.1)
