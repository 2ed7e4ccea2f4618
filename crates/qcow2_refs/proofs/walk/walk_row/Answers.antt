use native.Mathlib.Omega.{arith}
use Prim.Native.Nat.{◌/◌, ◌^◌}
use mathlib.Core.Path.{◌≡◌, sym, ◌∙◌}
use Rattle.qcow2_spec.specs.Header.{per_table}
use Rattle.qcow2_refs.proofs.Tables.{row-bad, row-none}
use Rattle.qcow2_refs.proofs.walk.walk_row.Goals as goal

pub good_l1-requires : goal.good_l1-requires
good_l1-requires c = omega (arith, c.requires.0.0.high)

pub power-requires : goal.power-requires
power-requires c = omega (arith, c.requires.0.0.high)

pub returns-then-place_of-eq0 : goal.returns-then-place_of-eq0
returns-then-place_of-eq0 c =
    let a = c.args in
    let o = c.requires.0.0 in
    let n : c.power.result / 8 ≡ per_table a.image.now = omega (arith, c.power.ensures.0, o.is-cluster, o.eight) in
    rw n (row-none a.leaf a.image.now (2 ^ a.g.bits) a.e o.is-cluster a.table a.scratch.now (sym c.good_l1.ensures ∙ c.if-good_l1.true) (sym c.place_of.ensures.0 ∙ c.if-place_of-eq0.true))

pub walk_placed-requires : goal.walk_placed-requires
walk_placed-requires c =
    let p = c.requires in
    (p.0, (p.1, (sym c.good_l1.ensures ∙ c.if-good_l1.true, λ e. c.if-place_of-eq0.false (c.place_of.ensures.0 ∙ e))))

pub returns-then-good_l1 : goal.returns-then-good_l1
returns-then-good_l1 c = c.walk_placed.ensures

pub returns : goal.returns
returns c =
    let a = c.args in
    row-bad a.leaf a.image.now (2 ^ a.g.bits) a.e c.requires.0.0.is-cluster a.table a.scratch.now (sym c.good_l1.ensures ∙ c.if-good_l1.false)
