-- `qcow2_rows::counts::count_rows` meets its contract. Assumes nothing.
use Prim.Native.Nat.{ℕ, ◌-◌}
use native.Mathlib.Omega.{arith}
use mathlib.Core.Path.{sym, ◌∙◌}
use mathlib.Core.List.{List}
use Rattle.packed_twos.specs.Twos.{many, figures_in}
use Rattle.packed_twos.proofs.Laws.{get_or-twos}
use Rattle.qcow2_spec.specs.Counts.{count_of}
use Rattle.qcow2_counts.proofs.Sizes.{sizes}
use Rattle.qcow2_rows.proofs.Repairs.{going_first, going_right, going_wrong, going_last}
use Rattle.qcow2_rows.proofs.counts.count_rows.Goals as goal
use Rattle.qcow2_rows.proofs.counts.count_rows.Goals.{then-stored-load16, else-stored-load16}

pub loop-i-init : goal.loop-i-init
loop-i-init c = let s = c.args in going_first s.epoch s.image.now (figures_in s.refs.now) s.g.clusters s.rows.now s.k

pub count_at-at-requires : goal.count_at-at-requires
count_at-at-requires c = (c.requires.0, (omega arith))

pub load-stored-requires : goal.load-stored-requires
load-stored-requires c = c.count_at-at.ensures.1

pub put_count-r-requires : goal.put_count-r-requires
put_count-r-requires c =
    let o = c.requires.0 in
    let g = c.loop-i.invariant in
    (omega (arith, (sizes c.args.g c.args.image.now o).few, c.requires.1.0, g.few), o.narrow)

pub loop-i-preserved : goal.loop-i-preserved
unfolding count_of
loop-i-preserved c =
    let a = c.args in
    let o = c.requires.0 in
    let i : ℕ = c.loop-i.i in
    let fs : List ℕ = figures_in a.refs.now in
    let at = c.count_at-at.ensures.0 in
    let stored = rw (o.is-width, at) at c.load-stored.ensures in
    let figure = c.load16.ensures ∙ sym (get_or-twos a.refs.now (many a.refs.now) i (omega (arith, c.requires.1.1))) in
    let inv = c.loop-i.invariant in
    elim c.if-stored-load16.branch [
      | then-stored-load16 w ↦ rw (w.rows-is, w.r-is) (going_wrong a.epoch a.image.now fs a.g.clusters a.rows.now a.k _ _ i (omega arith) inv _ _ (λ z. w.if-stored-load16.true (stored ∙ z ∙ sym figure)) w.put_count-r.auto.rows w.put_count-r.ensures.0 (rw (o.is-width, at) at w.put_count-r.ensures.1))
      | else-stored-load16 w ↦ rw (w.rows-is, w.r-is) (going_right a.epoch a.image.now fs a.g.clusters a.rows.now a.k _ _ i (omega arith) inv (sym stored ∙ w.if-stored-load16.false ∙ figure))
    ]

pub shape_of-rows : goal.shape_of-rows
shape_of-rows c = c.loop-i.invariant.same

pub returns : goal.returns
returns c = let s = c.args in going_last s.epoch s.image.now (figures_in s.refs.now) s.g.clusters s.rows.now s.k _ _ _ (omega arith) c.loop-i.invariant
