use native.Mathlib.Omega.{arith}
use Prim.Native.Nat.{ℕ, ◌+◌, ◌*◌, ◌%◌, ◌≤◌, ◌<◌}
use mathlib.Core.Path.{◌≡◌, sym, ap, ◌∙◌}
use lib.ListN.{length, replicate}
use Rattle.endian.specs.Big.{part}
use Rattle.qcow2_spec.specs.Header.{clusters, roots}
use Rattle.qcow2_fixed.proofs.Inside.{roots_are, shots-few}
use Rattle.qcow2_forest.specs.Forest.{states_of}
use Rattle.qcow2_bad.proofs.Tables.{tables-first}
use Rattle.qcow2_states.proofs.Windows.{window_first, window_next, window_all, found-next, found_all}
use Rattle.qcow2_states.proofs.sweep_states.Goals as goal
use Rattle.qcow2_states.proofs.sweep_states.Goals.{After-visit_fixed}

pub visit_fixed-requires : goal.visit_fixed-requires
visit_fixed-requires c = (c.requires.0, omega arith)

-- the window keeps its length, which is even, and lies inside the scratch
kept : (c : After-visit_fixed) → length c.visit_fixed.new.target ≡ length c.args.window.now
kept c = c.visit_fixed.auto.target

even : (c : After-visit_fixed) → length c.visit_fixed.new.target % 2 ≡ 0
even c = let p = c.requires.1.1 in omega (arith, p, kept c)

fits : (c : After-visit_fixed) → 2 * c.args.b + length c.visit_fixed.new.target ≤ 2 * clusters c.args.image.now
fits c = let p = c.requires in omega (arith, p.1.2, p.0.0.is-clusters, kept c)

pub loop-t-init : goal.loop-t-init
loop-t-init c =
    let a = c.args in
    let s = a.image.now in
    let p = c.requires.1 in
    (window_first s a.b _ (even (goal.at.loop-t-init c).After-visit_fixed) (fits (goal.at.loop-t-init c).After-visit_fixed) a.window.now _ 0 _ (p.0 ∙ sym (ap (λ (n : ℕ). replicate n 0) (kept (goal.at.loop-t-init c).After-visit_fixed))) c.visit_fixed.ensures, tables-first s)

pub overflow_add-t-end : goal.overflow_add-t-end
overflow_add-t-end c = omega (arith, shots-few c.args.g c.args.image.now c.requires.0.0)

pub next_root-w-requires : goal.next_root-w-requires
next_root-w-requires c = (c.requires.0, omega (arith, c.loop-t-test.true, roots_are c.args.g c.args.image.now c.requires.0.0))

pub loop-t-preserved : goal.loop-t-preserved
loop-t-preserved c =
    let n = c.next_root-w in
    let l = c.loop-t in
    let s = c.args.image.now in
    let i = l.invariant in
    let h : l.t < roots s = omega (arith, c.loop-t-test.true, roots_are c.args.g s c.requires.0.0) in (
      window_next s c.args.b _ (even (goal.at.loop-t-preserved c).After-visit_fixed) (fits (goal.at.loop-t-preserved c).After-visit_fixed) l.t l.window _ l.w.low _ i.0 n.ensures.1,
      found-next s l.t l.w.found _ h n.ensures.0 ∙ i.1,
    )

pub returns : goal.returns
returns c =
    let l = c.loop-t in
    let s = c.args.image.now in
    let i = l.invariant in
    let h : roots s ≤ l.t = omega (arith, c.loop-t-test.false, roots_are c.args.g s c.requires.0.0) in
    let e : l.t ≡ roots s = omega (arith, h, l.auto.t-end, roots_are c.args.g s c.requires.0.0) in
    (found_all s l.t l.w.found h ∙ i.1, window_all s c.args.b _ (even (goal.at.returns c).After-visit_fixed) (fits (goal.at.returns c).After-visit_fixed) l.t l.window e i.0 ∙ ap (part (states_of s) (2 * c.args.b)) (kept (goal.at.returns c).After-visit_fixed))
