use borrow.Author.Rules.{rules}
use native.Mathlib.Omega.{arith}
use Prim.Native.Nat.{ℕ, ◌+◌, ◌*◌, ◌/◌, ◌≤◌, ◌<◌}
use mathlib.Core.Path.{◌≡◌, refl, sym, ◌∙◌, subst}
use mathlib.Core.Bool.{true≢false}
use mathlib.Core.List.{◌++◌}
use lib.ListN.{length, take, drop, length-append, length-drop}
use lib.Seq.{length-take-le}
use Rattle.qcow2_spec.specs.Header.{clusters}
use Rattle.qcow2_lowest.specs.Lowest.{Clear, LowestIn}
use Rattle.qcow2_lowest.proofs.Lowest.{clear_none, clear_next, clear-all, lowest-found}
use Rattle.qcow2_states.proofs.look.Goals as goal
use Rattle.qcow2_states.proofs.look.Goals.{After-min-k, After-look_window-w}

pub loop-b-init : goal.loop-b-init
loop-b-init c = let s = c.args.image.now in (omega arith, refl, clear_none s, λ q. absurd (true≢false (sym q)))

pub overflow_sub-n : goal.overflow_sub-n
overflow_sub-n c = c.loop-b.invariant.0

-- the part that is lent has two bytes for each cluster of the window
fits : (c : After-min-k) → 2 * c.min-k.result ≤ length c.loop-b.window
fits c = let e = c.min-k.ensures in let l = c.loop-b.invariant.1 in omega (arith, e, l)

lent : (c : After-min-k) → length (take (2 * c.min-k.result) c.loop-b.window) ≡ 2 * c.min-k.result
lent c = length-take-le (2 * c.min-k.result) c.loop-b.window (fits c)

inside : (c : After-min-k) → c.loop-b.b + c.min-k.result ≤ c.args.g.clusters
inside c = let e = c.min-k.ensures in let l = c.loop-b.invariant.0 in omega (arith, e, l)

some : (c : After-min-k) → 0 < c.min-k.result
some c = let e = c.min-k.ensures in omega (arith, e, c.loop-b-test.true, c.requires.1)

pub overflow_mul-m : goal.overflow_mul-m
overflow_mul-m c = let f = fits (goal.at.overflow_mul-m c).After-min-k in search rules

pub slice_bounds-look_window-end : goal.slice_bounds-look_window-end
slice_bounds-look_window-end c = fits (goal.at.slice_bounds-look_window-end c).After-min-k

pub slice_bounds-look_window-end-in-loop-b : goal.slice_bounds-look_window-end-in-loop-b
slice_bounds-look_window-end-in-loop-b c = sym (lent (goal.at.slice_bounds-look_window-end-in-loop-b c).After-min-k)

pub look_window-w-requires : goal.look_window-w-requires
look_window-w-requires c = let l = lent (goal.at.look_window-w-requires c).After-min-k in let i = inside (goal.at.look_window-w-requires c).After-min-k in (c.requires.0, (omega (arith, l), omega (arith, l, i)))

-- the window is handed back with its length
handed-back : (c : After-look_window-w)
    → length (c.look_window-w.new.window ++ drop (2 * c.min-k.result) c.loop-b.window) ≡ length c.args.window.now
handed-back c =
    let k = c.look_window-w.auto.window in
    let e = c.min-k.ensures in
    let i = c.loop-b.invariant.1 in
    let f : 2 * c.min-k.result ≤ length c.loop-b.window = omega (arith, e, i) in
    let l = length-take-le (2 * c.min-k.result) c.loop-b.window f in
    rw (length-append, length-drop) (omega (arith, k, l, f, i))

-- the clusters of the window, by their number
looked : (c : After-look_window-w) → LowestIn c.args.image.now c.loop-b.b (c.loop-b.b + c.min-k.result) c.look_window-w.result.shared
looked c =
    let m = c.min-k.ensures in
    let i = c.loop-b.invariant.1 in
    let l = length-take-le (2 * c.min-k.result) c.loop-b.window (omega (arith, m, i)) in
    let e : length (take (2 * c.min-k.result) c.loop-b.window) / 2 ≡ c.min-k.result = omega (arith, l) in
    subst (λ (k : ℕ). LowestIn c.args.image.now c.loop-b.b (c.loop-b.b + k) c.look_window-w.result.shared) e c.look_window-w.ensures.0

pub shape_of-window-then-w-n : goal.shape_of-window-then-w-n
shape_of-window-then-w-n c = handed-back (goal.at.shape_of-window-then-w-n c).After-look_window-w

pub returns-then-w-n : goal.returns-then-w-n
returns-then-w-n c =
    let o = c.requires.0.0 in
    (lowest-found c.args.image.now c.loop-b.b _ _ (looked (goal.at.returns-then-w-n c).After-look_window-w) (omega (arith, c.if-w-n.true, o.is-clusters)) c.loop-b.invariant.2, c.look_window-w.ensures.1)

pub overflow_add-b : goal.overflow_add-b
overflow_add-b c = let i = inside (goal.at.overflow_add-b c).After-min-k in search rules

pub loop-b-smaller : goal.loop-b-smaller
loop-b-smaller c = let i = inside (goal.at.loop-b-smaller c).After-min-k in let p = some (goal.at.loop-b-smaller c).After-min-k in omega (arith, i, p)

pub loop-b-preserved : goal.loop-b-preserved
loop-b-preserved c =
    let o = c.requires.0.0 in
    let i = inside (goal.at.loop-b-preserved c).After-min-k in
    (i, handed-back (goal.at.loop-b-preserved c).After-look_window-w, clear_next c.args.image.now c.loop-b.b _ _ (looked (goal.at.loop-b-preserved c).After-look_window-w) (omega (arith, c.if-w-n.false, o.is-clusters)) (omega (arith, i, o.is-clusters)) c.loop-b.invariant.2, c.look_window-w.ensures.1)

pub shape_of-window : goal.shape_of-window
shape_of-window c = c.loop-b.invariant.1

pub returns : goal.returns
returns c =
    let s = c.args.image.now in
    let o = c.requires.0.0 in
    let i = c.loop-b.invariant in
    let e : c.loop-b.b ≡ clusters s = omega (arith, i.0, c.loop-b-test.false, o.is-clusters) in
    (o.is-clusters ∙ clear-all s (subst (Clear s) e i.2), i.3)
