use native.Mathlib.Omega.{arith}
use Prim.Native.Nat.{ℕ, suc, ◌-◌, ◌≤◌}
use mathlib.Core.Path.{◌≡◌, sym, ap, ◌∙◌}
use Rattle.qcow2_spec.specs.Header.{most_l1, root_size}
use Rattle.qcow2_spec.proofs.Facts.{facts, root-count}
use Rattle.qcow2_snapshots.proofs.Laws.{snapshot_first}
use Rattle.qcow2_portions.proofs.Rows.{length-ahead_out}
use Rattle.qcow2_ahead.proofs.Sums.{ahead-sum}
use Rattle.qcow2_ahead.proofs.count_ahead.Goals as goal
use Rattle.qcow2_ahead.proofs.count_ahead.Goals.{After-saturating_sub}

pub returns-then-t-g : goal.returns-then-t-g
returns-then-t-g c =
    let o = c.requires.0 in
    sym (length-ahead_out c.args.image.now c.args.t c.args.i (omega (arith, o.is-snapshots, root-count _ (facts _ o.accepted))))

pub count_shots-requires : goal.count_shots-requires
count_shots-requires c = let o = c.requires.0 in (o, omega (arith, o.is-snapshots))

pub returns-then-t-gt0 : goal.returns-then-t-gt0
returns-then-t-gt0 c =
    let e : suc (c.args.t - 1) ≡ c.args.t = omega arith in
    rw e at c.count_shots.ensures

pub count_from-requires : goal.count_from-requires
count_from-requires c = let o = c.requires.0 in ((o, omega arith), o.is_snapshotsat ∙ snapshot_first c.args.image.now)

-- the active table's entries from i on
own : (c : After-saturating_sub) → c.saturating_sub.result ≡ root_size c.args.image.now 0 - c.args.i
own c = let p = c.requires in c.saturating_sub.ensures ∙ ap (λ (n : ℕ). n - c.args.i) (p.0.is_l1size ∙ ap (root_size c.args.image.now) p.1)

pub overflow_add-result : goal.overflow_add-result
overflow_add-result c =
    let p = c.requires in
    let w : root_size c.args.image.now 0 ≤ most_l1 = rw p.1 at p.0.few in
    omega (arith, own (goal.at.overflow_add-result c).After-saturating_sub, w, c.count_from.ensures.1)

pub returns : goal.returns
returns c =
    let a = c.args in
    let z : a.t ≡ 0 = omega arith in
    rw z (omega (arith, own (goal.at.returns c).After-saturating_sub, c.count_from.ensures.0, ahead-sum a.image.now 0 a.i (omega (arith, root-count _ (facts _ c.requires.0.accepted)))))
