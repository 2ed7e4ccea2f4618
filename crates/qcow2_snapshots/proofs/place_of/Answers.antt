use native.Mathlib.Omega.{arith}
use Prim.Native.Nat.{ℕ}
use mathlib.Core.Path.{ap, ◌∙◌}
use Rattle.qcow2_spec.specs.Header.{entry_end}
use Rattle.qcow2_snapshots.proofs.Laws.{snapshot_first, snapshot_next}
use Rattle.qcow2_snapshots.proofs.Roots.{entry-inside}
use Rattle.qcow2_snapshots.proofs.place_of.Goals as goal

pub loop-i-init : goal.loop-i-init
loop-i-init c = let a = c.args in c.requires.0.is_snapshotsat ∙ snapshot_first a.image.now

pub entry_end-p-requires : goal.entry_end-p-requires
entry_end-p-requires c =
    let a = c.args in
    let l = c.loop-i in
    (rw l.invariant (entry-inside a.g a.image.now c.requires.0 l._i (omega arith)), c.requires.0.short)

pub loop-i-preserved : goal.loop-i-preserved
loop-i-preserved c =
    let l = c.loop-i in
    let s = c.args.image.now in
    c.entry_end-p.ensures ∙ ap (λ (x : ℕ). entry_end s x) l.invariant ∙ snapshot_next s l._i
