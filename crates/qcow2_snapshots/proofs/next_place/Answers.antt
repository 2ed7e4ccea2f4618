use Prim.Native.Nat.{ℕ}
use native.Mathlib.Omega.{arith}
use mathlib.Core.Path.{ap, ◌∙◌}
use Rattle.qcow2_spec.specs.Header.{entry_end, snapshot_at}
use Rattle.qcow2_snapshots.proofs.Roots.{entry-inside}
use Rattle.qcow2_snapshots.proofs.next_place.Goals as goal

pub entry_end-requires : goal.entry_end-requires
entry_end-requires c =
    let a = c.args in
    let p = c.requires in
    (omega (arith, p.1, entry-inside a.g a.image.now p.0.0 a.k p.0.1), p.0.0.short)

pub returns : goal.returns
unfolding snapshot_at
returns c = c.entry_end.ensures ∙ ap (λ (x : ℕ). entry_end c.args.image.now x) c.requires.1
