use native.Mathlib.Omega.{arith}
use mathlib.Core.Path.{sym, ◌∙◌}
use Prim.Native.Nat.{◌*◌}
use lib.ListN.{length, length-drop}
use Rattle.endian.proofs.Entries.{part-rest}
use Rattle.qcow2_bad.proofs.Tables.{sound-is}
use Rattle.qcow2_bits.proofs.Bits.{window_lowest, window_same}
use Rattle.qcow2_bits.proofs.look_window.Goals as goal

pub sweep_bits-w-requires : goal.sweep_bits-w-requires
sweep_bits-w-requires c = c.requires.0.0

pub same-requires : goal.same-requires
same-requires c =
    let a = c.args in
    (rw part-rest (omega (arith, length-drop (2 * a.b) a.scratch.now, c.requires.0.1, c.requires.1.1)), omega (arith, c.requires.1.1, c.sweep_bits-w.auto.window, c.clear.auto.scratch))

pub returns : goal.returns
returns c =
    let a = c.args in
    let s = a.image.now in
    let p = c.requires.0.0 in
    let q = c.requires.1 in
    let w = c.sweep_bits-w.ensures in
    let z = c.clear.ensures in
    let n = p.0.0.is-clusters in (
      window_lowest s p.1 a.b (length a.window.now) a.k _ _ _ a.g.clusters n z w.1 q.1 q.0,
      (
        λ h. sym w.0 ∙ sound-is _ (sym c.is_sound.ensures ∙ h),
        λ h. window_same s p.1 a.b (length a.window.now) a.k _ _ _ a.g.clusters n z w.1 q.1 q.0 a.scratch.now (rw part-rest at (c.same.ensures h)),
      ),
    )
