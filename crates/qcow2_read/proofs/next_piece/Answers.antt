use native.Mathlib.Omega.{arith}
use native.Mathlib.Nat.{mod-lt}
use Prim.Native.Nat.{◌+◌, ◌-◌}
use mathlib.Core.Path.{◌≡◌}
use lib.ListN.{length, take, drop, length-drop}
use lib.Pow.{pow_pos}
use lib.Seq.{length-take-le, drop-drop}
use Rattle.qcow2_spec.specs.Guest.{guest_bytes}
use Rattle.qcow2_guest.proofs.Bytes.{lent_from}
use Rattle.qcow2_read.proofs.next_piece.Goals as goal

pub overflow_add-y : goal.overflow_add-y
overflow_add-y c = omega (arith, c.requires.0.far, c.requires.1.0)

pub read_piece-requires : goal.read_piece-requires
read_piece-requires c =
    let a = c.args in
    let o = a.out.now in
    let m = c.piece-m.result in
    let d : a.done + m - a.done ≡ m = omega arith in
    let n : length (take m (drop a.done o)) ≡ m = length-take-le m (drop a.done o) (simp length-drop (omega arith)) in
    (c.requires.0, (omega (arith, c.requires.1.0, c.requires.1.1.1), (lent_from a.image.now a.g.root a.table.now a.x (length o) a.done 1 (omega arith) c.requires.1.1.0, rw (d, n) (omega (arith, mod-lt (a.x + a.done) (pow_pos a.g.bits))))))

pub returns : goal.returns
returns c =
    let a = c.args in
    let o = a.out.now in
    let m = c.piece-m.result in
    let d : a.done + m - a.done ≡ m = omega arith in
    let n : length (take m (drop a.done o)) ≡ m = length-take-le m (drop a.done o) (simp length-drop (omega arith)) in
    let w : c.read_piece.new.part ≡ guest_bytes a.backing.now a.image.now a.g.root (a.x + a.done) m = rw (d, n) at c.read_piece.ensures in
    ((omega (arith, mod-lt (a.x + a.done) (pow_pos a.g.bits)), omega arith), rw (d, w, drop-drop))
