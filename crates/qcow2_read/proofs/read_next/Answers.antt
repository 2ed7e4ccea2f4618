use native.Mathlib.Omega.{arith}
use Prim.Native.Nat.{◌+◌, ◌-◌, ◌^◌}
use mathlib.Core.Path.{◌≡◌}
use lib.ListN.{length, take, drop, length-drop}
use lib.Pow.{pow_pos}
use lib.Seq.{length-take-le, drop-drop}
use Rattle.qcow2_spec.specs.Guest.{guest_bytes}
use Rattle.qcow2_guest.proofs.Bytes.{row-left-some}
use Rattle.qcow2_read.proofs.read_next.Goals as goal

pub read_row-requires : goal.read_row-requires
read_row-requires c =
    let a = c.args in
    let o = a.out.now in
    let m = c.row_left-m.result in
    let d : a.done + m - a.done ≡ m = omega arith in
    let n : length (take m (drop a.done o)) ≡ m = length-take-le m (drop a.done o) (simp length-drop (omega arith)) in
    let p = row-left-some (2 ^ a.g.bits) (2 ^ (a.g.bits - 3)) (a.x + a.done) (pow_pos a.g.bits) (pow_pos (a.g.bits - 3)) in
    (c.requires.0, rw (d, n) (omega (arith, c.row_left-m.ensures, c.requires.1.0, c.requires.1.1), (omega (arith, c.row_left-m.ensures, p, c.requires.1.1), omega (arith, c.row_left-m.ensures))))

pub returns : goal.returns
returns c =
    let a = c.args in
    let o = a.out.now in
    let m = c.row_left-m.result in
    let d : a.done + m - a.done ≡ m = omega arith in
    let n : length (take m (drop a.done o)) ≡ m = length-take-le m (drop a.done o) (simp length-drop (omega arith)) in
    let w : c.read_row.new.row ≡ guest_bytes a.backing.now a.image.now a.g.root (a.x + a.done) m = rw (d, n) at c.read_row.ensures in
    let p = row-left-some (2 ^ a.g.bits) (2 ^ (a.g.bits - 3)) (a.x + a.done) (pow_pos a.g.bits) (pow_pos (a.g.bits - 3)) in
    ((omega (arith, c.row_left-m.ensures, p, c.requires.1.1), omega arith), rw (d, w, drop-drop))
