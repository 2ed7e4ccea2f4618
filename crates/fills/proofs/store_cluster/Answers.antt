use native.Mathlib.Omega.{arith}
use Prim.Native.Nat.{ℕ, ◌+◌, ◌-◌, min}
use mathlib.Core.Path.{◌≡◌}
use mathlib.Core.List.{List}
use lib.ListN.{length, take, drop, length-drop}
use lib.Seq.{length-take-le}
use Rattle.endian.specs.Big.{splice}
use Rattle.fills.specs.Padded.{padded}
use Rattle.fills.proofs.Fills.{length_over, part_filled}
use Rattle.fills.proofs.store_cluster.Goals as goal

pub returns : goal.returns
returns c =
    let a = c.args in
    let l = a.image.now in
    let p = a.at in
    let k = a.c in
    let d : p + k - p ≡ k = omega arith in
    let n : length (take (p + k - p) (drop p l)) ≡ k = rw d (length-take-le k (drop p l) (simp length-drop (omega arith))) in
    let e : c.fill_part.result ≡ min a.left k = rw (← n) c.fill_part.ensures.0 in
    let b : List ℕ = splice (padded k a.base.now) a.o a.src.now in
    let w : c.fill_part.new.part ≡ splice (take k (drop p l)) 0 (take c.fill_part.result b) = rw (n, d) at c.fill_part.ensures.1 in
    let h : length b ≡ k = length_over k a.base.now a.o a.src.now c.requires.1.1 c.requires.1.0 in
    (omega arith, rw (d, w) (part_filled l p k a.left c.fill_part.result b c.requires.0 h e))
