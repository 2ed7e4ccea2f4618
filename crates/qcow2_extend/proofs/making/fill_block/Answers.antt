use native.Mathlib.Omega.{arith}
use Prim.Native.Nat.{ℕ, ◌+◌, ◌-◌, ◌*◌, min}
use mathlib.Core.Path.{◌≡◌}
use mathlib.Core.List.{List, [], ◌∷◌}
use lib.ListN.{length, take, drop, length-drop}
use lib.Seq.{length-take-le}
use Rattle.endian.specs.Big.{splice}
use Rattle.units.specs.Units.{cluster}
use Rattle.units.proofs.Laws.{length-cluster}
use Rattle.fills.proofs.Fills.{part_filled}
use Rattle.qcow2_extend.proofs.making.fill_block.Goals as goal
use Rattle.qcow2_extend.proofs.making.fill_block.Goals.{Start}

-- the part that is lent has as many bytes as a block
part_length : (c : Start) → length (take (c.args.i * c.args.p.span + c.args.p.size - c.args.i * c.args.p.span) (drop (c.args.i * c.args.p.span) c.args.image.now)) ≡ c.args.p.size
part_length c =
    let a = c.args in
    let at = a.i * a.p.span in
    let l = a.image.now in
    let m = c.requires.0.inside a.i c.requires.1 in
    let d : at + a.p.size - at ≡ a.p.size = omega arith in
    rw d (length-take-le a.p.size (drop at l) (simp length-drop (omega arith)))

pub lay_block-requires : goal.lay_block-requires
lay_block-requires c = rw (part_length (goal.at.lay_block-requires c).Start) c.requires.0.owned

pub returns : goal.returns
returns c =
    let f = c.lay_block in
    let a = c.args in
    let l = a.image.now in
    let at = a.i * a.p.span in
    let k = a.p.size in
    let m = c.requires.0.inside a.i c.requires.1 in
    let d : at + k - at ≡ k = omega arith in
    let n = part_length (goal.at.returns c).Start in
    let e : f.result ≡ min a.left k = rw (← n) f.ensures.0 in
    let b : List ℕ = cluster k a.p.own (1 ∷ []) in
    let w : f.new.part ≡ splice (take k (drop at l)) 0 (take f.result b) = rw (n, d) at f.ensures.1 in
    let h : length b ≡ k = length-cluster k a.p.own (1 ∷ []) (omega (arith, c.requires.0.owned)) in
    (omega arith, rw (d, w) (part_filled l at k a.left f.result b m h e))
