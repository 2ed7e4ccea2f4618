use native.Mathlib.Omega.{arith}
use native.Mathlib.Nat.{sub-zero}
use mathlib.Core.Path.{◌≡◌, ◌∙◌}
use lib.ListN.{length}
use Rattle.fills.specs.Padded.{padded}
use Rattle.fills.proofs.Fills.{length-padded, filled}
use Rattle.fills.proofs.fill_part.Goals as goal

pub returns : goal.returns
returns c =
    let l = c.args.part.now in
    let k = c.min-k in
    let a = c.min-a in
    let b = c.min-b in
    let f = c.lay in
    let g = c.bytes in
    let n : length g.new.s ≡ length l = g.auto.s ∙ f.auto.part in
    let w = filled l (padded (length l) c.args.base.now) c.args.src.now c.args.o k.result a.result b.result (length-padded (length l) c.args.base.now c.requires.1) c.requires.0 (omega arith) a.ensures b.ensures in
    (k.ensures, rw (c.lay-2.ensures, n, g.ensures, f.ensures, sub-zero) w)
