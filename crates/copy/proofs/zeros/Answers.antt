use borrow.Author.Rules.{rules}
use mathlib.Core.Path.{◌≡◌}
use native.Mathlib.Omega.{arith}
use lib.ListN.{length, length-drop, length-replicate, length-take, replicate}
use Rattle.endian.proofs.Laws.{put_mid-splice}
use Rattle.copy.proofs.zeros.Goals as goal

pub returns : goal.returns
returns c =
    let part = c.fill.new.self in
    let h : length part ≡ c.args.n = omega (arith, simp (length-take, length-drop) at c.fill.ensures.len) in
    let e : part ≡ replicate (length part) 0 = search rules in
    put_mid-splice _ _ _ part _ (rw h at e) (length-replicate c.args.n 0)
