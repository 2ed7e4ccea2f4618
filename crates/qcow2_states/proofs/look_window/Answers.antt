use native.Mathlib.Omega.{arith}
use Prim.Native.Nat.{ℕ}
use mathlib.Core.Path.{sym, ap, ◌∙◌}
use lib.ListN.{replicate}
use Rattle.qcow2_bad.proofs.Tables.{sound-is}
use Rattle.qcow2_states.proofs.Shared.{window_some, window_none}
use Rattle.qcow2_states.proofs.look_window.Goals as goal

pub sweep_states-w-requires : goal.sweep_states-w-requires
sweep_states-w-requires c =
    let l = c.clear.auto.scratch in
    (c.requires.0, (c.clear.ensures ∙ ap (λ (n : ℕ). replicate n 0) (sym l), omega (arith, l, c.requires.1.0), omega (arith, l, c.requires.1.1)))

pub returns-then-j-window : goal.returns-then-j-window
returns-then-j-window c =
    let v = c.sweep_states-w in
    let p = c.requires in (
      window_some c.args.g c.args.image.now p.0.0 c.args.b _ p.1.0 p.1.1 _ c.clear.auto.scratch _ v.auto.window v.ensures.1 _ c.first_bad-j.ensures c.if-j-window.true,
      λ q. sym v.ensures.0 ∙ sound-is v.result.found (sym c.is_sound-good.ensures ∙ q),
    )

pub returns : goal.returns
returns c =
    let v = c.sweep_states-w in
    let p = c.requires in (
      window_none c.args.g c.args.image.now p.0.0 c.args.b _ p.1.0 p.1.1 _ c.clear.auto.scratch _ v.auto.window v.ensures.1 _ c.first_bad-j.ensures c.if-j-window.false,
      λ q. sym v.ensures.0 ∙ sound-is v.result.found (sym c.is_sound-good.ensures ∙ q),
    )
