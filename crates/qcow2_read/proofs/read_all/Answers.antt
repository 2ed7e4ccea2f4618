use native.Mathlib.Omega.{arith}
use mathlib.Core.Path.{◌≡◌, refl, ◌∙◌, ap}
use mathlib.Core.List.{◌++◌}
use lib.ListN.{length, drop}
use Rattle.qcow2_spec.specs.Guest.{guest_bytes}
use Rattle.qcow2_read.proofs.Filling.{no_bytes, next-bytes, length-filled, all-bytes}
use borrow.Author.Rules.{rules}
use Rattle.qcow2_read.proofs.read_all.Goals as goal

pub loop-done-init : goal.loop-done-init
loop-done-init c = (search rules, refl, no_bytes _ _ _ _ _)

pub read_next-done-requires : goal.read_next-done-requires
read_next-done-requires c =
    (c.requires.0, (omega arith, omega arith))

pub loop-done-preserved : goal.loop-done-preserved
loop-done-preserved c =
    let a = c.args in
    let s = a.image.now in
    let r = c.read_next-done.result in
    let w : c.read_next-done.new.out ≡ guest_bytes a.backing.now s a.g.root a.x r ++ drop r a.out.now =
    c.read_next-done.ensures.1 ∙ next-bytes a.backing.now s a.g.root a.x a.out.now c.loop-done.done r c.loop-done.out c.loop-done.invariant.2 (omega arith) in
    (omega arith, ap length w ∙ length-filled a.backing.now s a.g.root a.x a.out.now r (omega arith), w)

pub returns : goal.returns
returns c =
    let a = c.args in
    c.loop-done.invariant.2 ∙ all-bytes a.backing.now a.image.now a.g.root a.x a.out.now c.loop-done.done (omega arith)
