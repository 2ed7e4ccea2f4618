use native.Mathlib.Omega.{arith}
use Prim.Native.Nat.{ℕ, ◌+◌, ◌*◌}
use mathlib.Core.Path.{◌≡◌, refl, ap, ◌∙◌}
use mathlib.Core.Logic.{inl, inr}
use lib.ListN.{length-set}
use Rattle.endian.specs.Big.{be64}
use Rattle.qcow2_noted.specs.Noting.{mark_of, unmade}
use Rattle.qcow2_noted.proofs.Marks.{mark_next, mark_most, count_next}
use Rattle.qcow2_noted.proofs.note.Goals as goal

pub loop-k-init : goal.loop-k-init
loop-k-init c = (omega arith, (refl, ((λ j l. absurd (omega arith)), refl)))

pub returns-then-most-missing : goal.returns-then-most-missing
returns-then-most-missing c =
    let l = c.loop-k in
    record { within = omega arith; marks_are = l.invariant.1.1.0; many = l.invariant.1.1.1; enough = inr c.if-most-missing.true }

pub loop-k-preserved : goal.loop-k-preserved
loop-k-preserved c =
    let a = c.args in
    let l = c.loop-k in
    let v = l.invariant.1 in
    let m : c.mark_of-m.result ≡ mark_of (be64 a.image.now (a.at + 8 * l.k)) = c.mark_of-m.ensures ∙ ap mark_of c.load64.ensures in (
      omega (arith, mark_most (be64 a.image.now (a.at + 8 * l.k))),
      (
        rw length-set v.0,
        (
          mark_next (λ (j : ℕ). mark_of (be64 a.image.now (a.at + 8 * j))) l.marks l.k c.mark_of-m.result (omega arith) m v.1.0,
          count_next (unmade a.image.now a.at) l.k l.missing c.mark_of-m.result m v.1.1,
        ),
      ),
    )

pub returns : goal.returns
returns c =
    let a = c.args in
    let l = c.loop-k in
    let e : l.k ≡ a.len = omega arith in
    record { within = omega arith; marks_are = rw e at l.invariant.1.1.0; many = rw e at l.invariant.1.1.1; enough = inl refl }
