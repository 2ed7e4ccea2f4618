use native.Mathlib.Omega.{arith}
use Prim.Native.Nat.{◌*◌, ◌/◌}
use mathlib.Core.Path.{◌≡◌, sym, ◌∙◌}
use mathlib.Core.Bool.{false≢true}
use Rattle.bit_figures.specs.Alike.{Alike}
use Rattle.bit_figures.proofs.Laws.{alike_append}
use Rattle.bit_figures.proofs.same.Goals as goal
use Rattle.bit_figures.proofs.same.Goals.{then-groups, else-groups}

pub returns-then-bytes : goal.returns-then-bytes
returns-then-bytes c =
    let k = c.args.k in
    let z = c.args.scratch.now in
    let b = c.args.bits.now in
    let d : 256 * (k / 256) ≡ 8 * (k / 256 * 32) = omega arith in
    let e : k / 8 * 8 ≡ 8 * (k / 8) = omega arith in
    λ h.
    let r : Alike z b (k / 8 * 8) k = c.singles.ensures h in
    elim c.if-groups.branch [
      | then-groups w ↦
          (let p : Alike z b 0 (256 * (k / 256)) = c.groups.ensures w.if-groups.true in
          let q : Alike z b (8 * (k / 256 * 32)) (8 * (k / 8)) = w.bytes.ensures (sym w.value-is ∙ c.if-bytes.true) in
          let v : Alike z b 0 k = alike_append z b _ _ _ (alike_append z b _ _ _ (rw d at p) q) (rw e at r) in
          λ j l. v.each j (omega arith) l)
      | else-groups w ↦ absurd (false≢true (sym w.if-groups.false ∙ sym w.value-is ∙ c.if-bytes.true))
    ]
