use native.Mathlib.Omega.{arith}
use Prim.Native.Nat.{ℕ}
use mathlib.Core.Path.{◌≡◌, ap, ap₂, ◌∙◌}
use lib.Bits.{bit_or}
use lib.Dec.{eqb}
use Rattle.packed_zerowords.proofs.Wholes.{zero16, zero32, zero64}
use Rattle.packed_zerowords.proofs.zero.Goals as goal

pub returns-then-this-eq4 : goal.returns-then-this-eq4
returns-then-this-eq4 g c =
    let l = c.args.part.now in
    rw c.if-this-eq4.true (ap (λ (x : ℕ). eqb x 0) c.turned16.ensures ∙ zero16 l (λ x. omega (arith, c.type_inv.part x)) c.args.i)

pub returns-then-this-eq5 : goal.returns-then-this-eq5
returns-then-this-eq5 g c =
    let l = c.args.part.now in
    rw c.if-this-eq5.true (ap (λ (x : ℕ). eqb x 0) c.turned32.ensures ∙ zero32 l (λ x. omega (arith, c.type_inv.part x)) c.args.i)

pub returns : goal.returns
returns g c =
    let l = c.args.part.now in
    let e : g.row.ORDER ≡ 6 = omega (arith, c.requires.0) in
    let h = ap₂ bit_or c.turned32-2.ensures c.turned32-3.ensures in
    rw e (ap (λ (x : ℕ). eqb x 0) h ∙ zero64 l (λ x. omega (arith, c.type_inv.part x)) c.args.i)
