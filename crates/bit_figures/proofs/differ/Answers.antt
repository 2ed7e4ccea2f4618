use borrow.Author.Rules.{rules}
use native.Mathlib.Omega.{arith}
use Prim.Native.Nat.{ℕ, ◌+◌, ◌*◌, ◌/◌, ◌%◌}
use mathlib.Core.Path.{◌≡◌, sym, ap, ◌∙◌}
use lib.Bits.{bit_xor}
use lib.ListN.{get_or}
use Rattle.endian.specs.Big.{be64}
use Rattle.bit_figures.specs.Alike.{four}
use Rattle.bit_figures.proofs.Laws.{or-none, xor_none, alike_byte}
use Rattle.bit_figures.proofs.differ.Goals as goal

pub returns : goal.returns
returns c =
    let a = c.args in
    let z = a.scratch.now in
    let x = get_or a.bits.now a.i 0 in
    let e : c.from-x.result ≡ x = search rules in
    λ h.
    let o = or-none (bit_xor c.load64.result c.spread.result) (bit_xor c.load64-2.result c.spread-2.result) h in
    let low : be64 z (16 * a.i) ≡ four (x % 16) = sym c.load64.ensures ∙ xor_none c.load64.result c.spread.result o.0 ∙ c.spread.ensures ∙ ap (λ (y : ℕ). four (y % 16)) e in
    let high : be64 z (16 * a.i + 8) ≡ four (x / 16) = sym c.load64-2.ensures ∙ xor_none c.load64-2.result c.spread-2.result o.1 ∙ c.spread-2.ensures ∙ ap (λ (y : ℕ). four (y / 16)) e in
    alike_byte z a.bits.now (λ n. omega (arith, c.type_inv.scratch n)) a.i low high
