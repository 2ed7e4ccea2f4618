use native.Mathlib.Omega.{arith}
use Prim.Native.Nat.{ℕ, ◌+◌, ◌-◌, ◌*◌, ◌/◌, ◌^◌}
use mathlib.Core.Path.{◌≡◌, sym, ap, subst, ◌∙◌}
use mathlib.Core.List.{List}
use borrow.Author.Tests.{eqb-true}
use lib.ListN.{length, take, drop}
use Rattle.packed.proofs.Parts.{part_of, length_part}
use Rattle.qcow2_marks.specs.Marks.{Rights}
use Rattle.qcow2_marks.proofs.Rights.{table_fair, table-marks}
use Rattle.qcow2_marks.proofs.table_right.Goals as goal

pub front_right-requires : goal.front_right-requires
front_right-requires c =
    let o = c.requires.0.0 in
    let a = c.args in
    let s = a.image.now in
    let m = length a.scratch.now / 2 in
    let C = c.power-c.result in
    let q : m ≡ a.g.clusters = omega (arith, c.requires.0.1) in
    let n : length s ≡ m * 2 ^ a.g.bits = rw q o.whole in
    ((o.low, o.high), table_fair s a.scratch.now a.g.bits m a.p (take (a.p + C - a.p) (drop a.p s)) o.is-cluster c.requires.1.0 (part_of s a.p C (2 ^ a.g.bits) c.power-c.ensures.0) n c.requires.1.1)

pub returns : goal.returns
returns c = λ e.
    let a = c.args in
    let s = a.image.now in
    let S = a.scratch.now in
    let C = c.power-c.result in
    let p = a.p in
    let T : List ℕ = take (p + C - p) (drop p s) in
    let t = part_of s p C (2 ^ a.g.bits) c.power-c.ensures.0 in
    let l : length T ≡ C = ap length t ∙ length_part s p (2 ^ a.g.bits) c.requires.1.0 ∙ sym c.power-c.ensures.0 in
    let k : c.front_right.result ≡ length T / 8 = eqb-true _ _ e ∙ ap (λ (x : ℕ). x / 8) (sym l) in
    table-marks s S a.g.bits (length S / 2) p T c.requires.0.0.is-cluster c.requires.1.0 t (subst (λ (y : ℕ). Rights (2 ^ a.g.bits) S T 0 y) k c.front_right.ensures.1)
