use Rattle.std.proofs.Common.{ℕ, sym, ap, refl, ◌∙◌}
use lib.Dec.{eqb}
use Rattle.choice.specs.Pick.{all}
use Rattle.packed.proofs.Parts.{part_of}
use Rattle.packed_groups.proofs.Blanks.{blank_within}
use Rattle.packed_groups.proofs.group32.Goals as goal

pub returns-then-all_blank : goal.returns-then-all_blank
returns-then-all_blank c =
    let a = c.args in
    let z = ap (all (λ (b : ℕ). eqb b 0)) (sym (part_of a.figures.now a.k 128 128 refl)) ∙ sym c.all_blank.ensures ∙ c.if-all_blank.true in
    rw c.if-d-eq128.true (blank_within 5 a.block.now a.figures.now a.k 128 c.filled32.result z c.filled32.ensures)
