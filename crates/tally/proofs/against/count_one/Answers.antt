use mathlib.Core.Path.{sym, ◌∙◌}
use Rattle.tally.proofs.Counting.{counted-found, counted-short, counted_even, counted-over}
use Rattle.tally.proofs.against.count_one.Goals as goal

pub returns-in-Less : goal.returns-in-Less
returns-in-Less c =
    let a = c.args in
    counted-found a.stored a.figure a.clusters a.k a.c (sym c.compare.ensures ∙ c.in-Less.is) c.if-c-clusters.true

pub returns-in-Less-2 : goal.returns-in-Less-2
returns-in-Less-2 c =
    let a = c.args in
    counted-short a.stored a.figure a.clusters a.k a.c (sym c.compare.ensures ∙ c.in-Less-2.is) c.if-c-clusters.false

pub returns-in-Equal : goal.returns-in-Equal
returns-in-Equal c =
    let a = c.args in
    counted_even a.stored a.figure a.clusters a.k a.c (sym c.compare.ensures ∙ c.in-Equal.is)

pub returns-in-Greater : goal.returns-in-Greater
returns-in-Greater c =
    let a = c.args in
    counted-over a.stored a.figure a.clusters a.k a.c (sym c.compare.ensures ∙ c.in-Greater.is)
