use mathlib.Core.Path.{◌≡◌, sym, ◌∙◌}
use mathlib.Core.Bool.{true, false}
use Rattle.qcow2_tables.specs.Placing.{misplaced, misplaced_tables}
use Rattle.qcow2_tables.proofs.places.misplaced_tables.Goals as goal

pub returns-then-misplaced : goal.returns-then-misplaced
unfolding misplaced_tables
returns-then-misplaced c = rw (← c.misplaced.ensures, c.if-misplaced.true)

pub returns-then-misplaced-2 : goal.returns-then-misplaced-2
unfolding misplaced_tables
returns-then-misplaced-2 c =
    let e : misplaced _ _ _ _ ≡ true = rw c.power-c.ensures.0 at (sym c.misplaced-2.ensures ∙ c.if-misplaced-2.true) in
    rw (← c.misplaced.ensures, c.if-misplaced.false, e)

pub returns : goal.returns
unfolding misplaced_tables
returns c =
    let e : misplaced _ _ _ _ ≡ false = rw c.power-c.ensures.0 at (sym c.misplaced-2.ensures ∙ c.if-misplaced-2.false) in
    rw (← c.misplaced.ensures, c.if-misplaced.false, e, c.power-c.ensures.0)
