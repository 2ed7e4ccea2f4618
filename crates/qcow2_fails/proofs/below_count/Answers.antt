use mathlib.Core.Path.{◌≡◌, sym, ap, ◌∙◌}
use borrow.Author.Tests.{eq-eqb, ne_eqb}
use Rattle.qcow2_spec.specs.Header.{per_table}
use Rattle.qcow2_spec.specs.Entries.{place}
use Rattle.qcow2_fails.specs.Seeks.{below_count}
use Rattle.qcow2_refs.specs.Walks.{row_at}
use Rattle.qcow2_fails.proofs.below_count.Goals as goal
use Rattle.qcow2_fails.proofs.below_count.Goals.{After-place_of}

pub row_at-requires : goal.row_at-requires
row_at-requires c = c.requires

-- the place that the L1 entry gives
at_place : (c : After-place_of) → c.place_of.result ≡ place (row_at c.args.image.now c.args.g.root c.args.i)
at_place c = c.place_of.ensures.0 ∙ ap place c.row_at.ensures

pub returns-then-place_of-eq0 : goal.returns-then-place_of-eq0
unfolding below_count
returns-then-place_of-eq0 c = rw (eq-eqb _ 0 (sym (at_place (goal.at.returns-then-place_of-eq0 c).After-place_of) ∙ c.if-place_of-eq0.true))

pub returns : goal.returns
unfolding below_count per_table
returns c =
    rw (ne_eqb _ 0 (λ z. c.if-place_of-eq0.false (at_place (goal.at.returns c).After-place_of ∙ z)), c.power.ensures.0, c.requires.0.is-cluster)
