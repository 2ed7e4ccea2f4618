-- The figures of an image's scratch.
-- Assumes nothing.
use Prim.Native.Nat.{ℕ, ◌*◌}
use mathlib.Core.Path.{◌≡◌, ap, ◌∙◌}
use mathlib.Core.List.{List}
use native.Mathlib.Nat.{zero-add}
use Rattle.choice.proofs.Each.{each_list}
use Rattle.endian.specs.Big.{be16}
use Rattle.tally.specs.Tally.{wide}
use Rattle.tally.specs.States.{twos}
use Rattle.tally.proofs.Laws.{length-figures}
use Rattle.tally.proofs.Wide.{wide_at, figures_fit}
use Rattle.qcow2_spec.specs.Header.{clusters}
use Rattle.qcow2_spec.specs.References.{most_figure, references, figures_of}

-- the numbers of a scratch that holds the figures are the figures
pub twos-figures : (s : List ℕ) → twos (wide (figures_of s)) 0 (clusters s) ≡ figures_of s
unfolding figures_of
twos-figures s =
    let F : List ℕ = figures_of s in
    rw (length-figures most_figure (references s) 0 (clusters s))
    at (each_list (λ j. be16 (wide F) (2 * j)) F 0 (λ i l. ap (λ (j : ℕ). be16 (wide F) (2 * j)) (zero-add i) ∙ wide_at F i (figures_fit (references s) 0 (clusters s))))
