use Prim.Native.Nat.{◌-◌}
use mathlib.Core.Path.{◌≡◌}
use Rattle.qcow2_spec.specs.Header.{roots}
use Rattle.qcow2_trees.specs.Walks.{roots_visited, Front}
use Rattle.qcow2_trees.proofs.walk_roots.Given as goal

abbrev pub invariant-loop-t : goal.invariant-loop-t
invariant-loop-t l =
    Front l.states l.image l.t l.f.root l.f.row l.f.below
    × (roots_visited l.states l.image l.t (roots l.image - l.t) l.scratch ≡ roots_visited l.states l.image 0 (roots l.image) l.initial.scratch)
