use Prim.Native.Nat.{◌*◌}
use mathlib.Core.Path.{◌≡◌}
use lib.ListN.{length}
use Rattle.endian.specs.Big.{part}
use Rattle.qcow2_spec.specs.Header.{roots}
use Rattle.qcow2_spec.specs.Check.{or_else, roots_verdict}
use Rattle.qcow2_spec.specs.declared.Verdict.TheVariants.{Sound}
use Rattle.qcow2_bad.proofs.Tables.{tables_from}
use Rattle.qcow2_states.proofs.Windows.{walked_to}
use Rattle.qcow2_states.proofs.sweep_states.Given as goal

abbrev pub invariant-loop-t : goal.invariant-loop-t
invariant-loop-t l =
    (l.window ≡ part (walked_to l.image l.t) (2 * l.b) (length l.initial.window))
    × (or_else l.w.found (tables_from l.image l.t) ≡ roots_verdict l.image 0 (roots l.image) Sound)
