use Prim.Native.Nat.{ℕ, ◌+◌, ◌*◌, ◌≤◌, ◌<◌}
use mathlib.Core.Path.{◌≡◌}
use lib.ListN.{length, get_or}
use Rattle.choice.specs.Pick.{count}
use Rattle.endian.specs.Big.{be64}
use Rattle.qcow2_noted.specs.Noting.{mark_of, unmade}
use Rattle.qcow2_noted.proofs.note.Given as goal

abbrev pub invariant-loop-k : goal.invariant-loop-k
invariant-loop-k l =
    (l.missing ≤ l.k)
    × ((length l.marks ≡ length l.initial.marks)
    × (((j : ℕ) → j < l.k → get_or l.marks j 0 ≡ mark_of (be64 l.image (l.at + 8 * j)))
    × (l.missing ≡ count (unmade l.image l.at) 0 l.k)))
