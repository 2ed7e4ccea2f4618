use native.Mathlib.Omega.{arith}
use Prim.Native.Nat.{ℕ, ◌+◌, ◌≤◌, ◌<◌}
use mathlib.Core.List.{List}
use mathlib.Core.Path.{◌≡◌, ap, ◌∙◌}
use lib.ListN.{length}
use Rattle.endian.specs.Big.{be32}
use Rattle.qcow2_spec.specs.Header.{snapshots, snapshot_at, root_size}
use Rattle.qcow2_spec.specs.Opened.{Opened}
use Rattle.qcow2_spec.specs.declared.Geometry.{Geometry}
use Rattle.qcow2_snapshots.proofs.Roots.{entry-inside}
use Rattle.qcow2_snapshots.proofs.size_at.Goals as goal

-- the entry can be read
inside : (g : Geometry) (image : List ℕ) (k p : ℕ) → (Opened g image × (k < snapshots image)) × (p ≡ snapshot_at image k) → p + 40 ≤ length image
inside g image k p h = rw h.1 (entry-inside _ _ h.0.0 _ h.0.1)

pub overflow_add-p : goal.overflow_add-p
overflow_add-p c = omega (arith, inside _ _ _ _ c.requires)

pub load32-requires : goal.load32-requires
load32-requires c = omega (arith, inside _ _ _ _ c.requires)

pub returns : goal.returns
unfolding root_size
returns c = c.load32.ensures ∙ ap (λ (x : ℕ). be32 c.args.image.now (x + 8)) c.requires.1
