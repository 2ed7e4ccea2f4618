use native.Mathlib.Omega.{arith}
use Prim.Native.Nat.{◌+◌, ◌≤◌}
use mathlib.Core.Path.{◌≡◌}
use lib.ListN.{length}
use Rattle.endian.specs.Big.{be32, be64}
use Rattle.qcow2_spec.specs.Header.{snapshot_at}
use Rattle.qcow2_snapshots.proofs.Roots.{entry-inside, reach-small, root_opened}
use Rattle.qcow2_snapshots.proofs.snapshot_root.Goals as goal
use Rattle.qcow2_snapshots.proofs.snapshot_root.Goals.{After-place_of-at, After-load32-l1size}

-- the entry can be read
inside : (c : After-place_of-at) → c.place_of-at.result + 40 ≤ length c.args.image.now
inside c = rw c.place_of-at.ensures (entry-inside _ _ c.requires.0 _ c.requires.1)

-- what its fields give
size_is : (c : After-load32-l1size) → c.load32-l1size.result ≡ be32 c.args.image.now (snapshot_at c.args.image.now c.args.k + 8)
size_is c = rw (← c.place_of-at.ensures) c.load32-l1size.ensures

pub overflow_add-at : goal.overflow_add-at
overflow_add-at c = omega (arith, inside (goal.at.overflow_add-at c).After-place_of-at)

pub load32-l1size-requires : goal.load32-l1size-requires
load32-l1size-requires c = omega (arith, inside (goal.at.load32-l1size-requires c).After-place_of-at)

pub overflow_mul-result-2 : goal.overflow_mul-result-2
overflow_mul-result-2 c = omega (arith, (reach-small _ _ c.requires.0 _ c.requires.1 _ _ (size_is (goal.at.overflow_mul-result-2 c).After-load32-l1size) c.power-c.ensures.0).1)

pub load64-requires : goal.load64-requires
load64-requires c = omega (arith, inside (goal.at.load64-requires c).After-place_of-at)

pub returns : goal.returns
returns c =
    let at : c.load64.result ≡ be64 c.args.image.now (snapshot_at c.args.image.now c.args.k) = rw (← c.place_of-at.ensures) c.load64.ensures in
    (root_opened _ _ c.requires.0 _ c.requires.1 _ _ _ (size_is (goal.at.returns c).After-load32-l1size) c.power-c.ensures.0 at, omega arith)
