use Prim.Native.Nat.{ℕ, ◌^◌}
use mathlib.Core.Path.{◌≡◌, refl}
use mathlib.Core.Bool.{Bool}
use mathlib.Core.List.{List}
use Rattle.qcow2_spec.specs.Header.{cluster_size, backed}
use Rattle.qcow2_spec.specs.Opened.{geometry}
use Rattle.qcow2_spec.specs.declared.Geometry.{Geometry}
use Rattle.qcow2_backing.specs.Backing.{bad_backing}
use Rattle.qcow2_backing.proofs.bad_backing.Goals as goal

size_is : (g : Geometry) (s : List ℕ) → g ≡ geometry s 0 → cluster_size s ≡ 2 ^ g.bits
unfolding geometry cluster_size
size_is g s e = rw e refl

backed-is : (g : Geometry) (s : List ℕ) {b : Bool} → g ≡ geometry s 0 → g.backed ≡ b → backed s ≡ b
unfolding geometry
backed-is g s e h = rw e at h

pub bad_name-requires : goal.bad_name-requires
bad_name-requires c = let p = c.requires in (p.long, (p.high, size_is _ _ p.is))

pub returns-then-bad_name : goal.returns-then-bad_name
unfolding bad_backing
returns-then-bad_name c = rw (backed-is _ _ c.requires.is c.if-g.true, ← c.bad_name.ensures, c.if-bad_name.true)

pub returns-then-g : goal.returns-then-g
unfolding bad_backing
returns-then-g c = rw (backed-is _ _ c.requires.is c.if-g.true, ← c.bad_name.ensures, c.if-bad_name.false)

pub returns : goal.returns
unfolding bad_backing
returns c = rw (backed-is _ _ c.requires.is c.if-g.false)
