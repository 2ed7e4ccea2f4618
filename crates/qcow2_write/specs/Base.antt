-- What the bytes that are lent have for a guest cluster.
-- Assumes nothing.
use Rattle.std.specs.Prelude.{ℕ, ◌^◌, ◌≤◌, ◌≡◌, List, length}
use Rattle.fills.specs.Padded.{padded}
use Rattle.qcow2_spec.specs.Store.{backing_cluster}
use Rattle.qcow2_spec.specs.Opened.{Active}
use Rattle.qcow2_spec.specs.declared.Geometry.{Geometry}

-- base, and then zeros, lies under guest cluster x of every image that g is the geometry of
pub record Base (g : Geometry) (backing : List ℕ) (x : ℕ) (base : List ℕ) : Type 0 where
  pub few : length base ≤ 2 ^ g.bits
  pub same : (s : List ℕ) → Active g s → backing_cluster backing s x ≡ padded (2 ^ g.bits) base
