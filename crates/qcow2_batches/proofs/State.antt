-- What is known of a batch while its calls are planned: its units by phase, as the definitions and as the machinery have them. Assumes nothing.
use Prim.Native.Nat.{ℕ, ◌+◌, ◌*◌, ◌/◌, ◌%◌, ◌<◌}
use mathlib.Core.Path.{◌≡◌, ◌∙◌, subst}
use mathlib.Core.Bool.{true}
use mathlib.Core.List.{List, ◌++◌}
use lib.ListN.{length, take}
use lib.Seq.{take-length}
use Rattle.cuts.proofs.Cell.{mem}
use Rattle.cuts.proofs.Meta.{Geo, GeoOk, Codec, blk}
use Rattle.cuts.proofs.Step.{gread}
use Rattle.cuts.proofs.Run.{Store}
use Rattle.cuts.proofs.Call.{Ok}
use Rattle.batches.proofs.Mixture.{Use, table}
use Rattle.batches.proofs.Batch.{Batch}
use Rattle.units.specs.Units.{UnitStore, apply_all}
use Rattle.qcow2_spec.specs.Header.{cluster_size}
use Rattle.qcow2_spec.specs.Disk.{Request}
use Rattle.qcow2_spec.specs.Steps.{extents, covers}
use Rattle.qcow2_spec.proofs.Units.{Like}
use Rattle.qcow2_batches.specs.Batch.{memory}
use Rattle.qcow2_batches.proofs.Firsts.{Firsts}

-- what holds after every cut of a list holds at its end
pub uncut : (P : List ℕ → Type 0) (us : List UnitStore) (s : List ℕ) → ((n : ℕ) → P (apply_all (take n us) s)) → P (apply_all us s)
uncut P us s h = subst (λ (vs : List UnitStore). P (apply_all vs s)) (take-length us) (h (length us))

module _ (backing img : List ℕ) (all : List Request) where
  -- every guest cluster reads in y as in the image after some of the batch's calls
  pub record Past (g : Geo) (K : Codec) (y : ℕ → ℕ → ℕ) : Type 0 where
    pub done : List Request
    pub rest : List Request
    pub whole : done ++ rest ≡ all
    pub same : (i j o : ℕ) → i < g.L → j < g.E → o < g.C → gread g K y i j o ≡ gread g K (mem g.C (memory backing img done)) i j o

  -- what the guest does not see does not matter to it
  pub past_same : (g : Geo) (K : Codec) (y z : ℕ → ℕ → ℕ) → ((i j o : ℕ) → i < g.L → j < g.E → o < g.C → gread g K z i j o ≡ gread g K y i j o) → Past g K y → Past g K z
  past_same g K y z h p = record { done = p.done; rest = p.rest; whole = p.whole; same = λ i j o a b l. h i j o a b l ∙ p.same i j o a b l }

  abbrev pub m0 : ℕ → ℕ → ℕ
  m0 = mem (cluster_size img) img

  -- s is in memory, and the units so far are p0 to p3 by phase
  pub record State (g : Geo) (K : Codec) (s : List ℕ) (p0 p1 p2 p3 : List UnitStore) : Type 1 where
    pub ok : GeoOk g K
    pub begun : Ok g K m0 img
    pub role : ℕ → Use
    pub dead : ℕ → Type 0
    pub r : List Store
    pub l : List Store
    pub f : List Store
    pub batch : Batch g K ok m0 img begun (Past g K) role dead r l f s
    pub firsts : Firsts g.C p0 p1 r
    pub seconds : Like g.C p2 l
    pub thirds : Like g.C p3 f
    -- a table that is new in the batch is filled in phase 1, and the counts of the clusters that it has freed are those of phase 3
    pub filled : (t i x : ℕ) → t < g.N → role t ≡ table i → x < g.C → covers (extents p1) (t * g.C + x) ≡ true
    pub lowered : (c : ℕ) → c < g.N → dead c → covers (extents p3) (blk g (mem g.C img) (c / g.H) * g.C + g.W * (c % g.H) / 8) ≡ true
