-- One more call of a batch, of whichever kind. Assumes nothing.
use Prim.Native.Nat.{ℕ}
use mathlib.Core.List.{List}
use lib.ListN.{take}
use Rattle.cuts.proofs.Cell.{mem}
use Rattle.cuts.proofs.Call.{Ok}
use Rattle.units.specs.Units.{UnitStore}
use Rattle.units.specs.Units.{apply_all as apply_all_u}
use Rattle.qcow2_spec.specs.Header.{cluster_size}
use Rattle.qcow2_spec.specs.Disk.{Request}
use Rattle.qcow2_spec.specs.Steps.{Extent, extents}
use Rattle.qcow2_spec.proofs.Facts.{Facts}
use Rattle.qcow2_spec.proofs.Geo.{geo, code}
use Rattle.qcow2_spec.proofs.Extents.{Disjoint}
use Rattle.qcow2_spec.proofs.Kind.{Kind, nothing, placed, shown, new, tabled, emptied, freed, mended}
use Rattle.qcow2_batches.specs.Batch.{in_phase}
use Rattle.qcow2_batches.proofs.Covers.{Alike}
use Rattle.qcow2_batches.proofs.State.{uncut, Past, m0, State}
use Rattle.qcow2_batches.proofs.Added.{Added}
use Rattle.qcow2_batches.proofs.Placed.{placed-added}
use Rattle.qcow2_batches.proofs.Shown.{shown-added}
use Rattle.qcow2_batches.proofs.New.{new_added}
use Rattle.qcow2_batches.proofs.Tabled.{tabled-added}
use Rattle.qcow2_batches.proofs.Mended.{nothing_added, mended-added}
use Rattle.qcow2_batches.proofs.Dropped.{emptied_added, freed-added}

module _ (backing img : List ℕ) (all : List Request) (s : List ℕ) (fs : Facts s) (p0 p1 p2 p3 : List UnitStore)
    (st : State backing img all (geo s) (code s) s p0 p1 p2 p3) (ready : List Extent) (al : Alike ready (extents p1)) (was : Past backing img all (geo s) (code s) (mem (cluster_size s) s)) where
  end : (us : List UnitStore) → ((n : ℕ) → Ok (geo s) (code s) (m0 backing img all) (apply_all_u (take n us) s)) → Ok (geo s) (code s) (m0 backing img all) (apply_all_u us s)
  end us = uncut (Ok (geo s) (code s) (m0 backing img all)) us s

  pub kind_added : (r : Request) (us : List UnitStore) → Kind backing s fs r us → ((n : ℕ) → Ok (geo s) (code s) (m0 backing img all) (apply_all_u (take n us) s))
      → Past backing img all (geo s) (code s) (mem (cluster_size s) (apply_all_u us s)) → Disjoint (in_phase 1 s ready us) p3
      → Added backing img all s fs p0 p1 p2 p3 st ready al r us
  kind_added r us (nothing h e) cuts now free = nothing_added backing img all s fs p0 p1 p2 p3 st ready al _
  kind_added r us (placed sp w dn fl e) cuts now free = placed-added backing img all s fs p0 p1 p2 p3 st ready al _ _ _ _ sp w dn e now
  kind_added r us (shown sp w dn fl e) cuts now free = shown-added backing img all s fs p0 p1 p2 p3 st ready al _ _ _ _ sp w dn fl e (end us cuts) now was
  kind_added r us (new sp w dz l z whole) cuts now free = new_added backing img all s fs p0 p1 p2 p3 st ready al _ _ _ _ _ w dz l z whole (end us cuts) now free
  kind_added r us (tabled sp tz b l zt zc whole) cuts now free = tabled-added backing img all s fs p0 p1 p2 p3 st ready al _ _ _ _ _ sp tz b l zt zc whole (end us cuts) free
  kind_added r us (emptied w dz good dark) cuts now free = emptied_added backing img all s fs p0 p1 p2 p3 st ready al _ _ w good (end us cuts) now
  kind_added r us (freed w dn good dark) cuts now free = freed-added backing img all s fs p0 p1 p2 p3 st ready al _ _ w good dn cuts now
  kind_added r us mended cuts now free = mended-added backing img all s fs p0 p1 p2 p3 st ready al _
