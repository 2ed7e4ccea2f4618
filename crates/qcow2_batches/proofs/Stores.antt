-- A drive that stores sectors, and a store that brings the bytes of the image in memory: both store a batch phase by phase. Assumes nothing.
use Prim.Native.Nat.{ℕ, ◌/◌}
use mathlib.Core.Path.{◌≡◌, refl, ap, ◌∙◌}
use mathlib.Core.Logic.{◌≢◌}
use mathlib.Core.List.{List, [], ◌∷◌, ◌++◌}
use lib.ListN.{take}
use Rattle.cuts.proofs.Cell.{mem}
use Rattle.cuts.proofs.Run.{Store, Each}
use Rattle.batches.proofs.Lists.{each_map}
use Rattle.batches.proofs.Units.{linking_apart}
use Rattle.batches.proofs.Stored.{entries-apart}
use Rattle.units.specs.Units.{UnitStore, apply_all}
use Rattle.qcow2_spec.specs.Header.{autoclear_at, cluster_size}
use Rattle.qcow2_spec.specs.Disk.{Request}
use Rattle.qcow2_spec.specs.Flush.{joined}
use Rattle.qcow2_spec.specs.Steps.{extents, extents_in, brought}
use Rattle.qcow2_spec.specs.Series.{Bytes}
use Rattle.qcow2_spec.proofs.Facts.{Facts}
use Rattle.qcow2_spec.proofs.Geo.{geo, code}
use Rattle.qcow2_spec.proofs.Flush.{held_end}
use Rattle.qcow2_spec.proofs.Sectors.{AllIn, sector-entry, Ins, drive_loose}
use Rattle.qcow2_spec.proofs.Sectors.{none as all_none, also as all_also}
use Rattle.qcow2_spec.proofs.Extents.{Disjoint, Beside, Apart, beside_none, brought-apart}
use Rattle.qcow2_spec.proofs.Plans.{clear_apart}
use Rattle.qcow2_spec.proofs.Units.{Like, like_append, like_in, like_covers, like_apart}
use Rattle.qcow2_spec.proofs.Series.{Good, fs, start-good}
use Rattle.qcow2_batches.specs.Batch.{memory, batch_phase, batch_phases, Allowed, left_batch}
use Rattle.qcow2_batches.specs.Series.{AllBytesOf, SectorsBatch, BatchBrought}
use Rattle.qcow2_batches.proofs.Covers.{clash-none}
use Rattle.qcow2_batches.proofs.Firsts.{Firsts, uncleared, cleared, firsts_covers}
use Rattle.qcow2_batches.proofs.State.{State}
use Rattle.qcow2_batches.proofs.All.{batch_whole, batch_state}
use Rattle.qcow2_batches.proofs.Cuts.{Fits, batch_held}

-- the units before the entries, as one list that is like the machinery's
firsts_alike : {C : ℕ} {q p : List UnitStore} {r : List Store} → Firsts C q p r → (vs : List Store) × Like C p vs
firsts_alike (uncleared {r = r} h) = (r, h)
firsts_alike (cleared {a = a} {b = b} h k) = (a ++ b, like_append h k)

firsts_in : {C : ℕ} {q p : List UnitStore} {r : List Store} → Firsts C q p r → AllIn 512 q
firsts_in (uncleared h) = all_none
firsts_in (cleared h k) = all_also (sector-entry autoclear_at 0 refl) all_none

beside_first : (backing img : List ℕ) (f : Facts img) {q p us vs : List UnitStore} {r ws xs : List Store} → Firsts (cluster_size img) q p r → Like (cluster_size img) us ws → Like (cluster_size img) vs xs
    → Beside q (p ∷ us ∷ vs ∷ [])
unfolding Beside
beside_first backing img f {p = p} {us = us} {vs = vs} (uncleared h) k k' = beside_none (p ∷ us ∷ vs ∷ [])
beside_first backing img f (cleared h h') k k' = (clear_apart backing img f (like_append h h'), (clear_apart backing img f k, (clear_apart backing img f k', tt)))

module _ (backing start img : List ℕ) (all : List Request) (bb : Bytes backing) (b : Good backing start start) (k0 : Good backing start img) (sm : AllBytesOf all) (free : Allowed backing img all) where
  abbrev P : ℕ → List UnitStore
  P n = batch_phase n backing img [] all

  st : State backing img all (geo img) (code img) (memory backing img all) (P 0) (P 1) (P 2) (P 3)
  st = batch_state backing start img all bb b k0 sm (batch_whole backing start img all bb b k0 sm free)

  -- ---- each unit lies in one sector
  pub phases_in : Ins (batch_phases backing img all)
  unfolding Ins batch_phases
  phases_in = (firsts_in st.firsts, (like_in (firsts_alike st.firsts).1, (like_in st.seconds, (like_in st.thirds, tt))))

  -- ---- no byte is of two phases
  apart-entries : Disjoint (P 1) (P 2)
  apart-entries x p q =
      like_covers (λ (w : ℕ). w ≢ x / cluster_size img) st.seconds
      (firsts_covers (λ (w : ℕ). Each (λ (v : Store). v.w ≢ w) st.l) st.firsts
      (each_map (λ u h. each_map (λ v k. linking_apart (geo img) (code img) st.ok (mem (cluster_size img) img) img st.begun st.role v u k h) st.batch.planned.linking) st.batch.planned.ready) x p)
      x q refl

  apart_falls : Disjoint (P 2) (P 3)
  apart_falls =
      like_apart st.seconds st.thirds
      (entries-apart (geo img) (code img) st.ok (mem (cluster_size img) img) img st.begun st.role st.dead st.r st.l st.f (memory backing img all) st.batch.planned st.batch.settled)

  pub phases_apart : Apart (batch_phases backing img all)
  unfolding Apart Beside batch_phases Allowed
  phases_apart = (
    beside_first backing img (fs backing start img k0) st.firsts st.seconds st.thirds,
    ((apart-entries, (clash-none (extents (P 1)) (extents (P 3)) free, tt)), ((apart_falls, tt), (tt, tt))),
  )

  pub phases_whole : apply_all (joined (batch_phases backing img all)) img ≡ memory backing img all
  phases_whole =
      held_end (Fits backing start img all bb b k0 sm) (λ (u : List ℕ). u ≡ memory backing img all) (batch_phases backing img all) img
      (batch_held backing start img all bb b k0 sm st (batch_whole backing start img all bb b k0 sm free).earlies)

pub sectors_batch : SectorsBatch
unfolding left_batch
sectors_batch backing s bb by h rs sm free e stored = let k = start-good backing s by h in drive_loose (batch_phases backing s rs) s (phases_in backing s s rs bb k k sm free) e stored

pub batch_brought : BatchBrought
batch_brought backing s bb by h rs sm free e =
    let k = start-good backing s by h in
    brought-apart (batch_phases backing s rs) s (phases_apart backing s s rs bb k k sm free) e
    ∙ ap (λ (t : List ℕ). brought (extents_in (take e (batch_phases backing s rs))) s t) (phases_whole backing s s rs bb k k sm free)
