-- The images of a batch in memory: each is sound or leaking and of the first image's shape, and the guest reads there what the calls say. Assumes nothing.
use Rattle.std.specs.Prelude.{Result as Outcome}
use Prim.Native.Nat.{ℕ, ◌≤◌, ◌<◌}
use native.Mathlib.Nat.{le_refl}
use mathlib.Core.Path.{◌≡◌, refl, sym, ap, ◌∙◌, subst}
use mathlib.Core.List.{List, [], ◌∷◌, ◌++◌}
use lib.ListN.{length}
use borrow.Author.Tests.{le-leb}
use Rattle.cuts.proofs.Cell.{mem}
use Rattle.cuts.proofs.Meta.{Geo, Codec}
use Rattle.cuts.proofs.Step.{gread}
use Rattle.cuts.proofs.Call.{Ok}
use Rattle.units.specs.Units.{UnitStore, apply_all}
use Rattle.units.specs.Plan.{Plan, refused, units, plan_units, stores_count, ended, outcome}
use Rattle.units.specs.declared.Ended.{Ended}
use Rattle.qcow2_spec.specs.Header.{cluster_size, disk_size}
use Rattle.qcow2_spec.specs.Guest.{guest_byte}
use Rattle.qcow2_spec.specs.Disk.{Request, plan_of, finished, Fed}
use Rattle.qcow2_spec.specs.Flush.{epochs, after_loose}
use Rattle.qcow2_spec.specs.Series.{left_loose, ends, Bytes, BytesOf}
use Rattle.qcow2_spec.proofs.Geo.{geo, code}
use Rattle.qcow2_spec.proofs.Kept.{same_geo, same_code}
use Rattle.qcow2_spec.proofs.Flush.{epochs-whole, loosely-all}
use Rattle.qcow2_spec.proofs.Seen.{Shots}
use Rattle.qcow2_spec.proofs.Plans.{plan_sure}
use Rattle.qcow2_spec.proofs.Series.{Good, fs, own, Result, result, step}
use Rattle.qcow2_batches.specs.Batch.{ran, memory}
use Rattle.qcow2_batches.specs.Series.{wholly, AllBytesOf}
use Rattle.qcow2_batches.proofs.Prefix.{Reads, Sized}

-- requests of bytes: the first of them, and one more
pub bytes-front : (us ws : List Request) → AllBytesOf (us ++ ws) → AllBytesOf us
unfolding AllBytesOf
bytes-front [] ws h = tt
bytes-front (u ∷ us) ws h = (h.0, bytes-front us ws h.1)

pub bytes-last : (rs : List Request) (r : Request) → AllBytesOf rs → BytesOf r → AllBytesOf (rs ++ r ∷ [])
unfolding AllBytesOf
bytes-last [] r h e = (e, tt)
bytes-last (u ∷ rs) r h e = (h.0, bytes-last rs r h.1 e)

-- an image that was kept by one that was kept
pub ok_after : (g : Geo) (K : Codec) (m0 : ℕ → ℕ → ℕ) (s t : List ℕ) → Ok g K m0 s → Ok g K (mem g.C s) t → Ok g K m0 t
ok_after g K m0 s t p q =
    record {
      len = q.len;
      small = q.small;
      sound = q.sound;
      head = λ x l b. q.head x l b ∙ p.head x l b;
      table = λ k l. q.table k l ∙ p.table k l;
      directory = λ a x l h. q.directory a x l h ∙ p.directory a x l h;
    }

-- a call that is run to its end ends so
pub ends-wholly : (p : Plan) → outcome p (length (plan_units p)) ≡ wholly p
unfolding outcome ended wholly plan_units
ends-wholly (refused k) = refl
ends-wholly (units us) = rw (le-leb (length us) (length us) (le_refl (length us)))

pub whole-left : (backing s : List ℕ) (r : Request) → after_loose (plan_of backing s r) (length (plan_units (plan_of backing s r))) [] s ≡ ran backing s r
unfolding after_loose ran
whole-left backing s r =
    let us = plan_units (plan_of backing s r) in
    ap (λ (vs : List UnitStore). apply_all vs s) (loosely-all (epochs s us) (length us) [] (rw (epochs-whole s us) (le_refl (length us))) ∙ epochs-whole s us)

module _ (backing start : List ℕ) (bb : Bytes backing) where
  abbrev pub shows : List ℕ → ℕ → ℕ
  shows t = guest_byte backing t 0

  module _ (s : List ℕ) (k : Good backing start s) (r : Request) (sm : BytesOf r) where
    pub ran-result : Result backing start s k r (wholly (plan_of backing s r)) (stores_count (plan_units (plan_of backing s r))) (ran backing s r)
    ran-result =
        let p = plan_of backing s r in
        subst (λ (t : List ℕ). Result backing start s k r (wholly p) (stores_count (plan_units p)) t) (whole-left backing s r)
        (subst (λ (o : Outcome Ended ℕ). Result backing start s k r o (stores_count (plan_units p)) (after_loose p (length (plan_units p)) [] s)) (ends-wholly p)
        (result backing start s k bb r (length (plan_units p)) [] p (plan_sure backing s (fs backing start s k) bb (own backing start s k) k.judged r sm)))

    pub ran-good : Good backing start start → Good backing start (ran backing s r)
        × Fed (wholly (plan_of backing s r)) (stores_count (plan_units (plan_of backing s r))) (disk_size start) (shows s) (finished (cluster_size start) r (shows s)) (shows (ran backing s r))
    unfolding left_loose ends
    ran-good b =
        let p = plan_of backing s r in
        let w = step backing start s k bb b (record { asks = r; allowance = length (plan_units p) }) [] sm in (
          subst (Good backing start) (whole-left backing s r) w.0,
          subst (λ (t : List ℕ). Fed (wholly p) (stores_count (plan_units p)) (disk_size start) (shows s) (finished (cluster_size start) r (shows s)) (shows t)) (whole-left backing s r)
              (subst (λ (o : Outcome Ended ℕ). Fed o (stores_count (plan_units p)) (disk_size start) (shows s) (finished (cluster_size start) r (shows s)) (shows (after_loose p (length (plan_units p)) [] s))) (ends-wholly p) w.1.fed),
        )

  -- all of them
  pub all-good : Good backing start start → (s : List ℕ) → Good backing start s → (rs : List Request) → AllBytesOf rs
      → Good backing start (memory backing s rs) × Reads backing start shows s rs × Sized backing start s rs
  unfolding memory AllBytesOf Reads Sized
  all-good b s k [] sm = (k, tt, tt)
  all-good b s k (r ∷ rs) sm =
      let w = ran-good s k r sm.0 b in
      let h = all-good b (ran backing s r) w.0 rs sm.1 in
      (h.0, (w.1, h.1), (k.one-C, h.2))

  -- by the first one's header
  module _ (s : List ℕ) (k : Good backing start s) (t : List ℕ) (q : Ok (geo s) (code s) (mem (cluster_size s) s) t) where
    pub back : (P : Geo → Codec → Type 0) → P (geo t) (code t) → P (geo s) (code s)
    back P p = subst (λ (g : Geo). P g (code s)) (same_geo s (fs backing start s k) t q) (subst (λ (K : Codec). P (geo t) K) (same_code s (fs backing start s k) t q) p)

    pub back₁ : (P : Geo → Codec → Type 1) → P (geo t) (code t) → P (geo s) (code s)
    back₁ P p = subst (λ (g : Geo). P g (code s)) (same_geo s (fs backing start s k) t q) (subst (λ (K : Codec). P (geo t) K) (same_code s (fs backing start s k) t q) p)

    pub forth₁ : (P : Geo → Codec → Type 1) → P (geo s) (code s) → P (geo t) (code t)
    forth₁ P p = subst (λ (g : Geo). P g (code t)) (sym (same_geo s (fs backing start s k) t q)) (subst (λ (K : Codec). P (geo s) K) (sym (same_code s (fs backing start s k) t q)) p)

  -- the snapshots of all of them are the first one's
  pub memory_kept : Good backing start start → (s : List ℕ) (k : Good backing start s) (rs : List Request) → AllBytesOf rs
      → Ok (geo s) (code s) (mem (cluster_size s) s) (memory backing s rs) × Shots backing s (fs backing start s k) (memory backing s rs)
  unfolding memory AllBytesOf
  memory_kept b s k [] sm = (own backing start s k, λ a c x l n p q. refl)
  memory_kept b s k (r ∷ rs) sm =
      let w = ran-result s k r sm.0 in
      let k' : Good backing start (ran backing s r) = (ran-good s k r sm.0 b).0 in
      let h = memory_kept b (ran backing s r) k' rs sm.1 in
      let t : List ℕ = memory backing (ran backing s r) rs in (
        ok_after (geo s) (code s) (mem (cluster_size s) s) (ran backing s r) t w.kept (back s k (ran backing s r) w.kept (λ (g : Geo) (K : Codec). Ok g K (mem g.C (ran backing s r)) t) h.0),
        λ a c x l n p q. back s k (ran backing s r) w.kept
            (λ (g : Geo) (K : Codec). (a c x : ℕ) → a < g.L → g.M ≤ a → c < g.E → x < g.C → gread g K (mem g.C t) a c x ≡ gread g K (mem g.C (ran backing s r)) a c x) h.1 a c x l n p q
            ∙ w.shots a c x l n p q,
      )
