-- What the guest reads before the entries of a batch are stored, whichever of the units there are: calls are old, or their bytes in place are mixed. Assumes nothing.
use Rattle.std.specs.Prelude.{Ok as told}
use Prim.Native.Nat.{ℕ, ◌+◌, ◌*◌, ◌/◌, ◌%◌, ◌≤◌, ◌<◌}
use mathlib.Core.Path.{◌≡◌, refl, sym, ◌∙◌, subst}
use mathlib.Core.Logic.{inl, ◌≢◌}
use mathlib.Core.Bool.{Bool, false}
use mathlib.Core.List.{List, []}
use lib.ListN.{length}
use Rattle.cuts.proofs.Cell.{Small, mem}
use Rattle.cuts.proofs.Meta.{Geo, GeoOk, Codec, dat, mark, refs_of, Keep, keep_dat, keep_mark, keep_refs}
use Rattle.cuts.proofs.Step.{gread, dat_in}
use Rattle.cuts.proofs.Run.{fill}
use Rattle.cuts.proofs.Call.{Ok, SameGuest}
use Rattle.cuts.proofs.Write.{MidP, place-run}
use Rattle.batches.proofs.Mixture.{unused}
use Rattle.batches.proofs.Prepared.{Prepared, ready_cut}
use Rattle.batches.proofs.Places.{old, fill-ready}
use Rattle.batches.proofs.Unseen.{hidden_cut}
use Rattle.units.specs.Units.{UnitStore}
use Rattle.units.specs.Units.{apply_all as apply_all_u}
use Rattle.units.specs.Plan.{Plan, refused, units, plan_units, stores_count}
use Rattle.units.specs.declared.Ended.TheVariants.{Stopped}
use Rattle.qcow2_spec.specs.Header.{most_l1, cluster_size, disk_size, per_table, roots}
use Rattle.qcow2_spec.specs.Disk.{Request, write, finished, SameDisk, Fed}
use Rattle.qcow2_spec.specs.Flush.{picked}
use Rattle.qcow2_spec.specs.Series.{Bytes}
use Rattle.qcow2_spec.proofs.Facts.{Facts}
use Rattle.qcow2_spec.proofs.Geo.{nr, geo, code, geo_ok}
use Rattle.qcow2_spec.proofs.Seen.{seen, beneath, Shots, same_rd, wrote_shots, part_rd, strong, fed-same}
use Rattle.qcow2_spec.proofs.Flush.{picked_nil}
use Rattle.qcow2_spec.proofs.Units.{Like, like_picked, like_all}
use Rattle.qcow2_spec.proofs.Series.{Good, fs, own, moved, next-good, next_seen, finished-same}
use Rattle.qcow2_batches.specs.Series.{cut_short}
use Rattle.qcow2_batches.proofs.Added.{Early, unseen, visible}
use Rattle.qcow2_batches.proofs.Goods.{shows, back}

module _ (backing start img : List ℕ) (all : List Request) (bb : Bytes backing) (k0 : Good backing start img) where
  abbrev f0 : Facts img
  f0 = fs backing start img k0

  abbrev shown : List ℕ → ℕ → ℕ
  shown = shows backing start bb

  -- the tables and the snapshots are the first image's
  pub record At (u : List ℕ) : Type 0 where
    pub kept : Ok (geo img) (code img) (mem (cluster_size img) img) u
    pub keep : Keep (geo img) (code img) (mem (cluster_size img) img) (mem (cluster_size img) u)
    pub shots : Shots backing img f0 u

  pub at-good : (u : List ℕ) → At u → Good backing start u
  at-good u h = next-good backing start img k0 u h.kept h.shots

  -- ---- where nothing is seen
  pub same-shown : (u v : List ℕ) → At u → Ok (geo img) (code img) (mem (cluster_size img) img) v → SameGuest (geo img) (code img) u v → SameDisk (disk_size start) (shown v) (shown u)
  unfolding SameDisk
  same-shown u v h q g y l =
      let m : y < disk_size img = rw k0.one_size l in
      sym (next_seen backing start img k0 v q y m) ∙ same_rd backing img f0 u v g y m ∙ next_seen backing start img k0 u h.kept y m

  same_at : (u v : List ℕ) → At u → Ok (geo img) (code img) (mem (cluster_size img) img) v → Keep (geo img) (code img) (mem (cluster_size img) img) (mem (cluster_size img) v) → SameGuest (geo img) (code img) u v → At v
  unfolding SameGuest
  same_at u v h q e g = record { kept = q; keep = e; shots = λ a b x l n p r. g a b x l p r ∙ h.shots a b x l n p r }

  fed_old : (p : Plan) (b : Bool) (was new now : ℕ → ℕ) → SameDisk (disk_size start) now was → Fed (cut_short p) b (disk_size start) was new now
  unfolding cut_short Fed
  fed_old (refused n) b was new now h = h
  fed_old (units us) b was new now h = strong b (disk_size start) was new now (inl h) 0

  -- ---- bytes of the first image's data
  module _ (x : ℕ) (d : List ℕ) (sm : Small d) (a : List UnitStore) (u : List ℕ) (h : At u) where
    -- u's data, to be overwritten with d
    record Spot (g : Geo) (K : Codec) : Type 0 where
      like : Like g.C a (fill (dat g K (mem g.C u) (nr 0 (x / g.C / g.E)) (x / g.C % g.E)) (x % g.C) d)
      i_l : nr 0 (x / g.C / g.E) < g.L
      i_m : nr 0 (x / g.C / g.E) < g.M
      j_e : x / g.C % g.E < g.E
      in_c : x % g.C + length d ≤ g.C
      some : dat g K (mem g.C u) (nr 0 (x / g.C / g.E)) (x / g.C % g.E) ≢ 0
      one : refs_of g K (mem g.C u) (dat g K (mem g.C u) (nr 0 (x / g.C / g.E)) (x / g.C % g.E)) ≤ 1
      plain : mark g K (mem g.C u) (nr 0 (x / g.C / g.E)) (x / g.C % g.E) ≡ 0

    k : Good backing start u
    k = at-good u h

    fu : Facts u
    fu = fs backing start u k

    module _ (w : Spot (geo u) (code u)) (cs : List Bool) where
      abbrev i : ℕ
      i = nr 0 (x / cluster_size u / per_table u)

      abbrev j : ℕ
      j = x / cluster_size u % per_table u

      abbrev v : List ℕ
      v = apply_all_u (picked cs a) u

      part : MidP (geo u) (code u) (geo_ok u fu) (mem (cluster_size u) u) (beneath backing u fu (x / cluster_size u)) i j (x % cluster_size u) d u v
      part =
          subst (MidP (geo u) (code u) (geo_ok u fu) (mem (cluster_size u) u) (beneath backing u fu (x / cluster_size u)) i j (x % cluster_size u) d u) (sym (like_all (like_picked w.like cs) u))
          ((place-run (geo u) (code u) (geo_ok u fu) (mem (cluster_size u) u) u (own backing start u k) (beneath backing u fu (x / cluster_size u)) i j (x % cluster_size u) d w.i_l w.j_e w.in_c sm
          w.some w.one w.plain).0 cs)

      mixed : Fed (told (Stopped 0)) false (disk_size start) (shown u) (finished (cluster_size start) (write x d) (shown u)) (shown v)
      unfolding Fed
      mixed =
          let z : SameDisk (disk_size u) (seen backing u fu u) (shown u) = next_seen backing start u k u (own backing start u k) in
          rw (← k.one_size, ← k.one-C)
          (fed-same (disk_size u) (seen backing u fu u) (shown u) (finished (cluster_size u) (write x d) (seen backing u fu u)) (finished (cluster_size u) (write x d) (shown u)) (seen backing u fu v) (shown v) z
          (finished-same (cluster_size u) (disk_size u) (write x d) (seen backing u fu u) (shown u) z) (next_seen backing start u k v part.0) (told (Stopped 0)) false (part_rd backing u fu v x d w.in_c part.1))

      part-shots : Shots backing u fu v
      part-shots = wrote_shots backing u fu v (beneath backing u fu (x / cluster_size u)) i j (x % cluster_size u) part.1.bytes w.i_m part.1.wrote

    -- by the first image's header
    overwritten : Spot (geo u) (code u) → (cs : List Bool) → Prepared (geo img) (code img) (geo_ok img f0) (mem (cluster_size img) img) img (apply_all_u (picked cs a) u)
        → At (apply_all_u (picked cs a) u) × Fed (told (Stopped 0)) false (disk_size start) (shown u) (finished (cluster_size start) (write x d) (shown u)) (shown (apply_all_u (picked cs a) u))
    overwritten w cs p = (
      record {
        kept = p.fine;
        keep = p.keep;
        shots = λ c b y l n q r. back backing start bb img k0 u h.kept
            (λ (g : Geo) (K : Codec). (c b y : ℕ) → c < g.L → g.M ≤ c → b < g.E → y < g.C → gread g K (mem g.C (apply_all_u (picked cs a) u)) c b y ≡ gread g K (mem g.C u) c b y) (part-shots w cs) c b y l n q r
            ∙ h.shots c b y l n q r;
      },
      mixed w cs,
    )

  -- ---- a call
  -- what its units of phase 1 leave of u, if those chosen are stored
  abbrev Leaves : Request → Plan → (u v : List ℕ) → Type 0
  Leaves r p u v = At v × Fed (cut_short p) (stores_count (plan_units p)) (disk_size start) (shown u) (finished (cluster_size start) r (shown u)) (shown v)

  prepared : (ok : GeoOk (geo img) (code img)) (u : List ℕ) → At u → Prepared (geo img) (code img) ok (mem (cluster_size img) img) img u
  prepared ok u h = record { fine = h.kept; keep = h.keep }

  -- where data of the first image are overwritten
  module _ (ok : GeoOk (geo img) (code img)) (x : ℕ) (d : List ℕ) (a : List UnitStore) (i j : ℕ) (ei : i ≡ nr 0 (x / cluster_size img / per_table img)) (ej : j ≡ x / cluster_size img % per_table img)
      (i_l : i < roots img * most_l1) (i_m : i < most_l1) (j_e : j < per_table img) (sm : Small d) (in_c : x % cluster_size img + length d ≤ cluster_size img)
      (lk : Like (cluster_size img) a (fill (dat (geo img) (code img) (mem (cluster_size img) img) i j) (x % cluster_size img) d)) (some : dat (geo img) (code img) (mem (cluster_size img) img) i j ≢ 0)
      (one : refs_of (geo img) (code img) (mem (cluster_size img) img) (dat (geo img) (code img) (mem (cluster_size img) img) i j) ≤ 1) (plain : mark (geo img) (code img) (mem (cluster_size img) img) i j ≡ 0)
      (u : List ℕ) (h : At u) where
    same : dat (geo img) (code img) (mem (cluster_size img) u) i j ≡ dat (geo img) (code img) (mem (cluster_size img) img) i j
    same = keep_dat (geo img) (code img) ok (mem (cluster_size img) img) (mem (cluster_size img) u) h.keep i j i_l j_e

    here : Spot x d sm a u h (geo img) (code img)
    here =
        record {
          like = rw (← ei, ← ej, same) lk;
          i_l = rw (← ei) i_l;
          i_m = rw (← ei) i_m;
          j_e = rw (← ej) j_e;
          in_c = in_c;
          some = rw (← ei, ← ej, same) some;
          one = rw (← ei, ← ej, same, keep_refs (geo img) (code img) ok (mem (cluster_size img) img) (mem (cluster_size img) u) h.keep (dat (geo img) (code img) (mem (cluster_size img) img) i j)) one;
          plain = rw (← ei, ← ej, keep_mark (geo img) (code img) ok (mem (cluster_size img) img) (mem (cluster_size img) u) h.keep i j i_l j_e) plain;
        }

    ready : (cs : List Bool) → Prepared (geo img) (code img) (geo_ok img f0) (mem (cluster_size img) img) img (apply_all_u (picked cs a) u)
    ready cs =
        rw (like_all (like_picked lk cs) u)
        (ready_cut (geo img) (code img) (geo_ok img f0) (mem (cluster_size img) img) img
        (fill-ready (geo img) (code img) (geo_ok img f0) (mem (cluster_size img) img) img (own backing start img k0) (λ c. unused) i j (dat (geo img) (code img) (mem (cluster_size img) img) i j) (x % cluster_size img) d i_l j_e
        (dat_in (geo img) (code img) ok (mem (cluster_size img) img) k0.sound i j i_l j_e) in_c sm (old refl some one)) cs u (prepared (geo_ok img f0) u h))

    pub in_place : (p : Plan) → stores_count (plan_units p) ≡ false → (plan_units p ≡ [] → a ≡ []) → (cs : List Bool) → Leaves (write x d) p u (apply_all_u (picked cs a) u)
    unfolding plan_units cut_short Fed apply_all_u SameDisk
    in_place (refused n) q z cs = rw (z refl, picked_nil cs) (h, λ y l. refl)
    in_place (units us) q z cs =
        let w = overwritten x d sm a u h (moved backing start img k0 u h.kept (Spot x d sm a u h) here) cs (ready cs) in
        (w.0, subst (λ (c : Bool). Fed (told (Stopped 0)) c (disk_size start) (shown u) (finished (cluster_size start) (write x d) (shown u)) (shown (apply_all_u (picked cs a) u))) (sym q) w.1)

  pub early-step : (ok : GeoOk (geo img) (code img)) (r : Request) (p : Plan) (a : List UnitStore) → Early backing img all (geo img) (code img) ok r (plan_units p) a → (plan_units p ≡ [] → a ≡ [])
      → (u : List ℕ) → At u → (cs : List Bool) → Leaves r p u (apply_all_u (picked cs a) u)
  early-step ok r p a (unseen lk hid) z u h cs =
      let e = like_all (like_picked lk cs) u in
      let w = hidden_cut (geo img) (code img) ok (mem (cluster_size img) img) img u (prepared ok u h) hid cs in
      rw e (same_at u _ h w.0.fine w.0.keep w.1, fed_old p (stores_count (plan_units p)) _ _ _ (same-shown u _ h w.0.fine w.1))
  early-step ok r p a (visible quiet ei ej i_l i_m j_e sm in_c lk some one plain) z u h cs = in_place ok _ _ a _ _ ei ej i_l i_m j_e sm in_c lk some one plain u h p quiet z cs
