-- A call of a batch: data are overwritten in place. Assumes nothing.
use mathlib.Core.Path.{◌≡◌, ap}
use mathlib.Core.Logic.{◌⊎◌, inl, inr, ◌≢◌}
use mathlib.Core.List.{List, []}
use Prim.Native.Nat.{ℕ, ◌+◌, ◌*◌, ◌≤◌, ◌<◌}
use native.Mathlib.Decide.{ℕ_discrete}
use lib.ListN.{length}
use lib.Seq.{sets}
use Rattle.cuts.proofs.Cell.{Small, Stored, mem}
use Rattle.cuts.proofs.Meta.{Geo, GeoOk, Codec, cnt, dat, mark, refs_of, Keep}
use Rattle.cuts.proofs.Step.{dat_in}
use Rattle.cuts.proofs.Run.{Store, apply_all, fill, apply-fill, Each, none}
use Rattle.cuts.proofs.Call.{Ok, next-stored}
use Rattle.batches.proofs.Mixture.{Use}
use Rattle.batches.proofs.Prepared.{data_set}
use Rattle.batches.proofs.Planned.{Planned}
use Rattle.batches.proofs.Places.{Home, old, new, home, place-step}
use Rattle.batches.proofs.Known.{Known, knows_place}
use Rattle.batches.proofs.Unseen.{Hidden}
use Rattle.batches.proofs.Batch.{Visible, Call, hidden-fill, marked-fill}

module _ (g : Geo) (K : Codec) (ok : GeoOk g K) (m0 : ℕ → ℕ → ℕ) (img : List ℕ) (k0 : Ok g K m0 img) (past : (ℕ → ℕ → ℕ) → Type 0) (role : ℕ → Use) (dead : ℕ → Type 0)
    (r l f : List Store) (s : List ℕ) (p : Planned g K ok m0 img k0 role dead r l f s) (i j o : ℕ) (bs : List ℕ) (i_l : i < g.L) (j_e : j < g.E) (in_c : o + length bs ≤ g.C) (sm : Small bs)
    (d : dat g K (mem g.C s) i j ≢ 0) (one : refs_of g K (mem g.C s) (dat g K (mem g.C s) i j) ≤ 1)
    (now : past (mem g.C (apply_all g.C (fill (dat g K (mem g.C s) i j) o bs) s))) where
  abbrev m : ℕ → ℕ → ℕ
  m = mem g.C img

  abbrev x : ℕ → ℕ → ℕ
  x = mem g.C s

  abbrev c : ℕ
  c = dat g K x i j

  abbrev s' : List ℕ
  s' = apply_all g.C (fill c o bs) s

  c_n : c < g.N
  c_n = dat_in g K ok x p.fine.sound i j i_l j_e

  is : s' ≡ sets s (c * g.C + o) bs
  is = apply-fill g.C c o bs s

  left : Ok g K m0 (sets s (c * g.C + o) bs) × Keep g K x (mem g.C (sets s (c * g.C + o) bs)) × ((a : ℕ) → a < g.N → cnt g (mem g.C (sets s (c * g.C + o) bs)) a ≡ cnt g x a)
  left = data_set g K ok m0 img s p.fine i j o bs i_l j_e in_c sm d one

  stored : Stored g.C x (mem g.C s') c o bs
  stored = rw is (next-stored g K ok m0 s p.fine c o bs c_n in_c sm)

  pub still_known : (a b v : ℕ) → a < g.L → b < g.E → K.clus v < g.N → Known g K past x dead a b v → Known g K past (mem g.C s') dead a b v
  still_known = knows_place g K ok past x (mem g.C s') p.fine.sound dead (rw is left.1) now i j i_l j_e d one stored.cluster (rw is left.2)

  pub seen : Each (Hidden g K ok m0 img) (fill c o bs) ⊎ Visible g K ok m0 img k0 past i j o bs (fill c o bs)
  seen = go (home g K ok m0 img k0 role x p.mix i j i_l j_e d one)
    where
      old_place : c ≡ dat g K m i j → dat g K m i j ≢ 0 → refs_of g K m (dat g K m i j) ≤ 1 → Dec (mark g K m i j ≡ 0) → Each (Hidden g K ok m0 img) (fill c o bs) ⊎ Visible g K ok m0 img k0 past i j o bs (fill c o bs)
      old_place e d₀ one₀ (yes z) =
          inr (record { is = ap (λ (k : ℕ). fill k o bs) e; i_l = i_l; j_e = j_e; in_c = in_c; small = sm; some = d₀; one = one₀; plain = z })
      old_place e d₀ one₀ (no z) = inl (rw e (marked-fill g K ok m0 img k0 past i j o bs i_l j_e in_c sm d₀ one₀ z))

      go : Home g K ok m0 img k0 role i j c → Each (Hidden g K ok m0 img) (fill c o bs) ⊎ Visible g K ok m0 img k0 past i j o bs (fill c o bs)
      go (old e d₀ one₀) = old_place e d₀ one₀ (ℕ_discrete (mark g K m i j) 0)
      go (new z e) = inl (hidden-fill g K ok m0 img k0 past c o bs c_n in_c sm z)

  shown_or : Each (Hidden g K ok m0 img) (fill c o bs) ⊎ Visible g K ok m0 img k0 past i j o bs (fill c o bs)
      → Each (Hidden g K ok m0 img) (fill c o bs) ⊎ ((a b e : ℕ) × (ds : List ℕ) × Visible g K ok m0 img k0 past a b e ds (fill c o bs))
  shown_or (inl h) = inl h
  shown_or (inr h) = inr (i, j, o, bs, h)

  pub overwrite : Call g K ok m0 img k0 past role role dead dead (fill c o bs) [] [] s s'
  overwrite =
      record {
        step = place-step g K ok m0 img k0 role dead r l f s p i j o bs i_l j_e in_c sm d one;
        knows = still_known;
        written = none;
        early = shown_or seen;
        linked = λ t a n e. inl e;
      }
