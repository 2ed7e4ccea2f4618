-- A call of a batch: idle bytes of the header are stored, as the autoclear field is cleared. Assumes nothing.
use mathlib.Core.Path.{refl}
use mathlib.Core.Logic.{inl, ◌≢◌}
use mathlib.Core.List.{List, [], ◌∷◌}
use Prim.Native.Nat.{ℕ, ◌+◌, ◌≤◌, ◌<◌}
use native.Mathlib.Omega.{arith}
use lib.ListN.{length}
use Rattle.cuts.proofs.Cell.{Small, Stored, mem}
use Rattle.cuts.proofs.Meta.{Geo, GeoOk, Codec, blk, blk_0}
use Rattle.cuts.proofs.Step.{Quiet, fix_one}
use Rattle.cuts.proofs.Run.{Store, apply, apply_all, none, also}
use Rattle.cuts.proofs.Call.{Ok, next-stored}
use Rattle.cuts.proofs.Idle.{idle_store}
use Rattle.batches.proofs.Mixture.{Use}
use Rattle.batches.proofs.Prepared.{idles}
use Rattle.batches.proofs.Units.{ready_fit}
use Rattle.batches.proofs.Order.{passes}
use Rattle.batches.proofs.Planned.{Planned}
use Rattle.batches.proofs.Places.{quiet_step}
use Rattle.batches.proofs.Known.{knows_still}
use Rattle.batches.proofs.Unseen.{unread}
use Rattle.batches.proofs.Batch.{Call}

module _ (g : Geo) (K : Codec) (ok : GeoOk g K) (m0 : ℕ → ℕ → ℕ) (img : List ℕ) (k0 : Ok g K m0 img) (past : (ℕ → ℕ → ℕ) → Type 0) (role : ℕ → Use) (dead : ℕ → Type 0)
    (r l f : List Store) (s : List ℕ) (p : Planned g K ok m0 img k0 role dead r l f s) (o : ℕ) (bs : List ℕ) (from : g.idle ≤ o) (to : o + length bs ≤ g.busy) (sm : Small bs) where
  abbrev u : Store
  u = record { w = 0; o = o; bs = λ y. bs }

  -- the header is no block
  header_aside : (b : ℕ) → b < g.B → blk g (mem g.C img) b ≢ 0
  header_aside b h = blk_0 g (mem g.C img) _ b h (fix_one g K ok (mem g.C img) k0.sound _ (k0.sound.blkin b h)) refl

  left : Ok g K m0 (apply g.C u s) × Quiet g K (mem g.C s) (mem g.C (apply g.C u s))
  unfolding apply
  left = idle_store g K ok m0 s p.fine o bs from to sm

  stored : Stored g.C (mem g.C s) (mem g.C (apply g.C u s)) 0 o bs
  unfolding apply
  stored = next-stored g K ok m0 s p.fine 0 o bs ok.npos (omega (arith, ok.idle_in)) sm

  pub clears : Call g K ok m0 img k0 past role role dead dead (record { w = 0; o = o; bs = λ y. bs } ∷ []) [] [] s (apply g.C (record { w = 0; o = o; bs = λ y. bs }) s)
  unfolding apply_all
  clears =
      record {
        step = quiet_step g K ok m0 img k0 role dead r l f s p (u ∷ []) _ (also (idles o bs from to sm) none)
            (also (passes u (ready_fit g K ok m0 img k0 u (idles o bs from to sm)) header_aside) none) refl left.0 left.1.keep left.1.cnts;
        knows = λ i j v i_l j_e v_n k. knows_still g K ok past (mem g.C s) (mem g.C (apply g.C u s)) p.fine.sound dead left.1.keep left.1.cnts i j v i_l j_e v_n
            (λ q d y h. stored.cluster (K.clus v) y h d) k;
        written = none;
        early = inl (also (unread o bs from to sm) none);
        linked = λ t a n e. inl e;
      }
