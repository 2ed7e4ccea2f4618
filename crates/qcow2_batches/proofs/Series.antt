-- Every series of batches, each cut anywhere on a drive that keeps no order between two flushes. Assumes nothing.
use Prim.Native.Nat.{ℕ, ◌≤◌}
use mathlib.Core.Path.{◌≡◌, refl, sym, ap, ◌∙◌, subst}
use mathlib.Core.Logic.{inl}
use mathlib.Core.Bool.{Bool}
use mathlib.Core.List.{List, [], ◌∷◌}
use lib.ListN.{length}
use Rattle.units.specs.Units.{UnitStore, apply_all}
use Rattle.qcow2_spec.specs.Disk.{Request}
use Rattle.qcow2_spec.specs.Flush.{joined}
use Rattle.qcow2_spec.specs.Series.{ClearedFirst, Bytes}
use Rattle.qcow2_spec.proofs.Flush.{held_cut, held_end, loosely-all}
use Rattle.qcow2_spec.proofs.Series.{Good, agrees, start-good}
use Rattle.qcow2_batches.specs.Batch.{memory, batch_phases, Allowed, left_batch}
use Rattle.qcow2_batches.specs.Series.{wholly, FedAll, AllBytesOf, BatchStep, Batch, BatchesHold, BatchBytes, BatchDemand3}
use Rattle.qcow2_batches.proofs.Prefix.{whole_prefix}
use Rattle.qcow2_batches.proofs.Goods.{shows, all-good}
use Rattle.qcow2_batches.proofs.All.{batch_whole, batch_state}
use Rattle.qcow2_batches.proofs.Cuts.{Fits, first_fits, batch_held}
use Rattle.qcow2_batches.proofs.Cleared.{clears-first}

module _ (backing start : List ℕ) (bb : Bytes backing) (b : Good backing start start) where
  -- one batch
  module _ (s : List ℕ) (k : Good backing start s) (rs : List Request) (sm : AllBytesOf rs) (free : Allowed backing s rs) (a : ℕ) (picks : List Bool) where
    abbrev t : List ℕ
    t = left_batch backing s rs a picks

    fits : Fits backing start s rs bb b k sm t
    unfolding left_batch
    fits =
        let w = batch_whole backing start s rs bb b k sm free in
        held_cut (Fits backing start s rs bb b k sm) (λ (u : List ℕ). u ≡ memory backing s rs) (batch_phases backing s rs) s (first_fits backing start s rs bb b k sm)
        (batch_held backing start s rs bb b k sm (batch_state backing start s rs bb b k sm w) w.earlies) a picks

    cleared : ClearedFirst s t
    unfolding left_batch ClearedFirst
    cleared =
        held_cut (ClearedFirst s) (λ (u : List ℕ). Unit {0}) (batch_phases backing s rs) s (λ n. inl refl)
        (clears-first backing start s rs bb k (batch_state backing start s rs bb b k sm (batch_whole backing start s rs bb b k sm free))) a picks

    whole : length (joined (batch_phases backing s rs)) ≤ a → t ≡ memory backing s rs
    unfolding left_batch
    whole l =
        let w = batch_whole backing start s rs bb b k sm free in
        ap (λ (us : List UnitStore). apply_all us s) (loosely-all (batch_phases backing s rs) a picks l)
        ∙ held_end (Fits backing start s rs bb b k sm) (λ (u : List ℕ). u ≡ memory backing s rs) (batch_phases backing s rs) s
        (batch_held backing start s rs bb b k sm (batch_state backing start s rs bb b k sm w) w.earlies)

    pub batch_step : Good backing start t × BatchStep backing start s (shows backing start bb s) rs a t (shows backing start bb t)
    batch_step = (
      fits.good,
      record {
        fed = fits.fed;
        agrees = agrees backing start t fits.good b;
        cleared = cleared;
        whole = λ l. (
          whole l,
          subst (λ (u : List ℕ). FedAll wholly backing start s (shows backing start bb s) rs (shows backing start bb u)) (sym (whole l))
              (whole_prefix backing start (shows backing start bb) s rs (all-good backing start bb b s k rs sm).1),
        );
      },
    )

  -- all of them
  batches : (s : List ℕ) → Good backing start s → (bs : List Batch) → BatchBytes bs → BatchesHold backing start s (shows backing start bb s) bs
  unfolding BatchesHold BatchBytes
  batches s k [] sm = tt
  batches s k (c ∷ cs) sm = λ free picks.
      let w = batch_step s k c.asks sm.0 free c.allowance picks in
      (shows backing start bb (left_batch backing s c.asks c.allowance picks), w.1, batches (left_batch backing s c.asks c.allowance picks) w.0 cs sm.1)

pub batches3 : BatchDemand3
batches3 backing s bb by h bs sm = let k = start-good backing s by h in batches backing s bb k s k bs sm
