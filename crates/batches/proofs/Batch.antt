-- A batch, call by call: its units by phase, what is known of the values of entries, and what the guest sees before the entries. Assumes nothing.
use mathlib.Core.Path.{◌≡◌, refl, sym, ◌∙◌}
use mathlib.Core.Logic.{◌⊎◌, inl, inr, ◌≢◌}
use mathlib.Core.List.{List, [], ◌∷◌, ◌++◌}
use Prim.Native.Nat.{ℕ, zero, suc, ◌+◌, ◌≤◌, ◌<◌}
use native.Mathlib.Omega.{arith}
use lib.ListN.{length}
use Rattle.cuts.proofs.Cell.{Small, mem}
use Rattle.cuts.proofs.Meta.{Geo, GeoOk, Codec, l2, tab, dat, mark, refs_of}
use Rattle.cuts.proofs.Run.{Store, apply_all, fill, Each, none, also, each_append}
use Rattle.cuts.proofs.Write.{small_one}
use Rattle.cuts.proofs.Call.{Ok}
use Rattle.batches.proofs.Mixture.{Use, unused, table, used_table}
use Rattle.batches.proofs.Lists.{each_map, empty}
use Rattle.batches.proofs.Planned.{Planned, Settled}
use Rattle.batches.proofs.Extend.{grow_put, Step, extend, settle}
use Rattle.batches.proofs.Known.{Known, known_now}
use Rattle.batches.proofs.Unseen.{Hidden, counted, unnamed, marked}
use Rattle.batches.proofs.Shown.{Written, writes, joins}

module _ (g : Geo) (K : Codec) (ok : GeoOk g K) (m0 : ℕ → ℕ → ℕ) (img : List ℕ) (k0 : Ok g K m0 img) (past : (ℕ → ℕ → ℕ) → Type 0) where
  abbrev m : ℕ → ℕ → ℕ
  m = mem g.C img

  -- data of the first image are overwritten in place, without a mark over them
  pub record Visible (i j o : ℕ) (bs : List ℕ) (us : List Store) : Type 0 where
    pub is : us ≡ fill (dat g K m i j) o bs
    pub i_l : i < g.L
    pub j_e : j < g.E
    pub in_c : o + length bs ≤ g.C
    pub small : Small bs
    pub some : dat g K m i j ≢ 0
    pub one : refs_of g K m (dat g K m i j) ≤ 1
    pub plain : mark g K m i j ≡ 0

  -- one call more
  pub record Call (role role' : ℕ → Use) (dead dead' : ℕ → Type 0) (r l f : List Store) (s s' : List ℕ) : Type 0 where
    pub step : Step g K ok m0 img k0 role role' dead dead' r l f s s'
    pub knows : (i j v : ℕ) → i < g.L → j < g.E → K.clus v < g.N → Known g K past (mem g.C s) dead i j v → Known g K past (mem g.C s') dead' i j v
    pub written : Each (Written g K ok m0 img k0 role' (Known g K past (mem g.C s') dead')) l
    pub early : Each (Hidden g K ok m0 img) r ⊎ ((i j o : ℕ) × (bs : List ℕ) × Visible i j o bs r)
    pub linked : (t i : ℕ) → t < g.N → role' t ≡ table i → (role t ≡ table i) ⊎ (tab g K (mem g.C s') i ≡ t)

  -- the calls so far
  pub record Batch (role : ℕ → Use) (dead : ℕ → Type 0) (r l f : List Store) (s : List ℕ) : Type 0 where
    pub planned : Planned g K ok m0 img k0 role dead r l f s
    pub settled : Settled g K ok m0 img k0 role s
    pub begun : (i j : ℕ) → i < g.L → j < g.E → tab g K m i ≢ 0 → Known g K past (mem g.C s) dead i j (l2 g m (tab g K m i) j)
    pub written : Each (Written g K ok m0 img k0 role (Known g K past (mem g.C s) dead)) l

  module _ (role role' : ℕ → Use) (dead dead' : ℕ → Type 0) (r l f r' l' f' : List Store) (s s' : List ℕ) (b : Batch role dead r l f s) (c : Call role role' dead dead' r' l' f' s s') where
    carry : (u : Store) → Written g K ok m0 img k0 role (Known g K past (mem g.C s) dead) u → Written g K ok m0 img k0 role' (Known g K past (mem g.C s') dead') u
    carry u (writes i j v l n lv t one q w) =
        writes i j v l n lv t one (grow_put g K m role role' c.step.grows i j v q) (c.knows i j v l n (ok.laws.in2 v q.good) w)
    carry u (joins i t l hi t_n t0 z act free used) = joins i t l hi t_n t0 z act free (c.step.grows t (λ e. used_table i (sym used ∙ e)) ∙ used)

    pub next : Batch role' dead' (r ++ r') (l ++ l') (f ++ f') s'
    next =
        record {
          planned = extend g K ok m0 img k0 role role' dead dead' r l f r' l' f' s s' b.planned c.step;
          settled = settle g K ok m0 img k0 role role' dead dead' r l f r' l' f' s s' b.planned b.settled c.step c.linked;
          begun = λ i j i_l j_e d. c.knows i j _ i_l j_e (ok.laws.in2 _ (k0.sound.goods2 i j i_l j_e d)) (b.begun i j i_l j_e d);
          written = each_append (each_map carry b.written) c.written;
        }

  -- ---- lists that the guest does not see
  pub hidden-fill : (w o : ℕ) (bs : List ℕ) → w < g.N → o + length bs ≤ g.C → Small bs → refs_of g K m w ≡ 0 → Each (Hidden g K ok m0 img) (fill w o bs)
  unfolding fill
  hidden-fill w o [] h n sm z = none
  hidden-fill w o (b ∷ bs) h n sm z = also (unnamed w o (b ∷ []) h (omega arith) (small_one (sm zero)) z) (hidden-fill w (suc o) bs h (omega arith) (λ y. sm (suc y)) z)

  pub marked-fill : (i j o : ℕ) (bs : List ℕ) → i < g.L → j < g.E → o + length bs ≤ g.C → Small bs → dat g K m i j ≢ 0 → refs_of g K m (dat g K m i j) ≤ 1 → mark g K m i j ≢ 0
      → Each (Hidden g K ok m0 img) (fill (dat g K m i j) o bs)
  unfolding fill
  marked-fill i j o [] l n h sm d one f = none
  marked-fill i j o (b ∷ bs) l n h sm d one f =
      also (marked i j o (b ∷ []) l n (omega arith) (small_one (sm zero)) d one f) (marked-fill i j (suc o) bs l n (omega arith) (λ y. sm (suc y)) d one f)

  -- ---- no call yet
  pub begin : past m → Batch (λ c. unused) (λ c. ⊥) [] [] [] img
  unfolding apply_all
  begin now =
      record {
        planned = record {
          fine = k0;
          both = [];
          every = [];
          first = empty;
          second = empty;
          is = refl;
          mix = record {
            small = k0.sound.bytes;
            rts = λ a h. refl;
            l1s = λ i h. inl refl;
            l2s = λ i j h n d. inl (record { some = d; entry = refl });
          };
          ready = none;
          linking = none;
          falling = none;
          free = λ c h d. absurd (d refl);
          raise = λ c h d. absurd (d refl);
          bare = λ c h d. absurd (d refl);
          tables = λ t i h e. absurd (used_table i (sym e));
          order = λ c h. refl;
          counted = λ c h. inr (inr (refl, refl));
        };
        settled = λ t i h e. absurd (used_table i (sym e));
        begun = λ i j i_l j_e d. known_now g K past m (λ c. ⊥) i j d now;
        written = none;
      }
