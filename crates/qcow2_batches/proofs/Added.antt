-- One more call of a batch, by its units: what every kind of call has in common. Assumes nothing.
use Prim.Native.Nat.{ℕ, ◌+◌, ◌*◌, ◌/◌, ◌%◌, ◌≤◌, ◌<◌}
use native.Mathlib.Nat.{div-eq_of_lt-le}
use native.Mathlib.Omega.{arith}
use mathlib.Core.Path.{◌≡◌, sym, ap, ◌∙◌, subst}
use mathlib.Core.Logic.{◌⊎◌, inl, inr, ◌≢◌}
use mathlib.Core.Bool.{true, false}
use mathlib.Core.List.{List, [], ◌∷◌, ◌++◌}
use lib.ListN.{length}
use Rattle.choice.proofs.Tests.{or-true}
use Rattle.cuts.proofs.Cell.{Small, mem}
use Rattle.cuts.proofs.Meta.{Geo, GeoOk, Codec, blk, tab, dat, mark, refs_of}
use Rattle.cuts.proofs.Run.{Store, fill, Each}
use Rattle.cuts.proofs.Call.{count_store, entry_store}
use Rattle.batches.proofs.Mixture.{Use, table, mix_new, mix_tab}
use Rattle.batches.proofs.Lists.{each_map}
use Rattle.batches.proofs.Planned.{blk_eq}
use Rattle.batches.proofs.Units.{ready-table}
use Rattle.batches.proofs.Unseen.{Hidden}
use Rattle.batches.proofs.Steps.{before, among}
use Rattle.batches.proofs.Batch.{Call, next}
use Rattle.widths.specs.Width.{span}
use Rattle.units.specs.Units.{UnitStore, entry}
use Rattle.units.specs.Units.{apply_all as apply_all_u}
use Rattle.units.specs.Plan.{stores_count}
use Rattle.qcow2_spec.specs.Header.{most_l1, cluster_size, clusters, per_table, per_block, roots}
use Rattle.qcow2_spec.specs.Counts.{set_count}
use Rattle.qcow2_spec.specs.Disk.{Request, write}
use Rattle.qcow2_spec.specs.Steps.{Extent, extents, covers}
use Rattle.qcow2_spec.proofs.Facts.{Facts, in_block, c_8, w_pos}
use Rattle.qcow2_spec.proofs.Geo.{nr, geo, code}
use Rattle.qcow2_spec.proofs.Sectors.{spot, wide}
use Rattle.qcow2_spec.proofs.Units.{Like, none, also, like_append, count_like, count_aside, like_entry}
use Rattle.qcow2_batches.proofs.Covers.{Alike, covers-first, covers-left, covers-right, or_right}
use Rattle.qcow2_batches.proofs.Sorted.{Sorted, After, sorted_like, entry_new, entry_old}
use Rattle.qcow2_batches.proofs.Firsts.{firsts_more, firsts_covers}
use Rattle.qcow2_batches.proofs.State.{Past, m0, State}

-- what the guest sees of a call's list us, whose units of phase 1 are a, before the batch's entries are stored: nothing, or bytes of the first image's data in place
pub data Early (backing img : List ℕ) (all : List Request) (g : Geo) (K : Codec) (ok : GeoOk g K) : Request → (us a : List UnitStore) → Type 0 where
  unseen : {r : Request} {us a : List UnitStore} {ra : List Store} → Like g.C a ra → Each (Hidden g K ok (m0 backing img all) img) ra → Early backing img all g K ok r us a
  visible : {x : ℕ} {d : List ℕ} {us a : List UnitStore} {i j : ℕ} → stores_count us ≡ false → i ≡ nr 0 (x / g.C / g.E) → j ≡ x / g.C % g.E → i < g.L → i < g.M → j < g.E → Small d
      → x % g.C + length d ≤ g.C → Like g.C a (fill (dat g K (mem g.C img) i j) (x % g.C) d)
      → dat g K (mem g.C img) i j ≢ 0 → refs_of g K (mem g.C img) (dat g K (mem g.C img) i j) ≤ 1 → mark g K (mem g.C img) i j ≡ 0
      → Early backing img all g K ok (write x d) us a

like_spot : {C : ℕ} {u : UnitStore} {v : Store} {us : List UnitStore} {vs : List Store} → Like C (u ∷ us) (v ∷ vs) → spot u ≡ v.w * C + v.o
like_spot (also e d h) = (e []).2.0

module _ (backing img : List ℕ) (all : List Request) (s : List ℕ) (fs : Facts s) (p0 p1 p2 p3 : List UnitStore)
    (st : State backing img all (geo s) (code s) s p0 p1 p2 p3) (ready : List Extent) (al : Alike ready (extents p1)) where
  abbrev pub x : ℕ → ℕ → ℕ
  x = mem (cluster_size s) s

  abbrev pub mi : ℕ → ℕ → ℕ
  mi = mem (cluster_size s) img

  -- a call whose units are a, b and c by phase, after which the batch is as well known as before
  pub record Added (r : Request) (us : List UnitStore) : Type 1 where
    pub a : List UnitStore
    pub b : List UnitStore
    pub c : List UnitStore
    pub sorted : Sorted s ready us a b c
    pub state : State backing img all (geo s) (code s) (apply_all_u us s) p0 (p1 ++ a) (p2 ++ b) (p3 ++ c)
    pub early : Early backing img all (geo s) (code s) st.ok r us a
    pub like : (vs : List Store) × Like (cluster_size s) us vs

  -- where cluster c's count begins
  abbrev pub cell_byte : ℕ → ℕ
  cell_byte c = blk (geo s) mi (c / per_block s) * cluster_size s + (geo s).W * (c % per_block s) / 8

  pub add : (r : Request) (us a b c : List UnitStore) (role : ℕ → Use) (dead : ℕ → Type 0) (ra la fa : List Store) → Sorted s ready us a b c
      → Like (cluster_size s) a ra → Like (cluster_size s) b la → Like (cluster_size s) c fa
      → Call (geo s) (code s) st.ok (m0 backing img all) img st.begun (Past backing img all (geo s) (code s)) st.role role st.dead dead ra la fa s (apply_all_u us s)
      → ((t i : ℕ) → t < clusters s → role t ≡ table i → (st.role t ≡ table i) ⊎ ((y : ℕ) → y < cluster_size s → covers (extents a) (t * cluster_size s + y) ≡ true))
      → ((k : ℕ) → k < clusters s → dead k → st.dead k ⊎ (covers (extents c) (cell_byte k) ≡ true))
      → Early backing img all (geo s) (code s) st.ok r us a → Added r us
  add r us a b c role dead ra la fa sorts ha hb hc call tables lowers seen =
      record {
        a = a;
        b = b;
        c = c;
        sorted = sorts;
        state = record {
          ok = st.ok;
          begun = st.begun;
          role = role;
          dead = dead;
          r = st.r ++ ra;
          l = st.l ++ la;
          f = st.f ++ fa;
          batch = next (geo s) (code s) st.ok (m0 backing img all) img st.begun (Past backing img all (geo s) (code s)) st.role role st.dead dead st.r st.l st.f ra la fa s (apply_all_u us s) st.batch call;
          firsts = firsts_more st.firsts ha;
          seconds = like_append st.seconds hb;
          thirds = like_append st.thirds hc;
          filled = λ t i y n e h. fill_in t i y n h (tables t i n e);
          lowered = λ k n d. fall_in k n (lowers k n d);
        };
        early = seen;
        like = sorted_like sorts ha hb hc;
      }
    where
      fill_in : (t i y : ℕ) → t < clusters s → y < cluster_size s → (st.role t ≡ table i) ⊎ ((z : ℕ) → z < cluster_size s → covers (extents a) (t * cluster_size s + z) ≡ true) → covers (extents (p1 ++ a)) (t * cluster_size s + y) ≡ true
      fill_in t i y n h (inl e) = covers-left p1 a _ (st.filled t i y n e h)
      fill_in t i y n h (inr e) = covers-right p1 a _ (e y h)

      fall_in : (k : ℕ) → k < clusters s → st.dead k ⊎ (covers (extents c) (cell_byte k) ≡ true) → covers (extents (p3 ++ c)) (cell_byte k) ≡ true
      fall_in k n (inl d) = covers-left p3 c _ (st.lowered k n d)
      fall_in k n (inr e) = covers-right p3 c _ e

  -- ---- counts: the blocks are the first image's
  pub count_same : (c v : ℕ) → c < clusters s → count_store (geo s) x c v ≡ count_store (geo s) mi c v
  unfolding count_store
  count_same c v l =
      ap (λ (w : ℕ). count_at w) (blk_eq (geo s) x mi (c / per_block s) (st.batch.planned.mix.rts (c / per_block s) (omega (arith, st.ok.rtfit, in_block s fs c l))))
    where
      count_at : ℕ → Store
      count_at w = record { w = w; o = (count_store (geo s) x c v).o; bs = (count_store (geo s) x c v).bs }

  pub count_likes : (c v : ℕ) → c < clusters s → Like (cluster_size s) (set_count s c v ∷ []) (count_store (geo s) mi c v ∷ [])
  count_likes c v l =
      subst (λ (u : Store). Like (cluster_size s) (set_count s c v ∷ []) (u ∷ [])) (count_same c v l) (also (λ t. count_like s fs c v l t) (count_aside s fs st.batch.planned.fine.sound c v l) none)

  -- a count's unit covers the byte where the count begins
  count-wide : (c v : ℕ) → 0 < wide (set_count s c v)
  unfolding set_count wide span
  count-wide c v = omega (arith, w_pos s fs)

  pub count-covers : (c v : ℕ) → c < clusters s → covers (extents (set_count s c v ∷ [])) (cell_byte c) ≡ true
  unfolding count_store
  count-covers c v l = subst (λ (z : ℕ). covers (extents (set_count s c v ∷ [])) z ≡ true) (like_spot (count_likes c v l)) (covers-first (set_count s c v) [] (count-wide c v))

  -- ---- an entry: in a table that is new in the batch, or of the first image
  pub record Entered (i j a v w : ℕ) (later : List Extent) (y : Dec (tab (geo s) (code s) mi i ≡ 0)) : Type 0 where
    pub e : List UnitStore
    pub f : List UnitStore
    pub sorted : Sorted s later (entry a v ∷ []) e f []
    pub firsts : Like (cluster_size s) e (before y (entry_store (geo s) (tab (geo s) (code s) x i) j w))
    pub seconds : Like (cluster_size s) f (among y (entry_store (geo s) (tab (geo s) (code s) x i) j w))

  module _ (i j a v w : ℕ) (i_l : i < roots s * most_l1) (j_e : j < per_table s) (some : tab (geo s) (code s) x i ≢ 0) (at : a ≡ tab (geo s) (code s) x i * cluster_size s + 8 * j) (is : v ≡ w) where
    one : Like (cluster_size s) (entry a v ∷ []) (entry_store (geo s) (tab (geo s) (code s) x i) j w ∷ [])
    one = like_entry s fs a (tab (geo s) (code s) x i) j v w at j_e is some

    -- a byte of the entry lies in its table
    in_table : (z : ℕ) → a ≤ z → z < a + 8 → z / cluster_size s ≡ tab (geo s) (code s) x i
    in_table z p q = div-eq_of_lt-le (cluster_size s) (omega (arith, at, c_8 s fs)) (omega (arith, at, c_8 s fs))

    pub entered : (own : List UnitStore) → ((z : ℕ) → covers (extents own) z ≡ true → z / cluster_size s ≢ tab (geo s) (code s) x i) → (later : List Extent) → After ready own later
        → (y : Dec (tab (geo s) (code s) mi i ≡ 0)) → Entered i j a v w later y
    unfolding tab
    entered own away later h (yes z) =
        record { e = entry a v ∷ []; f = []; sorted = entry_new s later a v (h a ∙ or_right (covers (extents own) a) _ (al a ∙ new)); firsts = one; seconds = none }
      where
        used : st.role (tab (geo s) (code s) x i) ≡ table i
        used = (mix_new (geo s) (code s) st.ok mi x st.role st.begun.sound st.batch.planned.mix i i_l z some).used

        new : covers (extents p1) a ≡ true
        new = rw at (st.filled (tab (geo s) (code s) x i) i (8 * j) (st.ok.laws.in1 _ (st.batch.planned.fine.sound.goods1 i i_l)) used (omega (arith, c_8 s fs)))
    entered own away later h (no d) =
        record { e = []; f = entry a v ∷ []; sorted = entry_old s later a v (λ z p q t. elsewhere z p q (or-true (covers (extents own) z) _ (sym (h z) ∙ t))); firsts = none; seconds = one }
      where
        same : tab (geo s) (code s) x i ≡ tab (geo s) (code s) mi i
        same = (mix_tab (geo s) (code s) st.ok mi x st.role st.begun.sound st.batch.planned.mix i i_l d).1

        elsewhere : (z : ℕ) → a ≤ z → z < a + 8 → (covers (extents own) z ≡ true) ⊎ (covers ready z ≡ true) → ⊥
        elsewhere z p q (inl t) = away z t (in_table z p q)
        elsewhere z p q (inr t) =
            firsts_covers (λ (k : ℕ). tab (geo s) (code s) mi i ≢ k) st.firsts
            (each_map (λ u k. ready-table (geo s) (code s) st.ok (m0 backing img all) img st.begun i i_l d u k) st.batch.planned.ready) z (sym (al z) ∙ t) (sym same ∙ sym (in_table z p q))
