-- An entry that is stored: what the memory is after it, and what is left of a mixture of tables. Assumes nothing.
use mathlib.Core.Path.{◌≡◌, sym, ◌∙◌}
use mathlib.Core.Logic.{◌⊎◌, inl, inr, ◌≢◌}
use mathlib.Core.List.{List}
use Prim.Native.Nat.{ℕ, ◌+◌, ◌*◌, ◌%◌, ◌^◌, ◌≤◌, ◌<◌}
use native.Mathlib.Nat.{mod-lt}
use native.Mathlib.Decide.{ℕ_discrete}
use native.Mathlib.Omega.{arith}
use lib.ListN.{length}
use lib.Seq.{sets}
use Rattle.cuts.proofs.Cell.{enc, length-enc, small-enc, Stored, mem}
use Rattle.cuts.proofs.Meta.{Geo, GeoOk, Codec, row, col, Has, l1, l2, tab, refs_of, Sound, Keep, keep_tab, row-N}
use Rattle.cuts.proofs.Step.{tab_in, pair_or, entry_rt, entry_l1, entry_tab, entry_l2, entry_new, link_rt, link_l1, link_l1_new, link_tab, link_tab_new, link_l2}
use Rattle.cuts.proofs.Call.{Ok, next_small, next-stored}
use Rattle.batches.proofs.Mixture.{Use, table, Linked, Put, Old, Mixture}

-- the number v, stored in 8 bytes at o of cluster w
pub record Laid (g : Geo) (s : List ℕ) (w o v : ℕ) : Type 0 where
  pub in_image : w < g.N
  pub in_cluster : o + length (enc 8 v) ≤ g.C
  pub small : (a y : ℕ) → mem g.C (sets s (w * g.C + o) (enc 8 v)) a y < 256
  pub stored : Stored g.C (mem g.C s) (mem g.C (sets s (w * g.C + o) (enc 8 v))) w o (enc 8 v)

module _ (g : Geo) (K : Codec) (ok : GeoOk g K) (m0 : ℕ → ℕ → ℕ) (s : List ℕ) (k : Ok g K m0 s) where
  laid : (w o v : ℕ) → w < g.N → o + 8 ≤ g.C → Laid g s w o v
  laid w o v n h =
      let f : o + length (enc 8 v) ≤ g.C = omega (arith, length-enc 8 v) in
      record { in_image = n; in_cluster = f; small = next_small g K ok m0 s k w o (enc 8 v) n f (small-enc 8 v); stored = next-stored g K ok m0 s k w o (enc 8 v) n f (small-enc 8 v) }

  pub laid_entry : (i j v : ℕ) → i < g.L → j < g.E → Laid g s (tab g K (mem g.C s) i) (8 * j) v
  laid_entry i j v l n = laid (tab g K (mem g.C s) i) (8 * j) v (tab_in g K ok (mem g.C s) k.sound i l) (omega (arith, ok.c8))

  pub laid_link : (i v : ℕ) → i < g.L → Has g i → Laid g s (row g i) (8 * col g i) v
  laid_link i v l h = laid (row g i) (8 * col g i) v (row-N g K ok i l h) (omega (arith, ok.c8, mod-lt (i % g.M) ok.epos))

module _ (g : Geo) (K : Codec) (ok : GeoOk g K) (m : ℕ → ℕ → ℕ) (role : ℕ → Use) (x x' : ℕ → ℕ → ℕ) (sx : Sound g K x) (w : Mixture g K m role x) where
  -- the tables stay
  pub keep_mixture : Keep g K x x' → Mixture g K m role x'
  keep_mixture e =
      record {
        small = e.small;
        rts = λ a h. e.rts a h ∙ w.rts a h;
        l1s = λ a h. rw (e.l1s a h) (w.l1s a h);
        l2s = λ a b h n d. let t : tab g K x' a ≡ tab g K x a = keep_tab g K ok x x' e a h in
            let d' : tab g K x a ≢ 0 = λ z. d (t ∙ z) in
            rw (t, e.l2s a b h n d') (w.l2s a b h n d');
      }

  module _ (sm : (a y : ℕ) → x' a y < 256) where
    -- one L2 entry
    pub entry_mixture : (i j v : ℕ) (l : i < g.L) (k : j < g.E) (some : tab g K x i ≢ 0) (alone : refs_of g K x (tab g K x i) ≤ 1) (lv : v < 256 ^ 8) → (q : Put g K m role i j v)
        → (st : Stored g.C x x' (tab g K x i) (8 * j) (enc 8 v)) → Mixture g K m role x'
    entry_mixture i j v l k some alone lv q st =
        record {
          small = sm;
          rts = λ a h. entry_rt g K ok x sx x' sm i j v l k some alone q.good lv st a h ∙ w.rts a h;
          l1s = λ a h. rw (entry_l1 g K ok x sx x' sm i j v l k some alone q.good lv st a h) (w.l1s a h);
          l2s = λ a b h n d. entries a b h n (λ z. d (tab_same a h ∙ z)) (pair_or a b i j);
        }
      where
        tab_same : (a : ℕ) → a < g.L → tab g K x' a ≡ tab g K x a
        tab_same = entry_tab g K ok x sx x' sm i j v l k some alone q.good lv st

        entries : (a b : ℕ) → a < g.L → b < g.E → tab g K x a ≢ 0 → ((a ≡ i) × (b ≡ j)) ⊎ ((a ≢ i) ⊎ (b ≢ j))
            → Old g K m role a b (l2 g x' (tab g K x' a) b) ⊎ Put g K m role a b (l2 g x' (tab g K x' a) b)
        entries a b h n d (inl e) = rw (e.0, e.1, tab_same i l, entry_new g K ok x sx x' sm i j v l k some alone q.good lv st) (inr q)
        entries a b h n d (inr e) = rw (tab_same a h, entry_l2 g K ok x sx x' sm i j v l k some alone q.good lv st a b h n e d) (w.l2s a b h n d)

    -- one L1 entry; the entries of its table are new ones
    pub link_mixture : (i t : ℕ) (l : i < g.L) (hi : Has g i) (t_n : t < g.N) → t ≢ 0 → tab g K m i ≡ 0 → i < g.M → refs_of g K m t ≡ 0 → role t ≡ table i
        → ((b : ℕ) → b < g.E → Put g K m role i b (l2 g x' t b))
        → (st : Stored g.C x x' (row g i) (8 * col g i) (enc 8 (K.mk t))) → Mixture g K m role x'
    link_mixture i t l hi t_n t0 z act free used filled st =
        record {
          small = sm;
          rts = λ a h. link_rt g K ok x sx x' sm i t l hi t_n st a h ∙ w.rts a h;
          l1s = λ a h. first a h (ℕ_discrete a i);
          l2s = λ a b h n d. second a b h n d (ℕ_discrete a i);
        }
      where
        c : K.clus (K.mk t) ≡ t
        c = ok.laws.mk_clus t t_n

        value : Linked g K m role i (K.mk t)
        value =
            record {
              active = act;
              before = z;
              some = λ e. t0 (sym c ∙ e);
              good = ok.laws.mk_good1 t t_n t0;
              own = ok.laws.mk_own t t_n;
              free = rw c free;
              used = rw c used;
            }

        first : (a : ℕ) → a < g.L → Dec (a ≡ i) → (l1 g x' a ≡ l1 g m a) ⊎ Linked g K m role a (l1 g x' a)
        first a h (yes e) = rw (e, link_l1_new g K ok x sx x' sm i t l hi t_n st) (inr value)
        first a h (no d) = rw (link_l1 g K ok x sx x' sm i t l hi t_n st a h d) (w.l1s a h)

        second : (a b : ℕ) → a < g.L → b < g.E → tab g K x' a ≢ 0 → Dec (a ≡ i)
            → Old g K m role a b (l2 g x' (tab g K x' a) b) ⊎ Put g K m role a b (l2 g x' (tab g K x' a) b)
        second a b h n d (yes e) = rw (e, link_tab_new g K ok x sx x' sm i t l hi t_n st) (inr (filled b n))
        second a b h n d (no f) =
            let u : tab g K x' a ≡ tab g K x a = link_tab g K ok x sx x' sm i t l hi t_n st a h f in
            rw (u, link_l2 g K ok x sx x' sm i t l hi t_n st a b h n) (w.l2s a b h n (λ e. d (u ∙ e)))
