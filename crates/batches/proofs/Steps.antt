-- What the calls of a batch are made of: a cluster is taken, an entry is stored, a count falls. Assumes nothing.
use mathlib.Core.Path.{◌≡◌, refl, sym, ap, ◌∙◌}
use mathlib.Core.Logic.{◌⊎◌, inl, inr, ◌≢◌}
use mathlib.Core.List.{List, [], ◌∷◌}
use Prim.Native.Nat.{ℕ, ◌+◌, ◌*◌, ◌^◌, ◌≤◌, ◌<◌}
use native.Mathlib.Decide.{ℕ_discrete}
use native.Mathlib.Omega.{arith}
use lib.Seq.{sets}
use Rattle.cuts.proofs.Refs.{fix_tab, hit, hit_other, hit_zero, free_dat}
use Rattle.cuts.proofs.Cell.{enc, small-enc, mem}
use Rattle.cuts.proofs.Meta.{Geo, GeoOk, Codec, fix_blk, blk_0, blk, cnt, fix, tab, dat, refs_of, keep_tab, keep_refs}
use Rattle.cuts.proofs.Step.{fix_one, free-not-0, entry_tab, entry_cnt, entry_refs}
use Rattle.cuts.proofs.Run.{Store, apply, apply_all, Each, none, also}
use Rattle.cuts.proofs.Call.{Ok, count_store, entry_store, CountSet, then_count, one-fits}
use Rattle.batches.proofs.Mixture.{mix_free, Use, unused, table, kind, used_table, Place, Put}
use Rattle.batches.proofs.Prepared.{Ready, counts, spare, Raises, here}
use Rattle.batches.proofs.Joined.{Linking, enters}
use Rattle.batches.proofs.Lists.{Fit, Merge}
use Rattle.batches.proofs.Stores.{Laid, laid_entry, keep_mixture, entry_mixture}
use Rattle.batches.proofs.Planned.{Tabled, keep_tabled, Planned, lowers, blk_eq}
use Rattle.batches.proofs.Order.{cell_at, Cell, Touch, sets as sets_count, passes, aside_cell}
use Rattle.batches.proofs.Extend.{Step, Grows, grow_mix, merge-all-left, merge-all-right}
use Rattle.batches.proofs.Places.{one_table}

unfoldable either : {A : Type 0} → Dec A → Use → Use → Use
either (yes a) u v = u
either (no b) u v = v

-- an entry of a new table is stored before the entries, of a table of the first image among them
abbrev pub before : {A : Type 0} → Dec A → Store → List Store
before (yes a) u = u ∷ []
before (no b) u = []

abbrev pub among : {A : Type 0} → Dec A → Store → List Store
among (yes a) u = []
among (no b) u = u ∷ []

-- cluster c gets the use u
unfoldable pub assign : (ℕ → Use) → (c : ℕ) → Use → ℕ → Use
unfolding either
assign role c u x = either (ℕ_discrete x c) u (role x)

module _ (role : ℕ → Use) (c : ℕ) (u : Use) where
  pub assign_same : assign role c u c ≡ u
  unfolding assign either
  assign_same = go (ℕ_discrete c c)
    where
      go : (d : Dec (c ≡ c)) → either d u (role c) ≡ u
      go (yes e) = refl
      go (no n) = absurd (n refl)

  pub assign_other : (x : ℕ) → x ≢ c → assign role c u x ≡ role x
  unfolding assign either
  assign_other x n = go (ℕ_discrete x c)
    where
      go : (d : Dec (x ≡ c)) → either d u (role x) ≡ role x
      go (yes e) = absurd (n e)
      go (no d) = refl

  -- a cluster without a use gets one
  pub assign_grows : role c ≡ unused → Grows role (assign role c u)
  assign_grows e x d = assign_other x (λ f. d (ap role f ∙ e))

module _ (g : Geo) (K : Codec) (ok : GeoOk g K) (m0 : ℕ → ℕ → ℕ) (img : List ℕ) (k0 : Ok g K m0 img) (role : ℕ → Use) (dead : ℕ → Type 0)
    (r l f : List Store) (s : List ℕ) (p : Planned g K ok m0 img k0 role dead r l f s) where
  abbrev m : ℕ → ℕ → ℕ
  m = mem g.C img

  abbrev x : ℕ → ℕ → ℕ
  x = mem g.C s

  blocks : (b : ℕ) → b < g.B → blk g x b ≡ blk g m b
  blocks b h = blk_eq g x m b (p.mix.rts b (omega (arith, ok.rtfit)))

  -- a cluster whose count is 0, and which the batch has not lowered, had none in the first image
  pub fresh : (c : ℕ) → c < g.N → cnt g x c ≡ 0 → (dead c → ⊥) → (role c ≡ unused) × (refs_of g K m c ≡ 0) × (cnt g m c ≡ 0)
  fresh c h z n = go (p.counted c h)
    where
      go : dead c ⊎ (((role c ≢ unused) × (1 ≤ cnt g x c)) ⊎ ((role c ≡ unused) × (cnt g x c ≡ cnt g m c))) → (role c ≡ unused) × (refs_of g K m c ≡ 0) × (cnt g m c ≡ 0)
      go (inl d) = absurd (n d)
      go (inr (inl d)) = absurd (omega (arith, z, d.1))
      go (inr (inr d)) = (d.0, omega (arith, z, d.1, k0.sound.inv.covered c h), omega (arith, z, d.1))

  pub set-count : (c v : ℕ) → c < g.N → v < 2 ^ g.W → refs_of g K x c ≤ v → CountSet g K ok m0 s (apply g.C (count_store g m c v) s) c v
  set-count c v h lv n = then_count g K ok m0 img s p.fine c v h lv n blocks

  -- ---- a cluster is taken for a use
  pub take_step : (c : ℕ) (u : Use) → u ≢ unused → c < g.N → cnt g x c ≡ 0 → (dead c → ⊥) → ((i : ℕ) → u ≡ table i → (i < g.L) × (tab g K x i ≡ 0))
      → Step g K ok m0 img k0 role (assign role c u) dead dead (count_store g m c 1 ∷ []) [] [] s (apply g.C (count_store g m c 1) s)
  unfolding apply_all
  take_step c u some h z n empties =
      record {
        grows = grows;
        dying = λ a d. d;
        both = count_store g m c 1 ∷ [];
        every = count_store g m c 1 ∷ [];
        first = merge-all-left _;
        second = merge-all-left _;
        is = refl;
        fine = q.fine;
        mix = keep_mixture g K ok m role' x _ p.fine.sound (grow_mix g K m role role' grows x p.mix) q.keep;
        ready = also (counts c 1 h (one-fits g K ok m0) (omega arith) (omega (arith, fr.1))) none;
        linking = none;
        falling = none;
        fewer = λ a b d. omega (arith, keep_refs g K ok x _ q.keep a);
        taken = λ a b e d. took a e d (ℕ_discrete a c);
        tables = λ t a b e. keep_tabled g K ok s (apply g.C (count_store g m c 1) s) q.keep t a (tabled t a b e (ℕ_discrete t c));
        stays = λ a b d. keep_tab g K ok x _ q.keep a b;
        touch = also (sets_count c 1 h (one-fits g K ok m0) n) none;
        order = λ a b. refl;
        counted = λ a b. count a b (ℕ_discrete a c);
      }
    where
      role' : ℕ → Use
      role' = assign role c u

      fr : (role c ≡ unused) × (refs_of g K m c ≡ 0) × (cnt g m c ≡ 0)
      fr = fresh c h z n

      grows : Grows role (assign role c u)
      grows = assign_grows role c u fr.0

      q : CountSet g K ok m0 s (apply g.C (count_store g m c 1) s) c 1
      q = set-count c 1 h (one-fits g K ok m0) (omega (arith, z, p.fine.sound.inv.covered c h))

      took : (a : ℕ) → role a ≡ unused → assign role c u a ≢ unused → Dec (a ≡ c) → (refs_of g K m a ≡ 0) × Raises g K ok m0 img a (count_store g m c 1 ∷ []) × (cnt g m a ≡ 0)
      took a e d (yes y) = rw y (fr.1, here 1 (omega arith) (one-fits g K ok m0) (omega (arith, fr.1)), fr.2)
      took a e d (no y) = absurd (d (assign_other role c u a y ∙ e))

      tabled : (t a : ℕ) → t < g.N → assign role c u t ≡ table a → Dec (t ≡ c) → Tabled g K s t a
      tabled t a b e (yes y) =
          let o : (a < g.L) × (tab g K x a ≡ 0) = empties a (sym (ap (assign role c u) y ∙ assign_same role c u) ∙ e) in
          (o.0, inr (o.1, omega (arith, z, ap (cnt g x) y, p.fine.sound.inv.covered t b)))
      tabled t a b e (no y) = p.tables t a b (sym (assign_other role c u t y) ∙ e)

      count : (a : ℕ) → a < g.N → Dec (a ≡ c)
          → dead a ⊎ (((assign role c u a ≢ unused) × (1 ≤ cnt g (mem g.C (apply g.C (count_store g m c 1) s)) a))
          ⊎ ((assign role c u a ≡ unused) × (cnt g (mem g.C (apply g.C (count_store g m c 1) s)) a ≡ cnt g m a)))
      count a b (yes y) = inr (inl (rw y ((λ e. some (sym (assign_same role c u) ∙ e)), omega (arith, q.new))))
      count a b (no y) = rw (assign_other role c u a y, q.rest a b y) (p.counted a b)

  -- ---- a count falls, to no less than the references
  pub fall_step : (c v : ℕ) → c < g.N → v < 2 ^ g.W → refs_of g K x c ≤ v
      → Step g K ok m0 img k0 role role dead (λ a. dead a ⊎ (a ≡ c)) [] [] (count_store g m c v ∷ []) s (apply g.C (count_store g m c v) s)
  unfolding apply_all
  fall_step c v h lv n =
      record {
        grows = λ a d. refl;
        dying = λ a d. inl d;
        both = [];
        every = count_store g m c v ∷ [];
        first = merge-all-left [];
        second = merge-all-right _;
        is = refl;
        fine = q.fine;
        mix = keep_mixture g K ok m role x _ p.fine.sound p.mix q.keep;
        ready = none;
        linking = none;
        falling = also (lowers c v h lv (inr refl) (omega (arith, n, keep_refs g K ok x _ q.keep c))) none;
        fewer = λ a b d. omega (arith, keep_refs g K ok x _ q.keep a);
        taken = λ a b e d. absurd (d e);
        tables = λ t a b e. keep_tabled g K ok s (apply g.C (count_store g m c v) s) q.keep t a (p.tables t a b e);
        stays = λ a b d. keep_tab g K ok x _ q.keep a b;
        touch = none;
        order = λ a b. refl;
        counted = λ a b. count a b (ℕ_discrete a c) (p.counted a b);
      }
    where
      q : CountSet g K ok m0 s (apply g.C (count_store g m c v) s) c v
      q = set-count c v h lv n

      count : (a : ℕ) → a < g.N → Dec (a ≡ c) → dead a ⊎ (((role a ≢ unused) × (1 ≤ cnt g x a)) ⊎ ((role a ≡ unused) × (cnt g x a ≡ cnt g m a)))
          → (dead a ⊎ (a ≡ c)) ⊎ (((role a ≢ unused) × (1 ≤ cnt g (mem g.C (apply g.C (count_store g m c v) s)) a))
          ⊎ ((role a ≡ unused) × (cnt g (mem g.C (apply g.C (count_store g m c v) s)) a ≡ cnt g m a)))
      count a b (yes y) w = inl (inr y)
      count a b (no y) (inl d) = inl (inl d)
      count a b (no y) (inr w) = inr (rw (q.rest a b y) w)

  -- ---- an entry is stored
  module _ (i j v : ℕ) (i_l : i < g.L) (j_e : j < g.E) (lv : v < 256 ^ 8) (some : tab g K x i ≢ 0) (alone : refs_of g K x (tab g K x i) ≤ 1) (q : Put g K m role i j v)
      (alive : (c : ℕ) → dead c → c ≢ 0 → c ≡ K.clus v → c ≡ dat g K x i j)
      (fine : Ok g K m0 (apply g.C (entry_store g (tab g K x i) j v) s)) where
    lay : Laid g s (tab g K x i) (8 * j) v
    lay = laid_entry g K ok m0 s p.fine i j v i_l j_e

    abbrev x' : ℕ → ℕ → ℕ
    x' = mem g.C (sets s (tab g K x i * g.C + 8 * j) (enc 8 v))

    is-before : (d : Dec (tab g K m i ≡ 0)) → Each (Ready g K ok m0 img) (before d (entry_store g (tab g K x i) j v))
    unfolding entry_store
    is-before (no d) = none
    is-before (yes z) = also (spare (tab g K x i) (8 * j) (enc 8 v) lay.in_image lay.in_cluster (small-enc 8 v) (mix_free g K ok m x role k0.sound p.mix i i_l z some)) none

    is_among : (d : Dec (tab g K m i ≡ 0)) → Each (Linking g K ok m0 img k0 role) (among d (entry_store g (tab g K x i) j v))
    is_among (yes z) = none
    is_among (no d) = let e = one_table g K ok m0 img k0 role x p.mix i i_l d alone in rw e.0 (also (enters i j v i_l j_e lv d e.1 q) none)

    merged : (d : Dec (tab g K m i ≡ 0)) → Merge (before d (entry_store g (tab g K x i) j v)) (among d (entry_store g (tab g K x i) j v)) (entry_store g (tab g K x i) j v ∷ [])
    merged (yes z) = merge-all-left _
    merged (no d) = merge-all-right _

    -- the old place loses a reference and the new one gets one
    pub entry-moved : (c : ℕ) → refs_of g K (mem g.C (apply g.C (entry_store g (tab g K x i) j v) s)) c + hit c (dat g K x i j) ≡ refs_of g K x c + hit c (K.clus v)
    unfolding apply entry_store
    entry-moved = entry_refs g K ok x p.fine.sound x' lay.small i j v i_l j_e some alone q.good lv lay.stored

    aside : (b : ℕ) → b < g.B → blk g m b ≢ tab g K x i
    aside b h =
        let w : 1 ≤ fix g x (blk g x b) = fix_blk g x (blk g x b) b h refl in
        rw (blocks b h) at
        (fix_tab g.L g.E (fix g x) (tab g K x) (dat g K x) (blk g x b) i i_l (blk_0 g x (blk g x b) b h (fix_one g K ok x p.fine.sound _ (p.fine.sound.blkin b h)) refl)
        (p.fine.sound.inv.fixed _ (p.fine.sound.blkin b h) w) w)

    fit : Fit g.C g.N (entry_store g (tab g K x i) j v)
    unfolding entry_store
    fit = record { in_n = lay.in_image; in_c = λ k. lay.in_cluster; local = λ k k' e. refl }

    touched : (d : Dec (tab g K m i ≡ 0)) → Each (Touch g K ok m0 img k0 (λ c. dead c → ⊥)) (before d (entry_store g (tab g K x i) j v))
    unfolding entry_store
    touched (yes z) = also (passes _ fit aside) none
    touched (no d) = none

    ordered : (d : Dec (tab g K m i ≡ 0)) → (c : ℕ) → Cell g K ok m0 img k0 c
        → cell_at g K ok m0 img k0 (apply_all g.C (before d (entry_store g (tab g K x i) j v)) s) c ≡ cell_at g K ok m0 img k0 (apply g.C (entry_store g (tab g K x i) j v) s) c
    unfolding apply_all entry_store
    ordered (yes z) c h = refl
    ordered (no d) c h = sym (aside_cell g K ok m0 img k0 (entry_store g (tab g K x i) j v) s fit p.fine.len aside c h)

    pub entry-step : (d : Dec (tab g K m i ≡ 0))
        → Step g K ok m0 img k0 role role dead dead (before d (entry_store g (tab g K x i) j v)) (among d (entry_store g (tab g K x i) j v)) [] s (apply g.C (entry_store g (tab g K x i) j v) s)
    unfolding apply_all apply entry_store
    entry-step d =
        record {
          grows = λ a n. refl;
          dying = λ a n. n;
          both = entry_store g (tab g K x i) j v ∷ [];
          every = entry_store g (tab g K x i) j v ∷ [];
          first = merged d;
          second = merge-all-left _;
          is = refl;
          fine = fine;
          mix = entry_mixture g K ok m role x x' p.fine.sound p.mix lay.small i j v i_l j_e some alone lv q lay.stored;
          ready = is-before d;
          linking = is_among d;
          falling = none;
          fewer = λ c h n. less c n (ℕ_discrete c (K.clus v)) (ℕ_discrete c 0);
          taken = λ a b e n. absurd (n e);
          tables = λ t a b e. tabled t a b e (p.tables t a b e);
          stays = λ a b d. same_tab a b;
          touch = touched d;
          order = λ a b. ordered d a b;
          counted = λ a b. rw (entry_cnt g K ok x p.fine.sound x' lay.small i j v i_l j_e some alone q.good lv lay.stored a b) (p.counted a b);
        }
      where
        moved : (c : ℕ) → refs_of g K x' c + hit c (dat g K x i j) ≡ refs_of g K x c + hit c (K.clus v)
        moved = entry-moved

        less : (c : ℕ) → dead c → Dec (c ≡ K.clus v) → Dec (c ≡ 0) → refs_of g K x' c ≤ refs_of g K x c
        less c n (no e) z = omega (arith, moved c, hit_other c (K.clus v) e)
        less c n (yes e) (yes z) = omega (arith, moved c, ap (hit c) (sym e ∙ z), hit_zero c)
        less c n (yes e) (no z) = omega (arith, moved c, ap (hit c) (sym e), ap (hit c) (sym (alive c n z e)))

        same_tab : (a : ℕ) → a < g.L → tab g K x' a ≡ tab g K x a
        same_tab = entry_tab g K ok x p.fine.sound x' lay.small i j v i_l j_e some alone q.good lv lay.stored

        -- the place is no new table
        not_table : (t a : ℕ) → t < g.N → role t ≡ table a → t ≢ 0 → Place g K m role i j (K.clus v) → t ≢ K.clus v
        not_table t a b e t0 (inl z) y = t0 (y ∙ z)
        not_table t a b e t0 (inr (inl z)) y = free_dat g.L g.E (fix g m) (tab g K m) (dat g K m) t (p.free t b (λ w. used_table a (sym e ∙ w))) t0 i j i_l j_e (y ∙ z)
        not_table t a b e t0 (inr (inr z)) y = omega (arith, ap kind (sym e ∙ ap role y ∙ z.1))

        tabled : (t a : ℕ) → t < g.N → role t ≡ table a → Tabled g K s t a → Tabled g K (sets s (tab g K x i * g.C + 8 * j) (enc 8 v)) t a
        tabled t a b e h = (h.0, go h.1)
          where
            go : (tab g K x a ≡ t) ⊎ ((tab g K x a ≡ 0) × (refs_of g K x t ≡ 0)) → (tab g K x' a ≡ t) ⊎ ((tab g K x' a ≡ 0) × (refs_of g K x' t ≡ 0))
            go (inl y) = inl (same_tab a h.0 ∙ y)
            go (inr y) =
                inr (same_tab a h.0 ∙ y.0, omega (arith, moved t, y.1, hit_other t (K.clus v) (not_table t a b e (free-not-0 g K ok m k0.sound t (p.free t b (λ w. used_table a (sym e ∙ w)))) q.place)))
