-- What an entry of a table shows, whichever of the values that a batch has stored there stands in it: the guest cluster as some image of the batch had
-- it. A place that is no longer named is not stored into again. Assumes nothing.
use mathlib.Core.Path.{◌≡◌, refl, sym, ap, ◌∙◌, subst}
use mathlib.Core.Logic.{◌⊎◌, inl, inr, ◌≢◌}
use Prim.Native.Nat.{ℕ, zero, suc, ◌+◌, ◌*◌, ◌^◌, ◌≤◌, ◌<◌}
use native.Mathlib.Nat.{suc-ne-zero}
use native.Mathlib.Omega.{arith}
use native.Mathlib.Decide.{ℕ_discrete, dec_lt}
use Rattle.cuts.proofs.Refs.{hit, hit_self, hit_other, refs_fix, refs_dat, fix_dat, tab_dat}
use Rattle.cuts.proofs.Cell.{enc, Stored}
use Rattle.cuts.proofs.Meta.{Geo, GeoOk, Codec, cnt, row, col, Has, l2, fix, tab, dat, refs_of, Sound, Keep, dat_some, mark_some, keep_tab, keep_refs, row-N}
use Rattle.cuts.proofs.Step.{shown, gread, pair_or, dat_in, entry_tab, entry_cnt, entry_l2, entry_new, entry_refs, at-not-0, link_cnt, link_tab, link_l2}
use Rattle.batches.proofs.Mixture.{named_tab, named_dat, row-fix}

-- only a place without a mark shows its byte
pub shown_frame : (d f b b' : ℕ) → (f ≡ 0 → d ≢ 0 → b ≡ b') → shown d f b ≡ shown d f b'
unfolding shown
shown_frame d (suc f) b b' h = refl
shown_frame zero zero b b' h = refl
shown_frame (suc d) zero b b' h = λ q u. h refl (suc-ne-zero d) q

module _ (g : Geo) (K : Codec) (past : (ℕ → ℕ → ℕ) → Type 0) where
  -- entry j below L1 entry i of x has the place of v, and no mark
  pub record Current (x : ℕ → ℕ → ℕ) (i j v : ℕ) : Type 0 where
    pub some : tab g K x i ≢ 0
    pub place : K.clus (l2 g x (tab g K x i) j) ≡ K.clus v
    pub plain : K.flag (l2 g x (tab g K x i) j) ≡ 0

  -- nothing names the place of v, and no call of the batch may take it: its count is not 0, or the batch has lowered it
  pub record Gone (x : ℕ → ℕ → ℕ) (dead : ℕ → Type 0) (v : ℕ) : Type 0 where
    pub free : refs_of g K x (K.clus v) ≡ 0
    pub kept : dead (K.clus v) ⊎ (1 ≤ cnt g x (K.clus v))

  pub record Known (x : ℕ → ℕ → ℕ) (dead : ℕ → Type 0) (i j v : ℕ) : Type 0 where
    pub stands : K.flag v ≡ 0 → K.clus v ≢ 0 → Current x i j v ⊎ Gone x dead v
    pub image : ℕ → ℕ → ℕ
    pub was : past image
    pub shows : (o : ℕ) → o < g.C → shown (K.clus v) (K.flag v) (x (K.clus v) o) ≡ gread g K image i j o

  -- the bytes of its place stay
  pub known_frame : (x x' : ℕ → ℕ → ℕ) (dead dead' : ℕ → Type 0) (i j v : ℕ) → Known x dead i j v
      → ((K.flag v ≡ 0) → K.clus v ≢ 0 → Current x i j v ⊎ Gone x dead v → (Current x' i j v ⊎ Gone x' dead' v) × ((o : ℕ) → o < g.C → x' (K.clus v) o ≡ x (K.clus v) o))
      → Known x' dead' i j v
  known_frame x x' dead dead' i j v k h =
      record {
        stands = λ f d. (h f d (k.stands f d)).0;
        image = k.image;
        was = k.was;
        shows = λ o l. shown_frame (K.clus v) (K.flag v) (x' (K.clus v) o) (x (K.clus v) o) (λ f d. (h f d (k.stands f d)).1 o l) ∙ k.shows o l;
      }

  -- what the entry itself shows
  pub current_shows : (x : ℕ → ℕ → ℕ) (i j : ℕ) → tab g K x i ≢ 0 → (o : ℕ)
      → shown (K.clus (l2 g x (tab g K x i) j)) (K.flag (l2 g x (tab g K x i) j)) (x (K.clus (l2 g x (tab g K x i) j)) o) ≡ gread g K x i j o
  unfolding gread
  current_shows x i j d o = rw (dat_some g K x i j d, mark_some g K x i j d)

  -- the value that stands there is known, where its image is
  pub known_now : (x : ℕ → ℕ → ℕ) (dead : ℕ → Type 0) (i j : ℕ) → tab g K x i ≢ 0 → past x → Known x dead i j (l2 g x (tab g K x i) j)
  known_now x dead i j d p = record { stands = λ f z. inl (record { some = d; place = refl; plain = f }); image = x; was = p; shows = λ o l. current_shows x i j d o }

module _ (g : Geo) (K : Codec) (ok : GeoOk g K) (past : (ℕ → ℕ → ℕ) → Type 0) (x x' : ℕ → ℕ → ℕ) (sx : Sound g K x) (dead : ℕ → Type 0) where
  -- a place that stands in an entry is named, and is data
  current_dat : (i j v : ℕ) → Current g K past x i j v → dat g K x i j ≡ K.clus v
  current_dat i j v c = dat_some g K x i j c.some ∙ c.place

  current_refs : (i j v : ℕ) → i < g.L → j < g.E → K.clus v ≢ 0 → Current g K past x i j v → 1 ≤ refs_of g K x (K.clus v)
  current_refs i j v l n d c =
      let e : dat g K x i j ≡ K.clus v = current_dat i j v c in
      omega (arith, refs_dat g.L g.E (fix g x) (tab g K x) (dat g K x) (K.clus v) i j l n, ap (hit (K.clus v)) e, hit_self (K.clus v) d)

  -- and is none of the fixed clusters
  pub current_fix : (i j v : ℕ) → i < g.L → j < g.E → K.clus v ≢ 0 → K.clus v < g.N → Current g K past x i j v → fix g x (K.clus v) ≡ 0
  current_fix i j v l n d v_n c = go (dec_lt 0 (fix g x (K.clus v)))
    where
      go : Dec (0 < fix g x (K.clus v)) → fix g x (K.clus v) ≡ 0
      go (no z) = omega arith
      go (yes z) =
          absurd (omega (arith, z, sx.inv.fixed (K.clus v) v_n z, refs_dat g.L g.E (fix g x) (tab g K x) (dat g K x) (K.clus v) i j l n, ap (hit (K.clus v)) (current_dat i j v c), hit_self (K.clus v) d))

  -- where the tables stay
  keep_current : Keep g K x x' → (i j v : ℕ) → i < g.L → j < g.E → Current g K past x i j v → Current g K past x' i j v
  keep_current k i j v l n c =
      let t : tab g K x' i ≡ tab g K x i = keep_tab g K ok x x' k i l in
      let e : l2 g x' (tab g K x' i) j ≡ l2 g x (tab g K x i) j = ap (λ (y : ℕ). l2 g x' y j) t ∙ k.l2s i j l n c.some in
      record { some = λ z. c.some (sym t ∙ z); place = ap K.clus e ∙ c.place; plain = ap K.flag e ∙ c.plain }

  -- ---- the tables stay, and no byte of a place that is known changes
  pub knows_keep : Keep g K x x' → (dead' : ℕ → Type 0) → ((c : ℕ) → c < g.N → dead c ⊎ (1 ≤ cnt g x c) → dead' c ⊎ (1 ≤ cnt g x' c))
      → ((c : ℕ) → c < g.N → fix g x c ≡ 0 → (1 ≤ refs_of g K x c) ⊎ (dead c ⊎ (1 ≤ cnt g x c)) → (o : ℕ) → o < g.C → x' c o ≡ x c o)
      → (i j v : ℕ) → i < g.L → j < g.E → K.clus v < g.N → Known g K past x dead i j v → Known g K past x' dead' i j v
  knows_keep k dead' more bytes i j v l n v_n w = known_frame g K past x x' dead dead' i j v w go
    where
      go : K.flag v ≡ 0 → K.clus v ≢ 0 → Current g K past x i j v ⊎ Gone g K past x dead v
          → (Current g K past x' i j v ⊎ Gone g K past x' dead' v) × ((o : ℕ) → o < g.C → x' (K.clus v) o ≡ x (K.clus v) o)
      go f d (inl c) = (inl (keep_current k i j v l n c), bytes (K.clus v) v_n (current_fix i j v l n d v_n c) (inl (current_refs i j v l n d c)))
      go f d (inr c) =
          (inr (record { free = keep_refs g K ok x x' k (K.clus v) ∙ c.free; kept = more (K.clus v) v_n c.kept }), bytes (K.clus v) v_n (omega (arith, c.free, refs_fix g.L g.E (fix g x) (tab g K x) (dat g K x) (K.clus v))) (inr c.kept))

  -- the same where the bytes of its place are known to stay
  pub knows_still : Keep g K x x' → ((c : ℕ) → c < g.N → cnt g x' c ≡ cnt g x c) → (i j v : ℕ) → i < g.L → j < g.E → K.clus v < g.N
      → (K.flag v ≡ 0 → K.clus v ≢ 0 → (o : ℕ) → o < g.C → x' (K.clus v) o ≡ x (K.clus v) o) → Known g K past x dead i j v → Known g K past x' dead i j v
  knows_still k same i j v l n v_n bytes w = known_frame g K past x x' dead dead i j v w (λ f d c. (stand c, bytes f d))
    where
      stand : Current g K past x i j v ⊎ Gone g K past x dead v → Current g K past x' i j v ⊎ Gone g K past x' dead v
      stand (inl c) = inl (keep_current k i j v l n c)
      stand (inr c) = inr (record { free = keep_refs g K ok x x' k (K.clus v) ∙ c.free; kept = rw (same (K.clus v) v_n) c.kept })

  -- ---- the data of entry b below L1 entry a changes
  pub knows_place : Keep g K x x' → past x' → (a b : ℕ) → a < g.L → b < g.E → dat g K x a b ≢ 0 → refs_of g K x (dat g K x a b) ≤ 1
      → ((c o : ℕ) → o < g.C → c ≢ dat g K x a b → x' c o ≡ x c o) → ((c : ℕ) → c < g.N → cnt g x' c ≡ cnt g x c)
      → (i j v : ℕ) → i < g.L → j < g.E → K.clus v < g.N → Known g K past x dead i j v → Known g K past x' dead i j v
  knows_place k now a b a_l b_e d one bytes same i j v l n v_n w = go (ℕ_discrete (K.clus v) (dat g K x a b)) (ℕ_discrete (K.flag v) 0)
    where
      named : 1 ≤ refs_of g K x (dat g K x a b)
      named = named_dat g K x a b a_l b_e d

      after : (Current g K past x i j v ⊎ Gone g K past x dead v) → Current g K past x' i j v ⊎ Gone g K past x' dead v
      after (inl c) = inl (keep_current k i j v l n c)
      after (inr c) = inr (record { free = keep_refs g K ok x x' k (K.clus v) ∙ c.free; kept = rw (same (K.clus v) v_n) c.kept })

      here : K.clus v ≡ dat g K x a b → K.flag v ≡ 0 → Current g K past x i j v ⊎ Gone g K past x dead v → Known g K past x' dead i j v
      here e f (inr c) = absurd (omega (arith, named, ap (refs_of g K x) e, c.free))
      here e f (inl c) =
          let c' : Current g K past x' i j v = keep_current k i j v l n c in
          record {
            stands = λ y z. inl c';
            image = x';
            was = now;
            shows = λ o h. rw (f, ← c'.place, ← c'.plain) (current_shows g K past x' i j c'.some o);
          }

      go : Dec (K.clus v ≡ dat g K x a b) → Dec (K.flag v ≡ 0) → Known g K past x' dead i j v
      go (no e) f = known_frame g K past x x' dead dead i j v w (λ y z c. (after c, λ o h. bytes (K.clus v) o h e))
      go (yes e) (no f) = known_frame g K past x x' dead dead i j v w (λ y z c. absurd (f y))
      go (yes e) (yes f) = here e f (w.stands f (λ z. d (sym e ∙ z)))

  -- a cluster that a call may take is no place that is known
  pub fresh-apart : (c : ℕ) → refs_of g K x c ≡ 0 → cnt g x c ≡ 0 → (dead c → ⊥) → (i j v : ℕ) → i < g.L → j < g.E → Known g K past x dead i j v
      → K.flag v ≡ 0 → K.clus v ≢ 0 → K.clus v ≢ c
  fresh-apart c z n s i j v l k w f d e = go (w.stands f d)
    where
      low : dead (K.clus v) ⊎ (1 ≤ cnt g x (K.clus v)) → ⊥
      low (inl h) = s (subst dead e h)
      low (inr h) = omega (arith, h, n, ap (cnt g x) e)

      go : Current g K past x i j v ⊎ Gone g K past x dead v → ⊥
      go (inl h) = omega (arith, current_refs i j v l k d h, z, ap (refs_of g K x) e)
      go (inr h) = low h.kept

  -- ---- entry b below L1 entry a becomes e
  module _ (sm : (k o : ℕ) → x' k o < 256) (a b e : ℕ) (a_l : a < g.L) (b_e : b < g.E) (some : tab g K x a ≢ 0) (alone : refs_of g K x (tab g K x a) ≤ 1)
      (good : K.good2 e) (le : e < 256 ^ 8) (plain : K.clus e ≢ 0 → K.flag e ≡ 0) (one : dat g K x a b ≢ 0 → refs_of g K x (dat g K x a b) ≤ 1)
      (st : Stored g.C x x' (tab g K x a) (8 * b) (enc 8 e)) where
    moved : (c : ℕ) → refs_of g K x' c + hit c (dat g K x a b) ≡ refs_of g K x c + hit c (K.clus e)
    moved = entry_refs g K ok x sx x' sm a b e a_l b_e some alone good le st

    entry_current : (i j v : ℕ) → i < g.L → j < g.E → (i ≢ a) ⊎ (j ≢ b) → Current g K past x i j v → Current g K past x' i j v
    entry_current i j v l n o c =
        let t : tab g K x' i ≡ tab g K x i = entry_tab g K ok x sx x' sm a b e a_l b_e some alone good le st i l in
        let y : l2 g x' (tab g K x' i) j ≡ l2 g x (tab g K x i) j = ap (λ (k : ℕ). l2 g x' k j) t ∙ entry_l2 g K ok x sx x' sm a b e a_l b_e some alone good le st i j l n o c.some in
        record { some = λ z. c.some (sym t ∙ z); place = ap K.clus y ∙ c.place; plain = ap K.flag y ∙ c.plain }

    -- the place that stood there is named again, or by nothing
    replaced : (v : ℕ) → K.flag v ≡ 0 → K.clus v ≢ 0 → Current g K past x a b v → Current g K past x' a b v ⊎ Gone g K past x' dead v
    replaced v f d c = go (ℕ_discrete (K.clus v) (K.clus e))
      where
        t : tab g K x' a ≡ tab g K x a
        t = entry_tab g K ok x sx x' sm a b e a_l b_e some alone good le st a a_l

        new : l2 g x' (tab g K x' a) b ≡ e
        new = ap (λ (k : ℕ). l2 g x' k b) t ∙ entry_new g K ok x sx x' sm a b e a_l b_e some alone good le st

        h : dat g K x a b ≡ K.clus v
        h = current_dat a b v c

        v_n : K.clus v < g.N
        v_n = subst (λ (k : ℕ). k < g.N) h (dat_in g K ok x sx a b a_l b_e)

        go : Dec (K.clus v ≡ K.clus e) → Current g K past x' a b v ⊎ Gone g K past x' dead v
        go (yes q) = inl (record { some = λ z. some (sym t ∙ z); place = ap K.clus new ∙ sym q; plain = ap K.flag new ∙ plain (λ z. d (q ∙ z)) })
        go (no q) =
            let r : 1 ≤ refs_of g K x (K.clus v) = current_refs a b v a_l b_e d c in
            let u : refs_of g K x (K.clus v) ≤ 1 = subst (λ (k : ℕ). refs_of g K x k ≤ 1) h (one (λ z. d (sym h ∙ z))) in
            inr (record {
              free = omega (arith, moved (K.clus v), r, u, ap (hit (K.clus v)) h, hit_self (K.clus v) d, hit_other (K.clus v) (K.clus e) q);
              kept = inr (omega (arith, r, sx.inv.covered (K.clus v) v_n, entry_cnt g K ok x sx x' sm a b e a_l b_e some alone good le st (K.clus v) v_n));
            })

    pub knows_entry : (i j v : ℕ) → i < g.L → j < g.E → K.clus v < g.N → Known g K past x dead i j v
        → (K.flag v ≡ 0 → K.clus v ≢ 0 → K.clus v ≡ K.clus e → K.clus e ≡ dat g K x a b) → Known g K past x' dead i j v
    knows_entry i j v l n v_n w apart = known_frame g K past x x' dead dead i j v w go
      where
        away : K.clus v ≢ 0 → Current g K past x i j v ⊎ Gone g K past x dead v → K.clus v ≢ tab g K x a
        away d (inl c) y = tab_dat g.L g.E (fix g x) (tab g K x) (dat g K x) a i j a_l l n some alone (sym y ∙ sym (current_dat i j v c))
        away d (inr c) y = omega (arith, c.free, ap (refs_of g K x) y, named_tab g K x a a_l some)

        gone : K.flag v ≡ 0 → K.clus v ≢ 0 → Gone g K past x dead v → Gone g K past x' dead v
        gone f d c = record { free = go₂ (ℕ_discrete (K.clus v) (K.clus e)); kept = rw (entry_cnt g K ok x sx x' sm a b e a_l b_e some alone good le st (K.clus v) v_n) c.kept }
          where
            go₂ : Dec (K.clus v ≡ K.clus e) → refs_of g K x' (K.clus v) ≡ 0
            go₂ (no q) = omega (arith, moved (K.clus v), c.free, hit_other (K.clus v) (K.clus e) q)
            go₂ (yes q) = omega (arith, moved (K.clus v), c.free, ap (hit (K.clus v)) (apart f d q))

        go : K.flag v ≡ 0 → K.clus v ≢ 0 → Current g K past x i j v ⊎ Gone g K past x dead v
            → (Current g K past x' i j v ⊎ Gone g K past x' dead v) × ((o : ℕ) → o < g.C → x' (K.clus v) o ≡ x (K.clus v) o)
        go f d c = (stand c, λ o h. st.cluster (K.clus v) o h (away d c))
          where
            stand : Current g K past x i j v ⊎ Gone g K past x dead v → Current g K past x' i j v ⊎ Gone g K past x' dead v
            stand (inr y) = inr (gone f d y)
            stand (inl y) = pick (pair_or i j a b)
              where
                pick : ((i ≡ a) × (j ≡ b)) ⊎ ((i ≢ a) ⊎ (j ≢ b)) → Current g K past x' i j v ⊎ Gone g K past x' dead v
                pick (inr o) = inl (entry_current i j v l n o y)
                pick (inl o) = rw (o.0, o.1) (replaced v f d (rw (o.0, o.1) at y))

  -- ---- L1 entry a gets the table t
  module _ (sm : (k o : ℕ) → x' k o < 256) (a t : ℕ) (a_l : a < g.L) (ha : Has g a) (t_n : t < g.N) (none : tab g K x a ≡ 0)
      (st : Stored g.C x x' (row g a) (8 * col g a) (enc 8 (K.mk t))) where
    pub knows_link : (i j v : ℕ) → i < g.L → j < g.E → K.clus v < g.N → Known g K past x dead i j v
        → (K.flag v ≡ 0 → K.clus v ≢ 0 → refs_of g K x (K.clus v) ≡ 0 → refs_of g K x' (K.clus v) ≡ 0) → Known g K past x' dead i j v
    knows_link i j v l n v_n w apart = known_frame g K past x x' dead dead i j v w go
      where
        away : K.clus v ≢ 0 → Current g K past x i j v ⊎ Gone g K past x dead v → K.clus v ≢ row g a
        away d (inl c) y =
            fix_dat g.L g.E (fix g x) (tab g K x) (dat g K x) (row g a) i j l n (at-not-0 g K ok x sx x' sm a t a_l ha t_n st)
            (sx.inv.fixed (row g a) (row-N g K ok a a_l ha) (row-fix g K ok x a a_l ha)) (row-fix g K ok x a a_l ha) (sym y ∙ sym (current_dat i j v c))
        away d (inr c) y = omega (arith, c.free, ap (refs_of g K x) y, row-fix g K ok x a a_l ha, refs_fix g.L g.E (fix g x) (tab g K x) (dat g K x) (row g a))

        stand : K.flag v ≡ 0 → K.clus v ≢ 0 → Current g K past x i j v ⊎ Gone g K past x dead v → Current g K past x' i j v ⊎ Gone g K past x' dead v
        stand f d (inr c) = inr (record { free = apart f d c.free; kept = rw (link_cnt g K ok x sx x' sm a t a_l ha t_n st (K.clus v) v_n) c.kept })
        stand f d (inl c) =
            let o : i ≢ a = λ z. c.some (ap (tab g K x) z ∙ none) in
            let y : tab g K x' i ≡ tab g K x i = link_tab g K ok x sx x' sm a t a_l ha t_n st i l o in
            let e : l2 g x' (tab g K x' i) j ≡ l2 g x (tab g K x i) j = ap (λ (k : ℕ). l2 g x' k j) y ∙ link_l2 g K ok x sx x' sm a t a_l ha t_n st i j l n in
            inl (record { some = λ z. c.some (sym y ∙ z); place = ap K.clus e ∙ c.place; plain = ap K.flag e ∙ c.plain })

        go : K.flag v ≡ 0 → K.clus v ≢ 0 → Current g K past x i j v ⊎ Gone g K past x dead v
            → (Current g K past x' i j v ⊎ Gone g K past x' dead v) × ((o : ℕ) → o < g.C → x' (K.clus v) o ≡ x (K.clus v) o)
        go f d c = (stand f d c, λ o h. st.cluster (K.clus v) o h (away d c))
