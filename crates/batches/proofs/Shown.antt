-- What the guest reads where entries of a batch are being stored: each guest cluster as some image of the batch had it. Assumes nothing.
use mathlib.Core.Path.{◌≡◌, refl, sym, ap, ◌∙◌}
use mathlib.Core.Logic.{◌⊎◌, inl, inr, ◌≢◌}
use mathlib.Core.Bool.{Bool}
use mathlib.Core.List.{List}
use Prim.Native.Nat.{ℕ, ◌+◌, ◌*◌, ◌^◌, ◌≤◌, ◌<◌}
use native.Mathlib.Decide.{ℕ_discrete}
use native.Mathlib.Omega.{arith}
use lib.Seq.{sets}
use Rattle.cuts.proofs.Refs.{tab_dat, fix_tab, fix_dat}
use Rattle.cuts.proofs.Cell.{num_cong, enc, mem}
use Rattle.cuts.proofs.Meta.{Geo, GeoOk, Codec, blk, row, Has, l1, l2, fix, tab, dat, refs_of, dat_some}
use Rattle.cuts.proofs.Step.{shown, gread, gread_absent, tab_in, pair_or, entry_l2, entry_new}
use Rattle.cuts.proofs.Run.{Store, apply, apply_all, picked, Each, kept}
use Rattle.cuts.proofs.Call.{Ok, entry_store, link_store}
use Rattle.batches.proofs.Mixture.{Use, table, Linked, Place, Put, Old, Mixture, mix_tab, row-fix}
use Rattle.batches.proofs.Joined.{Joined, Linking, enters, links, tab_some, tab_alone, linking_keeps}
use Rattle.batches.proofs.Lists.{Agree, Apart, apply-apart, all_whole, all_apart, each_map, picked-each}
use Rattle.batches.proofs.Units.{row_one, row-some, linking_fit}
use Rattle.batches.proofs.Stores.{Laid, laid_entry}
use Rattle.batches.proofs.Order.{data_aside}
use Rattle.batches.proofs.Planned.{Planned, Settled, middle_image, cut_among, before_agree, no_entry, not_block, tab_eq, fits_l, middle_joined, middle_entry}
use Rattle.batches.proofs.Known.{Known, shown_frame, current_shows}

module _ (g : Geo) (K : Codec) (ok : GeoOk g K) (m0 : ℕ → ℕ → ℕ) (img : List ℕ) (k0 : Ok g K m0 img) (role : ℕ → Use) (Q : ℕ → ℕ → ℕ → Type 0) where
  abbrev m : ℕ → ℕ → ℕ
  m = mem g.C img

  -- an entry of the first image's tables, with a value that has Q; or a link
  pub data Written : Store → Type 0 where
    writes : (i j v : ℕ) → i < g.L → j < g.E → v < 256 ^ 8 → tab g K m i ≢ 0 → refs_of g K m (tab g K m i) ≤ 1 → Put g K m role i j v → Q i j v → Written (entry_store g (tab g K m i) j v)
    joins : (i t : ℕ) → i < g.L → Has g i → t < g.N → t ≢ 0 → tab g K m i ≡ 0 → i < g.M → refs_of g K m t ≡ 0 → role t ≡ table i → Written (link_store g i (K.mk t))

  pub written_linking : (u : Store) → Written u → Linking g K ok m0 img k0 role u
  written_linking u (writes i j v l n lv t one q w) = enters i j v l n lv t one q
  written_linking u (joins i t l hi t_n t0 z act free used) = links i t l hi t_n t0 z act free used

  -- each entry of the first image's tables is the first image's, or has Q
  abbrev pub Shows : List ℕ → Type 0
  Shows s = (i j : ℕ) → i < g.L → j < g.E → tab g K m i ≢ 0 → (l2 g (mem g.C s) (tab g K m i) j ≡ l2 g m (tab g K m i) j) ⊎ Q i j (l2 g (mem g.C s) (tab g K m i) j)

  -- an entry that is stored
  module _ (s : List ℕ) (p : Joined g K ok m0 img k0 role s) (h : Shows s) (a b v : ℕ) (a_l : a < g.L) (b_e : b < g.E) (lv : v < 256 ^ 8) (t : tab g K m a ≢ 0)
      (one : refs_of g K m (tab g K m a) ≤ 1) (q : Put g K m role a b v) (w : Q a b v) where
    abbrev x : ℕ → ℕ → ℕ
    x = mem g.C s

    kept_tab : (i : ℕ) → i < g.L → tab g K m i ≢ 0 → tab g K x i ≡ tab g K m i
    kept_tab i l d = (mix_tab g K ok m x role k0.sound p.mix i l d).1

    some : tab g K x a ≢ 0
    some = tab_some g K ok m0 img k0 role s p a a_l t one

    alone : refs_of g K x (tab g K x a) ≤ 1
    alone = tab_alone g K ok m0 img k0 role s p a a_l t one

    lay : Laid g s (tab g K x a) (8 * b) v
    lay = laid_entry g K ok m0 s p.fine a b v a_l b_e

    abbrev x' : ℕ → ℕ → ℕ
    x' = mem g.C (sets s (tab g K x a * g.C + 8 * b) (enc 8 v))

    shows' : (i j : ℕ) → i < g.L → j < g.E → tab g K m i ≢ 0 → (l2 g x' (tab g K m i) j ≡ l2 g m (tab g K m i) j) ⊎ Q i j (l2 g x' (tab g K m i) j)
    shows' i j l n d = go (pair_or i j a b)
      where
        go : ((i ≡ a) × (j ≡ b)) ⊎ ((i ≢ a) ⊎ (j ≢ b)) → (l2 g x' (tab g K m i) j ≡ l2 g m (tab g K m i) j) ⊎ Q i j (l2 g x' (tab g K m i) j)
        go (inl e) =
            let y : l2 g x' (tab g K m a) b ≡ v = ap (λ (k : ℕ). l2 g x' k b) (sym (kept_tab a a_l t)) ∙ entry_new g K ok x p.fine.sound x' lay.small a b v a_l b_e some alone q.good lv lay.stored in
            rw (e.0, e.1, y) (inr w)
        go (inr e) =
            let y : l2 g x' (tab g K m i) j ≡ l2 g x (tab g K m i) j =
            ap (λ (k : ℕ). l2 g x' k j) (sym (kept_tab i l d)) ∙ entry_l2 g K ok x p.fine.sound x' lay.small a b v a_l b_e some alone q.good lv lay.stored i j l n e (λ z. d (sym (kept_tab i l d) ∙ z))
            ∙ ap (λ (k : ℕ). l2 g x k j) (kept_tab i l d) in
            rw y (h i j l n d)

    entered : Shows (apply g.C (entry_store g (tab g K m a) b v) s)
    unfolding apply entry_store
    entered = rw (kept_tab a a_l t) at shows'

  written_shows : (u : Store) → Written u → (s : List ℕ) → Joined g K ok m0 img k0 role s → Shows s → Shows (apply g.C u s)
  unfolding l2 link_store
  written_shows u (joins a t a_l ha t_n t0 z act free used) s p w i j l n d =
      rw (num_cong 8 _ _ (8 * j) (λ y b e. apply-apart g.C g.N (tab g K m i) _ s (linking_fit g K ok m0 img k0 role _ (links a t a_l ha t_n t0 z act free used)) p.fine.len
      (λ h. fix_tab g.L g.E (fix g m) (tab g K m) (dat g K m) (row g a) i l (row-some g K ok m0 img k0 a a_l ha) (row_one g K ok m0 img k0 a a_l ha) (row-fix g K ok m a a_l ha) (sym h)) y (omega (arith, ok.c8)))) (w i j l n d)
  written_shows u (writes a b v a_l b_e lv t one q w) s p h i j l n d = entered s p h a b v a_l b_e lv t one q w i j l n d

  both-kept : {us : List Store} → Each Written us → (cs : List Bool) (s : List ℕ) → Joined g K ok m0 img k0 role s × Shows s
      → Joined g K ok m0 img k0 role (apply_all g.C (picked cs us) s) × Shows (apply_all g.C (picked cs us) s)
  both-kept h = kept g.C (λ s. Joined g K ok m0 img k0 role s × Shows s) (each_map (λ u w s p. (linking_keeps g K ok m0 img k0 role u (written_linking u w) s p.0, written_shows u w s p.0 p.1)) h)

module _ (g : Geo) (K : Codec) (ok : GeoOk g K) (m0 : ℕ → ℕ → ℕ) (img : List ℕ) (k0 : Ok g K m0 img) (role : ℕ → Use) (dead : ℕ → Type 0)
    (r l f : List Store) (s : List ℕ) (p : Planned g K ok m0 img k0 role dead r l f s) (settled : Settled g K ok m0 img k0 role s)
    (past : (ℕ → ℕ → ℕ) → Type 0) (first : past (mem g.C img)) (last : past (mem g.C s))
    (begun : (i j : ℕ) → i < g.L → j < g.E → tab g K (mem g.C img) i ≢ 0 → Known g K past (mem g.C s) dead i j (l2 g (mem g.C img) (tab g K (mem g.C img) i) j))
    (written : Each (Written g K ok m0 img k0 role (Known g K past (mem g.C s) dead)) l) where
  abbrev m₀ : ℕ → ℕ → ℕ
  m₀ = mem g.C img

  abbrev middle₀ : List ℕ
  middle₀ = middle_image g K ok m0 img k0 role dead r l f s p settled

  -- no entry is stored where data lie
  data_linking : (i j : ℕ) → i < g.L → j < g.E → dat g K m₀ i j ≢ 0 → (u : Store) → Linking g K ok m0 img k0 role u → Apart g.C g.N (dat g K m₀ i j) u
  unfolding entry_store link_store
  data_linking i j i_l j_e d u (enters a b v a_l b_e lv t one q) e = tab_dat g.L g.E (fix g m₀) (tab g K m₀) (dat g K m₀) a i j a_l i_l j_e t one (sym e)
  data_linking i j i_l j_e d u (links a t a_l ha t_n t0 z act free used) e =
      fix_dat g.L g.E (fix g m₀) (tab g K m₀) (dat g K m₀) (row g a) i j i_l j_e
      (row-some g K ok m0 img k0 a a_l ha) (row_one g K ok m0 img k0 a a_l ha) (row-fix g K ok m₀ a a_l ha) (sym e)

  data_block : (i j : ℕ) → i < g.L → j < g.E → dat g K m₀ i j ≢ 0 → (b : ℕ) → b < g.B → dat g K m₀ i j ≢ blk g m₀ b
  data_block i j i_l j_e d b h e = data_aside g K ok m0 img k0 i j i_l j_e b h (sym e)

  -- ---- one cut
  module _ (cs : List Bool) where
    abbrev cut : List ℕ
    cut = apply_all g.C (picked cs l) middle₀

    abbrev y : ℕ → ℕ → ℕ
    y = mem g.C cut

    joined : Joined g K ok m0 img k0 role cut
    joined = cut_among g K ok m0 img k0 role dead r l f s p settled cs

    mixed : Mixture g K m₀ role y
    mixed = joined.mix

    agree_at : (c : ℕ) → Each (Apart g.C g.N c) l → ((b : ℕ) → b < g.B → c ≢ blk g m₀ b) → Agree g.C g.N c cut s
    agree_at c a n o h =
        all_apart g.C g.N c (picked-each cs (fits_l g K ok m0 img k0 role dead r l f s p settled)) (picked-each cs a) middle₀ (all_whole g.C g.N r img k0.len) o h
        ∙ before_agree g K ok m0 img k0 role dead r l f s p settled c a n o h

    -- the data that an entry names are those in memory
    place_agree : (i j c : ℕ) → i < g.L → j < g.E → c < g.N → c ≢ 0 → Place g K m₀ role i j c → Agree g.C g.N c cut s
    place_agree i j c i_l j_e c_n d (inl z) = absurd (d z)
    place_agree i j c i_l j_e c_n d (inr (inl e)) =
        rw e (agree_at (dat g K m₀ i j) (each_map (data_linking i j i_l j_e (λ z. d (e ∙ z))) p.linking) (data_block i j i_l j_e (λ z. d (e ∙ z))))
    place_agree i j c i_l j_e c_n d (inr (inr e)) =
        agree_at c (each_map (no_entry g K ok m0 img k0 role dead r l f s p settled c c_n e.0) p.linking) (not_block g K ok m0 img k0 role dead r l f s p settled c e.0)

    entry_place : (i j : ℕ) → i < g.L → j < g.E → tab g K y i ≢ 0 → Place g K m₀ role i j (K.clus (l2 g y (tab g K y i) j))
    entry_place i j i_l j_e d = go (mixed.l2s i j i_l j_e d)
      where
        go : Old g K m₀ role i j (l2 g y (tab g K y i) j) ⊎ Put g K m₀ role i j (l2 g y (tab g K y i) j) → Place g K m₀ role i j (K.clus (l2 g y (tab g K y i) j))
        go (inl o) = inr (inl (ap K.clus o.entry ∙ sym (dat_some g K m₀ i j o.some)))
        go (inr q) = q.place

    entry_agree : (i j : ℕ) → i < g.L → j < g.E → (d : tab g K y i ≢ 0) → K.clus (l2 g y (tab g K y i) j) ≢ 0 → Agree g.C g.N (K.clus (l2 g y (tab g K y i) j)) cut s
    entry_agree i j i_l j_e d z = place_agree i j _ i_l j_e (ok.laws.in2 _ (joined.fine.sound.goods2 i j i_l j_e d)) z (entry_place i j i_l j_e d)

    -- each guest cluster reads as in some image of the batch
    pub record Reads (i j : ℕ) : Type 0 where
      pub image : ℕ → ℕ → ℕ
      pub was : past image
      pub same : (o : ℕ) → o < g.C → gread g K y i j o ≡ gread g K image i j o

    shows_all : Shows g K ok m0 img k0 role (Known g K past (mem g.C s) dead) cut
    shows_all = (both-kept g K ok m0 img k0 role (Known g K past (mem g.C s) dead) written cs middle₀
        (middle_joined g K ok m0 img k0 role dead r l f s p settled, λ i j i_l j_e d. inl (middle_entry g K ok m0 img k0 role dead r l f s p settled i j i_l j_e d))).1

    -- through a table of the first image
    through_old : (i j : ℕ) → i < g.L → j < g.E → tab g K m₀ i ≢ 0 → Reads i j
    through_old i j i_l j_e d = go (shows_all i j i_l j_e d)
      where
        t : tab g K y i ≡ tab g K m₀ i
        t = (mix_tab g K ok m₀ y role k0.sound mixed i i_l d).1

        known : (v : ℕ) → l2 g y (tab g K m₀ i) j ≡ v → Known g K past (mem g.C s) dead i j v → Reads i j
        known v e k =
            let h : l2 g y (tab g K y i) j ≡ v = ap (λ (n : ℕ). l2 g y n j) t ∙ e in
            record {
              image = k.image;
              was = k.was;
              same = λ o n. sym (current_shows g K past y i j (λ z. d (sym t ∙ z)) o)
                  ∙ shown_frame _ _ _ (mem g.C s (K.clus (l2 g y (tab g K y i) j)) o) (λ a b. entry_agree i j i_l j_e (λ z. d (sym t ∙ z)) b o n)
                  ∙ ap (λ (w : ℕ). shown (K.clus w) (K.flag w) (mem g.C s (K.clus w) o)) h ∙ k.shows o n;
            }

        go : (l2 g y (tab g K m₀ i) j ≡ l2 g m₀ (tab g K m₀ i) j) ⊎ Known g K past (mem g.C s) dead i j (l2 g y (tab g K m₀ i) j) → Reads i j
        go (inl e) = known (l2 g m₀ (tab g K m₀ i) j) e (begun i j i_l j_e d)
        go (inr k) = known (l2 g y (tab g K m₀ i) j) refl k

    -- through a new table: as in memory
    through_new : (i j : ℕ) → i < g.L → j < g.E → (d : tab g K y i ≢ 0) → Linked g K m₀ role i (l1 g y i) → Reads i j
    unfolding tab l2
    through_new i j i_l j_e d k = record { image = mem g.C s; was = last; same = shown-same_as }
      where
        t : ℕ
        t = tab g K y i

        t_n : t < g.N
        t_n = tab_in g K ok y joined.fine.sound i i_l

        here : tab g K (mem g.C s) i ≡ t
        here = settled t i t_n k.used

        entry : l2 g y t j ≡ l2 g (mem g.C s) t j
        entry = num_cong 8 _ _ (8 * j)
            (λ o a b. agree_at t (each_map (no_entry g K ok m0 img k0 role dead r l f s p settled t t_n k.free) p.linking) (not_block g K ok m0 img k0 role dead r l f s p settled t k.free) o (omega (arith, ok.c8)))

        entry' : l2 g y t j ≡ l2 g (mem g.C s) (tab g K (mem g.C s) i) j
        entry' = entry ∙ ap (λ (n : ℕ). l2 g (mem g.C s) n j) (sym here)

        shown-same_as : (o : ℕ) → o < g.C → gread g K y i j o ≡ gread g K (mem g.C s) i j o
        shown-same_as o n =
            sym (current_shows g K past y i j d o)
            ∙ shown_frame _ _ _ (mem g.C s (K.clus (l2 g y (tab g K y i) j)) o) (λ a b. entry_agree i j i_l j_e d b o n)
            ∙ ap (λ (w : ℕ). shown (K.clus w) (K.flag w) (mem g.C s (K.clus w) o)) entry'
            ∙ current_shows g K past (mem g.C s) i j (λ z. d (sym here ∙ z)) o

    pub reads_among : (i j : ℕ) → i < g.L → j < g.E → Reads i j
    reads_among i j i_l j_e = go (ℕ_discrete (tab g K y i) 0) (mixed.l1s i i_l)
      where
        none-there : tab g K y i ≡ 0 → Reads i j
        none-there z = pick (ℕ_discrete (tab g K m₀ i) 0)
          where
            pick : Dec (tab g K m₀ i ≡ 0) → Reads i j
            pick (yes e) = record { image = m₀; was = first; same = λ o n. gread_absent g K y i j o z ∙ sym (gread_absent g K m₀ i j o e) }
            pick (no e) = through_old i j i_l j_e e

        go : Dec (tab g K y i ≡ 0) → (l1 g y i ≡ l1 g m₀ i) ⊎ Linked g K m₀ role i (l1 g y i) → Reads i j
        go (yes z) w = none-there z
        go (no d) (inl e) = through_old i j i_l j_e (λ z. d (tab_eq g K y m₀ i e ∙ z))
        go (no d) (inr k) = through_new i j i_l j_e d k
