-- Calls planned one after another in memory: what is known of the image that they leave there, and of their units by phase. Assumes nothing.
use mathlib.Core.Path.{◌≡◌, refl, sym, ap, ◌∙◌}
use mathlib.Core.Logic.{◌⊎◌, inl, inr, ◌≢◌}
use mathlib.Core.Bool.{Bool}
use mathlib.Core.List.{List, []}
use Prim.Native.Nat.{ℕ, ◌+◌, ◌*◌, ◌/◌, ◌%◌, ◌^◌, ◌≤◌, ◌<◌}
use native.Mathlib.Nat.{mod-lt, div-lt_iff_lt-mul}
use native.Mathlib.Decide.{dec_lt}
use native.Mathlib.Omega.{arith}
use Rattle.cuts.proofs.Refs.{refs_fix, fix_tab, free_tab}
use Rattle.cuts.proofs.Cell.{num, num_cong, small_nil, mem}
use Rattle.cuts.proofs.Meta.{Geo, GeoOk, Codec, rt, blk, cnt, row, col, l1, l1_some, l1_none, l2, fix, tab, dat, refs_of, Keep, keep_tab, keep_refs, fix_blk, blk_0, blk_rt, blk_l1, tree_in, row_in}
use Rattle.cuts.proofs.Step.{fix_one, free-not-0}
use Rattle.cuts.proofs.Run.{Store, apply_all, picked, Each, none, also}
use Rattle.cuts.proofs.Call.{Ok, count_store, in_blocks}
use Rattle.batches.proofs.Mixture.{Use, unused, table, Linked, Put, Old, Mixture}
use Rattle.batches.proofs.Prepared.{Prepared, Ready, spare, prepared_start, ready-all, Raises}
use Rattle.batches.proofs.Joined.{Joined, Linking}
use Rattle.batches.proofs.Lists.{Fit, Agree, Apart, each_map, Merge, empty, left, right, merge-left}
use Rattle.batches.proofs.Units.{ready_fit, linking_fit, linking_apart, count_fit}
use Rattle.batches.proofs.Order.{cell_at, Cell}
use Rattle.batches.proofs.Phases.{middle, late, two_phases, start, joined-late, Falling, falls, among_cut, after_cut}

pub tab_eq : (g : Geo) (K : Codec) (a b : ℕ → ℕ → ℕ) (i : ℕ) → l1 g a i ≡ l1 g b i → tab g K a i ≡ tab g K b i
unfolding tab
tab_eq g K a b i e = ap K.clus e

pub blk_eq : (g : Geo) (a b : ℕ → ℕ → ℕ) (n : ℕ) → rt g a n ≡ rt g b n → blk g a n ≡ blk g b n
unfolding blk
blk_eq g a b n e = ap (λ (x : ℕ). x / g.C) e

module _ (g : Geo) (K : Codec) (ok : GeoOk g K) (m0 : ℕ → ℕ → ℕ) where
  -- images that agree but in the blocks have the same tables
  agree_keep : (s t : List ℕ) → Ok g K m0 s → ((k x : ℕ) → mem g.C t k x < 256)
      → ((k : ℕ) → ((b : ℕ) → b < g.B → k ≢ blk g (mem g.C s) b) → Agree g.C g.N k t s) → Keep g K (mem g.C s) (mem g.C t)
  unfolding rt l2
  agree_keep s t k small a =
      record {
        small = small;
        rts = λ n l. num_cong 8 _ _ (8 * (n % g.E))
            (λ x p q. a (g.rtc + n / g.E) (λ b h e. blk_rt g m (blk g m b) b (n / g.E) h ((div-lt_iff_lt-mul ok.epos).1 l) (one b h) refl (sym e)) x (omega (arith, ok.c8, mod-lt n ok.epos)));
        l1s = λ i l. entry1 i l (dec_lt (i % g.M) (g.len (i / g.M)));
        l2s = λ i j l n d. num_cong 8 _ _ (8 * j)
            (λ x p q. a (tab g K m i) (λ b h e. fix_tab g.L g.E (fix g m) (tab g K m) (dat g K m) (blk g m b) i l (some b h) (k.sound.inv.fixed _ (in_n b h) (fixed b h)) (fixed b h) (sym e)) x (omega (arith, ok.c8)));
      }
    where
      m : ℕ → ℕ → ℕ
      m = mem g.C s

      in_n : (b : ℕ) → b < g.B → blk g m b < g.N
      in_n b h = k.sound.blkin b h

      one : (b : ℕ) → b < g.B → fix g m (blk g m b) ≤ 1
      one b h = fix_one g K ok m k.sound (blk g m b) (in_n b h)

      fixed : (b : ℕ) → b < g.B → 1 ≤ fix g m (blk g m b)
      fixed b h = fix_blk g m (blk g m b) b h refl

      some : (b : ℕ) → b < g.B → blk g m b ≢ 0
      some b h = blk_0 g m (blk g m b) b h (one b h) refl

      entry1 : (i : ℕ) → i < g.L → Dec (i % g.M < g.len (i / g.M)) → l1 g (mem g.C t) i ≡ l1 g m i
      entry1 i l (no n) = l1_none g (mem g.C t) i n ∙ sym (l1_none g m i n)
      entry1 i l (yes y) =
          l1_some g (mem g.C t) i y
          ∙ num_cong 8 _ _ (8 * col g i)
          (λ x p q. a (row g i) (λ b h e. blk_l1 g m (blk g m b) b (i / g.M) (i % g.M / g.E) h (omega (arith, tree_in g K ok i l)) (row_in g K ok i l y) (one b h) refl (sym e)) x
          (omega (arith, ok.c8, mod-lt (i % g.M) ok.epos)))
          ∙ sym (l1_some g m i y)

-- L1 entry i names t, or will, when all that the table needs is stored
abbrev pub Tabled : (g : Geo) (K : Codec) → List ℕ → (t i : ℕ) → Type 0
Tabled g K s t i = (i < g.L) × ((tab g K (mem g.C s) i ≡ t) ⊎ ((tab g K (mem g.C s) i ≡ 0) × (refs_of g K (mem g.C s) t ≡ 0)))

-- where the tables stay
pub keep_tabled : (g : Geo) (K : Codec) (ok : GeoOk g K) (s s' : List ℕ) → Keep g K (mem g.C s) (mem g.C s') → (t i : ℕ) → Tabled g K s t i → Tabled g K s' t i
keep_tabled g K ok s s' e t i h = (h.0, go h.1)
  where
    same : tab g K (mem g.C s') i ≡ tab g K (mem g.C s) i
    same = keep_tab g K ok (mem g.C s) (mem g.C s') e i h.0

    go : (tab g K (mem g.C s) i ≡ t) ⊎ ((tab g K (mem g.C s) i ≡ 0) × (refs_of g K (mem g.C s) t ≡ 0))
        → (tab g K (mem g.C s') i ≡ t) ⊎ ((tab g K (mem g.C s') i ≡ 0) × (refs_of g K (mem g.C s') t ≡ 0))
    go (inl a) = inl (same ∙ a)
    go (inr a) = inr (same ∙ a.0, keep_refs g K ok (mem g.C s) (mem g.C s') e t ∙ a.1)

module _ (g : Geo) (K : Codec) (ok : GeoOk g K) (m0 : ℕ → ℕ → ℕ) (img : List ℕ) (k0 : Ok g K m0 img) where
  abbrev m : ℕ → ℕ → ℕ
  m = mem g.C img

  -- a count of cluster c that covers the references in s; c is one of those whose count the batch has lowered
  pub data Lowers (dead : ℕ → Type 0) (s : List ℕ) : Store → Type 0 where
    lowers : (c v : ℕ) → c < g.N → v < 2 ^ g.W → dead c → refs_of g K (mem g.C s) c ≤ v → Lowers dead s (count_store g m c v)

  -- the calls of a batch so far leave s in memory, where their units are r before the entries, l and f. A cluster that they have taken has a use, and
  -- its count is not 0 unless it was lowered; one that was neither taken nor lowered has its first count
  pub record Planned (role : ℕ → Use) (dead : ℕ → Type 0) (r l f : List Store) (s : List ℕ) : Type 0 where
    pub fine : Ok g K m0 s
    pub both : List Store
    pub every : List Store
    pub first : Merge r l both
    pub second : Merge both f every
    pub is : apply_all g.C every img ≡ s
    pub mix : Mixture g K m role (mem g.C s)
    pub ready : Each (Ready g K ok m0 img) r
    pub linking : Each (Linking g K ok m0 img k0 role) l
    pub falling : Each (Lowers dead s) f
    pub free : (c : ℕ) → c < g.N → role c ≢ unused → refs_of g K m c ≡ 0
    pub raise : (c : ℕ) → c < g.N → role c ≢ unused → Raises g K ok m0 img c r
    pub bare : (c : ℕ) → c < g.N → role c ≢ unused → cnt g m c ≡ 0
    pub tables : (t i : ℕ) → t < g.N → role t ≡ table i → Tabled g K s t i
    pub order : (c : ℕ) → Cell g K ok m0 img k0 c → cell_at g K ok m0 img k0 (apply_all g.C f (apply_all g.C r img)) c ≡ cell_at g K ok m0 img k0 s c
    pub counted : (c : ℕ) → c < g.N → dead c ⊎ (((role c ≢ unused) × (1 ≤ cnt g (mem g.C s) c)) ⊎ ((role c ≡ unused) × (cnt g (mem g.C s) c ≡ cnt g m c)))

  -- every new table is linked: no call is under way
  abbrev pub Settled : (ℕ → Use) → List ℕ → Type 0
  Settled role s = (t i : ℕ) → t < g.N → role t ≡ table i → tab g K (mem g.C s) i ≡ t

  module _ (role : ℕ → Use) (dead : ℕ → Type 0) (r l f : List Store) (s : List ℕ) (p : Planned role dead r l f s) (whole : Settled role s) where
    fits_r : Each (Fit g.C g.N) r
    fits_r = each_map (ready_fit g K ok m0 img k0) p.ready

    pub fits_l : Each (Fit g.C g.N) l
    fits_l = each_map (linking_fit g K ok m0 img k0 role) p.linking

    pub lowers_fit : (u : Store) → Lowers dead s u → Fit g.C g.N u
    lowers_fit u (lowers c v h lv d n) = count_fit g K ok m0 img k0 c v h

    -- the falling counts lie in blocks
    pub lowers_apart : (k : ℕ) → ((b : ℕ) → b < g.B → k ≢ blk g m b) → (u : Store) → Lowers dead s u → Apart g.C g.N k u
    unfolding count_store
    lowers_apart k a u (lowers c v h lv d n) e = a (c / g.H) (in_blocks g K ok m0 c h) e

    merge-fits : {us vs ws : List Store} → Merge us vs ws → Each (Fit g.C g.N) us → Each (Fit g.C g.N) vs → Each (Fit g.C g.N) ws
    merge-fits empty a b = none
    merge-fits (left h) (also a c) b = also a (merge-fits h c b)
    merge-fits (right h) a (also b c) = also b (merge-fits h a c)

    -- but in the blocks, the units before the falling counts leave what is in memory
    both_agree : (k : ℕ) → ((b : ℕ) → b < g.B → k ≢ blk g m b) → Agree g.C g.N k (apply_all g.C p.both img) s
    both_agree k a x h =
        sym (ap (λ (t : List ℕ). mem g.C t k x) (sym p.is)
        ∙ merge-left g.C g.N k p.second (merge-fits p.first fits_r fits_l) (each_map lowers_fit p.falling) (each_map (lowers_apart k a) p.falling) img k0.len x h)

    abbrev pub late_image : List ℕ
    late_image = late g K ok m0 img k0 role r l p.ready p.linking

    pub late_agree : (k : ℕ) → ((b : ℕ) → b < g.B → k ≢ blk g m b) → Agree g.C g.N k late_image s
    late_agree k a x h = two_phases g K ok m0 img k0 role r l p.ready p.linking p.both p.first k x h ∙ both_agree k a x h

    -- a cluster to which nothing referred is no block, and no entry is stored there
    pub not_block : (t : ℕ) → refs_of g K m t ≡ 0 → (b : ℕ) → b < g.B → t ≢ blk g m b
    not_block t z b h e = omega (arith, fix_blk g m t b h e, refs_fix g.L g.E (fix g m) (tab g K m) (dat g K m) t)

    pub no_entry : (t : ℕ) → t < g.N → refs_of g K m t ≡ 0 → (u : Store) → Linking g K ok m0 img k0 role u → Apart g.C g.N t u
    no_entry t h z u q e = linking_apart g K ok m0 img k0 role u (record { w = t; o = 0; bs = λ x. [] }) q (spare t 0 [] h (omega arith) small_nil z) (sym e)

    abbrev pub middle_image : List ℕ
    middle_image = middle g K ok m0 img k0 role r l p.ready p.linking

    -- what is stored where no entry and no count is, is stored before them
    pub before_agree : (t : ℕ) → Each (Apart g.C g.N t) l → ((b : ℕ) → b < g.B → t ≢ blk g m b) → Agree g.C g.N t middle_image s
    before_agree t a n x h = sym (merge-left g.C g.N t p.first fits_r fits_l a img k0.len x h) ∙ both_agree t n x h

    middle_agree : (t : ℕ) → t < g.N → refs_of g K m t ≡ 0 → Agree g.C g.N t middle_image s
    middle_agree t h z = before_agree t (each_map (no_entry t h z) p.linking) (not_block t z)

    -- a new table is filled before the entries
    filled : (t i j : ℕ) → t < g.N → role t ≡ table i → refs_of g K m t ≡ 0 → j < g.E → Put g K m role i j (l2 g (mem g.C middle_image) t j)
    unfolding l2
    filled t i j h e z n = rw same (go (p.mix.l1s i i_l) (p.mix.l2s i j i_l n (λ y. t0 (sym at_t ∙ y))))
      where
        i_l : i < g.L
        i_l = (p.tables t i h e).0

        at_t : tab g K (mem g.C s) i ≡ t
        at_t = whole t i h e

        t0 : t ≢ 0
        t0 = free-not-0 g K ok m k0.sound t z

        same : num 8 (mem g.C middle_image t) (8 * j) ≡ l2 g (mem g.C s) (tab g K (mem g.C s) i) j
        same = num_cong 8 _ _ (8 * j) (λ x a b. middle_agree t h z x (omega (arith, ok.c8))) ∙ ap (λ (y : ℕ). l2 g (mem g.C s) y j) (sym at_t)

        strange : tab g K m i ≢ 0 → (l1 g (mem g.C s) i ≡ l1 g m i) ⊎ Linked g K m role i (l1 g (mem g.C s) i) → ⊥
        strange d (inl f) = free_tab g.L g.E (fix g m) (tab g K m) (dat g K m) t z t0 i i_l (sym at_t ∙ tab_eq g K (mem g.C s) m i f)
        strange d (inr k) = d k.before

        go : (l1 g (mem g.C s) i ≡ l1 g m i) ⊎ Linked g K m role i (l1 g (mem g.C s) i)
            → Old g K m role i j (l2 g (mem g.C s) (tab g K (mem g.C s) i) j) ⊎ Put g K m role i j (l2 g (mem g.C s) (tab g K (mem g.C s) i) j)
            → Put g K m role i j (l2 g (mem g.C s) (tab g K (mem g.C s) i) j)
        go w (inl o) = absurd (strange o.some w)
        go w (inr q) = q

    -- before the entries the tables are the first image's
    pub middle_joined : Joined g K ok m0 img k0 role middle_image
    middle_joined = start g K ok m0 img k0 role r l p.ready p.linking p.raise filled

    pub middle_entry : (i j : ℕ) → i < g.L → j < g.E → tab g K m i ≢ 0 → l2 g (mem g.C middle_image) (tab g K m i) j ≡ l2 g m (tab g K m i) j
    middle_entry i j h n d = (ready-all g K ok m0 img p.ready img (prepared_start g K ok m0 img k0)).keep.l2s i j h n d

    -- ---- what a cut leaves
    -- the entries at work
    pub cut_among : (cs : List Bool) → Joined g K ok m0 img k0 role (apply_all g.C (picked cs l) middle_image)
    cut_among = among_cut g K ok m0 img k0 role r l p.ready p.linking p.raise filled

    -- all entries are those in memory
    pub late_keep : Keep g K (mem g.C s) (mem g.C late_image)
    late_keep =
        agree_keep g K ok m0 s late_image p.fine (joined-late g K ok m0 img k0 role r l p.ready p.linking p.raise filled).fine.sound.bytes
        (λ k a. late_agree k (λ b h e. a b h (e ∙ sym (mix_blk b h))))
      where
        mix_blk : (b : ℕ) → b < g.B → blk g (mem g.C s) b ≡ blk g m b
        mix_blk b h = blk_eq g (mem g.C s) m b (p.mix.rts b (omega (arith, ok.rtfit)))

    -- the falling counts at work
    pub cut_after : (cs : List Bool) → Prepared g K ok m0 late_image (apply_all g.C (picked cs f) late_image)
    cut_after = after_cut g K ok m0 img k0 role r l p.ready p.linking p.raise filled f (each_map covers p.falling)
      where
        covers : (u : Store) → Lowers dead s u → Falling g K ok m0 img k0 role r l p.ready p.linking p.raise filled u
        covers u (lowers c v h lv d n) = falls c v h lv (rw (keep_refs g K ok (mem g.C s) (mem g.C late_image) late_keep c) n)
