-- What an image of the series still has of the earlier bytes: the header's fields and the snapshot table, every table and block but the new entries of the
-- refcount table, and all data. Assumes nothing.
use Prim.Native.Nat.{ℕ, suc, ◌+◌, ◌-◌, ◌*◌, ◌/◌, ◌%◌, ◌≤◌, ◌<◌}
use native.Mathlib.Nat.{div-add-mod', div-lt_iff_lt-mul, mod-lt, mul-le-mul_right, le_refl}
use native.Mathlib.Decide.{dec_lt}
use native.Mathlib.Omega.{arith}
use mathlib.Core.Path.{◌≡◌, refl, sym, ap, ◌∙◌}
use mathlib.Core.Logic.{◌⊎◌, inl, inr, ◌≢◌}
use mathlib.Core.List.{List}
use lib.ListN.{length, get_or, take}
use borrow.Author.Tests.{le-ltb}
use Rattle.choice.specs.Pick.{ceil_div}
use Rattle.endian.proofs.Laws.{be64-same}
use Rattle.cuts.proofs.Cell.{mem, num_cong, cell, cell_cong}
use Rattle.cuts.proofs.Meta.{rt, blk, cnt, row, col, Has, l1, l1_some, l1_none, l2, tab, dat, fix, Sound, tree_in, row_in, cell_in, fix_rt, blk_0, blk_rt, l1_0, l1_rt}
use Rattle.cuts.proofs.Refs.{fix_tab, fix_dat}
use Rattle.cuts.proofs.Step.{fix_one, tab_in, dat_in}
use Rattle.qcow2_spec.specs.Header.{cluster_size, clusters, blocks, per_table, table_at, table_clusters, header_number, snapshots, snapshots_at, snapshot_at, roots}
use Rattle.qcow2_spec.proofs.Facts.{Facts, c_8, c_big, c_pos, n_whole, shot_start, up_le}
use Rattle.qcow2_spec.proofs.Fields.{Field}
use Rattle.qcow2_spec.proofs.Geo.{geo, code, geo_ok}
use Rattle.qcow2_spec.proofs.Kept.{rt_at}
use Rattle.qcow2_longer.proofs.Between.{slot, New, Between}
use Rattle.qcow2_longer.proofs.Earlier.{length-earlier, byte-earlier, field-earlier, earlier-size, earlier-table, earlier-blocks, room, new_few}

module _ (s : List ℕ) (old : ℕ) (n : old ≤ length s) (f : Facts (take old s)) (e : header_number s ≡ 0) (t : List ℕ) (w : Between s old t) where
  abbrev o : List ℕ
  o = take old s

  abbrev C : ℕ
  C = cluster_size o

  abbrev T : ℕ
  T = table_at o / C

  abbrev m : ℕ → ℕ → ℕ
  m = mem C o

  abbrev m' : ℕ → ℕ → ℕ
  m' = mem C t

  -- an earlier byte that is neither the autoclear field's nor a new entry's
  pub byte-same : (p : ℕ) → p < old → (p < 88) ⊎ (96 ≤ p) → ((i : ℕ) → New s old i → (p < slot s i) ⊎ (slot s i + 8 ≤ p)) → get_or t p 0 ≡ get_or o p 0
  byte-same p l h q =
      w.same p (record { field = h; slots = q; fills = λ i v. inl (omega (arith, l, (room s old n f e).place-past i v)) }) ∙ byte-earlier s old n p l

  table-start : T * C ≡ table_at o
  table-start = omega (arith, div-add-mod' (table_at o) C, f.table-whole)

  slot-least : (i : ℕ) → C ≤ slot s i
  slot-least i = omega (arith, (room s old n f e).past, earlier-size s old n f)

  -- a byte before the refcount table's first entry for a new block
  before_slots : (p : ℕ) → p < table_at o + 8 * blocks o → (i : ℕ) → New s old i → (p < slot s i) ⊎ (slot s i + 8 ≤ p)
  before_slots p l i v = inl (omega (arith, l, v.0, earlier-blocks s old n f, earlier-table s old n f))

  -- a cluster that is neither the header's nor the refcount table's
  pub cluster-same : (c x : ℕ) → c < clusters o → x < C → c ≢ 0 → ((a : ℕ) → a < table_clusters o → c ≢ T + a) → m' c x ≡ m c x
  cluster-same c x l h d z =
      byte-same (c * C + x) (omega (arith, mul-le-mul_right C l, n_whole o f, length-earlier s old n)) (inr (omega (arith, c_big o f, mul-le-mul_right C pos))) apart
    where
      pos : 1 ≤ c
      pos = omega arith

      -- a byte of a new entry would lie in the table
      inside : (i : ℕ) → New s old i → slot s i ≤ c * C + x → c * C + x < slot s i + 8 → ⊥
      inside i v p q = z (c - T) below (omega (arith, low))
        where
          table_end : slot s i + 8 ≤ (T + table_clusters o) * C
          table_end =
              let y : table_clusters o * C ≡ table_clusters o * (8 * per_table o) = ap (λ (x : ℕ). table_clusters o * x) (c_8 o f) in
              omega (arith, table-start, new_few s old n f e i v, earlier-table s old n f)

          low : T ≤ c
          low = go (dec_lt c T)
            where
              go : Dec (c < T) → T ≤ c
              go (yes y) = absurd (omega (arith, mul-le-mul_right C y, table-start, p, h, earlier-table s old n f))
              go (no y) = omega arith

          below : c - T < table_clusters o
          below = go (dec_lt c (T + table_clusters o))
            where
              go : Dec (c < T + table_clusters o) → c - T < table_clusters o
              go (yes y) = omega (arith, y, low)
              go (no y) = absurd (omega (arith, mul-le-mul_right C (not-below y), table_end, q))
                where
                  not-below : ¬ (c < T + table_clusters o) → T + table_clusters o ≤ c
                  not-below u = omega arith

      apart : (i : ℕ) → New s old i → (c * C + x < slot s i) ⊎ (slot s i + 8 ≤ c * C + x)
      apart i v = go (dec_lt (c * C + x) (slot s i)) (dec_lt (c * C + x) (slot s i + 8))
        where
          go : Dec (c * C + x < slot s i) → Dec (c * C + x < slot s i + 8) → (c * C + x < slot s i) ⊎ (slot s i + 8 ≤ c * C + x)
          go (yes p) q = inl p
          go (no p) (yes q) = absurd (inside i v (omega arith) q)
          go (no p) (no q) = inr (omega arith)

  module _ (k : Sound (geo o) (code o) m) where
    abbrev one : (c : ℕ) → c < clusters o → fix (geo o) m c ≤ 1
    one = fix_one (geo o) (code o) (geo_ok o f) m k

    -- a cluster of an L1 table or of the snapshot table
    root-same : (u q x : ℕ) → u < suc (roots o) → q < (geo o).span u → x < C → m' ((geo o).root u + q) x ≡ m ((geo o).root u + q) x
    root-same u q x a b l =
        let c = (geo o).root u + q in
        let i : c < clusters o = (geo_ok o f).l1in u q a b in
        cluster-same c x i l (l1_0 (geo o) m c u q a b (one c i) refl) (λ r h. l1_rt (geo o) m c u q r a b h (one c i) refl)

    -- ---- the fields
    pub field-same : (x : ℕ) → Field (snapshots_at o) (snapshot_at o (snapshots o)) x 1 → get_or t x 0 ≡ get_or o x 0
    field-same x (inl (inl h)) = byte-same x (field-earlier s old n f x (inl (inl h))) (inl (omega arith)) (before_slots x (omega (arith, (room s old n f e).past, earlier-size s old n f, earlier-table s old n f, c_big o f)))
    field-same x (inl (inr h)) = byte-same x (field-earlier s old n f x (inl (inr h))) (inr h.0) (before_slots x (omega (arith, (room s old n f e).past, earlier-size s old n f, earlier-table s old n f, c_big o f, h.1)))
    field-same x (inr h) = at t ∙ kept ∙ sym (at o)
      where
        a : ℕ
        a = snapshots_at o

        y : ℕ
        y = x - a

        a_whole : a % C ≡ 0
        a_whole = f.shots-whole (λ z. let q : snapshot_at o (snapshots o) ≡ snapshots_at o = ap (snapshot_at o) z ∙ shot_start o f in omega (arith, h))

        at : (u : List ℕ) → get_or u x 0 ≡ mem C u (a / C + y / C) (y % C)
        at u = ap (λ (z : ℕ). get_or u z 0) (omega (arith, h, div-add-mod' a C, div-add-mod' y C, a_whole))

        here : y / C < ceil_div (snapshot_at o (snapshots o) - a) C
        here = (div-lt_iff_lt-mul (c_pos o f)).1 (omega (arith, h, up_le (snapshot_at o (snapshots o) - a) C (c_pos o f)))

        kept : m' (a / C + y / C) (y % C) ≡ m (a / C + y / C) (y % C)
        kept = (rw (le-ltb (roots o) (roots o) (le_refl (roots o))) at (root-same (roots o) (y / C) (y % C) (le_refl (suc (roots o))))) here (mod-lt y (c_pos o f))

    -- ---- the tables
    pub rt_same : (i : ℕ) → i < blocks o → rt (geo o) m' i ≡ rt (geo o) m i
    rt_same i l = rt_at o f t i ∙ be64-same t (table_at o + 8 * i) o (table_at o + 8 * i) (λ x h. byte-same (table_at o + 8 * i + x) (early x h) (inr (omega (arith, slot-least i, earlier-table s old n f, c_big o f))) (before_slots (table_at o + 8 * i + x) (omega (arith, l, h)))) ∙ sym (rt_at o f o i)
      where
        early : (x : ℕ) → x < 8 → table_at o + 8 * i + x < old
        early x h = omega (arith, h, (room s old n f e).table_in i (omega (arith, l, (room s old n f e).fewer, earlier-blocks s old n f)), earlier-table s old n f)

    pub l1_same : (i : ℕ) → i < (geo o).L → l1 (geo o) m' i ≡ l1 (geo o) m i
    l1_same i l = go (dec_lt (i % (geo o).M) ((geo o).len (i / (geo o).M)))
      where
        go : Dec (Has (geo o) i) → l1 (geo o) m' i ≡ l1 (geo o) m i
        go (no h) = l1_none (geo o) m' i h ∙ sym (l1_none (geo o) m i h)
        go (yes h) =
            l1_some (geo o) m' i h
            ∙ num_cong 8 (m' (row (geo o) i)) (m (row (geo o) i)) (8 * col (geo o) i)
            (λ x p q. root-same (i / (geo o).M) (i % (geo o).M / (geo o).E) x (omega (arith, tree_in (geo o) (code o) (geo_ok o f) i l)) (row_in (geo o) (code o) (geo_ok o f) i l h) (omega (arith, q, c_8 o f, mod-lt (i % (geo o).M) (geo_ok o f).epos)))
            ∙ sym (l1_some (geo o) m i h)

    -- a table or data cluster is none of the refcount table's
    tab_same : (i x : ℕ) → i < (geo o).L → x < C → tab (geo o) (code o) m i ≢ 0 → m' (tab (geo o) (code o) m i) x ≡ m (tab (geo o) (code o) m i) x
    tab_same i x l h d =
        let c = tab (geo o) (code o) m i in
        let a : c < clusters o = tab_in (geo o) (code o) (geo_ok o f) m k i l in
        cluster-same c x a h d (λ r p z. fix_tab (geo o).L (geo o).E (fix (geo o) m) (tab (geo o) (code o) m) (dat (geo o) (code o) m) c i l d (k.inv.fixed c a (fix_rt (geo o) m c r p z)) (fix_rt (geo o) m c r p z) refl)

    pub dat_same : (i j x : ℕ) → i < (geo o).L → j < (geo o).E → x < C → dat (geo o) (code o) m i j ≢ 0 → m' (dat (geo o) (code o) m i j) x ≡ m (dat (geo o) (code o) m i j) x
    dat_same i j x l q h d =
        let c = dat (geo o) (code o) m i j in
        let a : c < clusters o = dat_in (geo o) (code o) (geo_ok o f) m k i j l q in
        cluster-same c x a h d (λ r p z. fix_dat (geo o).L (geo o).E (fix (geo o) m) (tab (geo o) (code o) m) (dat (geo o) (code o) m) c i j l q d (k.inv.fixed c a (fix_rt (geo o) m c r p z)) (fix_rt (geo o) m c r p z) refl)

    pub l2_same : (i j : ℕ) → i < (geo o).L → j < (geo o).E → tab (geo o) (code o) m i ≢ 0 → l2 (geo o) m' (tab (geo o) (code o) m i) j ≡ l2 (geo o) m (tab (geo o) (code o) m i) j
    unfolding l2
    l2_same i j l q d =
        num_cong 8 (m' (tab (geo o) (code o) m i)) (m (tab (geo o) (code o) m i)) (8 * j) (λ x p h. tab_same i x l (omega (arith, h, q, c_8 o f)) d)

    pub cnt_same : (c : ℕ) → c < clusters o → cnt (geo o) m' c ≡ cnt (geo o) m c
    unfolding cnt blk
    cnt_same c l =
        let g = geo o in
        let i = c / g.H in
        let il : i < blocks o = (div-lt_iff_lt-mul (geo_ok o f).hpos).1 (omega (arith, (geo_ok o f).blocks)) in
        let b = rt g m i / C in
        let bl : b < clusters o = k.blkin i il in
        ap (λ (x : ℕ). cell g.W (m' (x / C)) (g.W * (c % g.H))) (rt_same i il)
        ∙ cell_cong g.W (m' b) (m b) (g.W * (c % g.H))
        (λ x p q. cluster-same b x bl (omega (arith, q, cell_in g (code o) (geo_ok o f) m m 0 (λ y z h d. refl) (c % g.H) (mod-lt c (geo_ok o f).hpos))) (blk_0 g m b i il (one b bl) refl) (λ r h. blk_rt g m b i r il h (one b bl) refl))
