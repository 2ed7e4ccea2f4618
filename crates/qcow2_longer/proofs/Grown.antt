-- An image of the series on which no block is left to make is sound or leaking, and is read as the earlier bytes are. Assumes nothing.
use Rattle.std.specs.Prelude.{if◌then◌else◌}
use Prim.Native.Nat.{ℕ, zero, suc, ◌+◌, ◌*◌, ◌/◌, ◌%◌, ◌^◌, ◌≤◌, ◌<◌}
use native.Mathlib.Nat.{mul-div_cancel, mul-mod_left, mod-lt, le_refl, le_trans, mod-eq_of_lt, one-le-pow, zero-lt-suc, mul-zero, pow-suc}
use native.Mathlib.Decide.{dec_lt}
use native.Mathlib.Omega.{arith}
use mathlib.Core.Path.{◌≡◌, refl, sym, ap, ◌∙◌, subst, fun_ext}
use mathlib.Core.Logic.{◌⊎◌, inl, inr}
use mathlib.Core.Bool.{Bool, true, false, not, ◌&&◌, ◌||◌}
use mathlib.Core.List.{List}
use lib.Dec.{leb, ltb, eqb}
use lib.ListN.{length, get_or, take, replicate, length-replicate}
use borrow.Author.Tests.{le-leb, leb-true, le-ltb, ltb-true}
use Rattle.choice.specs.Pick.{ceil_div}
use Rattle.choice.proofs.Tests.{if_no, and-true, or-true, two_ways}
use Rattle.endian.specs.Big.{be64}
use Rattle.endian.proofs.Laws.{SamePart}
use Rattle.widths.specs.Width.{span, number}
use Rattle.widths.proofs.Cells.{Within, number_new, number_same}
use Rattle.cuts.proofs.Cell.{mem}
use Rattle.cuts.proofs.Meta.{Geo, blk, cnt, Sound, cell_in}
use Rattle.cuts.proofs.Longer.{longer, Appended, longer-sound, longer-read}
use Rattle.qcow2_spec.specs.Header.{version, cluster_size, clusters, per_block, width, blocks, per_table, header_number, snapshots, snapshots_at, snapshot_at, roots, root_size, root_at, some_lent, judge}
use Rattle.qcow2_spec.specs.Entries.{place, good_place, good_l1, good_l2, compressed, zero_mark}
use Rattle.qcow2_spec.specs.Guest.{backing_byte, guest_byte, reach, outside, range_number, read_number, read_into}
use Rattle.qcow2_spec.specs.Check.{verdict, checked, check}
use Rattle.qcow2_spec.specs.Series.{Healthy}
use Rattle.qcow2_spec.specs.declared.Verdict.TheVariants.{Refused as NotChecked}
use Rattle.qcow2_spec.proofs.Facts.{Facts, judge_facts, c_pos, e_pos, h_pos, w_pos, root-few}
use Rattle.qcow2_spec.proofs.Fields.{Field, version-same, disk_same, per_table-same, width_same, table_clusters-same, snapshots-same, snapshots_at-same, snapshot_at-same, roots-same, root_size-same, root_at-same, backed-same}
use Rattle.qcow2_spec.proofs.Geo.{len_of, start_of, span_of, nr, geo, code, geo_ok, width_fit}
use Rattle.qcow2_spec.proofs.Kept.{rt_at}
use Rattle.qcow2_spec.proofs.Numbers.{mem-cell}
use Rattle.qcow2_spec.proofs.Verdicts.{sound-healthy}
use Rattle.qcow2_spec.proofs.Ways.{rd, guest_rd, in_root, inside, accepted, read_whole, read-outside}
use Rattle.qcow2_spec.proofs.Series.{each_same, test_same, no_root}
use Rattle.qcow2_longer.specs.Extend.{new_place, new_block}
use Rattle.qcow2_longer.proofs.Between.{New, Between, AllMade}
use Rattle.qcow2_longer.proofs.Earlier.{length-earlier, same-field, earlier-size, earlier-per, earlier-table, earlier-blocks, clusters-more, covers, room}
use Rattle.qcow2_longer.proofs.Same.{field-same, rt_same, l1_same, l2_same, cnt_same, dat_same}
use Rattle.qcow2_longer.proofs.Answers.{t_size, t_per, t_table, t_blocks, t_clusters, t_number, t_done}

-- ---- what is good in an image is good in a longer one
place-more : (C n n' e : ℕ) → n ≤ n' → good_place C n e ≡ true → good_place C n' e ≡ true
unfolding good_place
place-more C n n' e l h = go (or-true (eqb (place e) 0 && eqb (e / 2 ^ 63) 0) _ h)
  where
    t1 : Bool
    t1 = not (eqb (place e) 0) && eqb (place e % C) 0

    go : ((eqb (place e) 0 && eqb (e / 2 ^ 63) 0) ≡ true) ⊎ ((not (eqb (place e) 0) && eqb (place e % C) 0 && leb (place e + C) n) ≡ true)
        → ((eqb (place e) 0 && eqb (e / 2 ^ 63) 0) || (not (eqb (place e) 0) && eqb (place e % C) 0 && leb (place e + C) n')) ≡ true
    go (inl a) = rw a refl
    go (inr a) =
        let p = and-true t1 (leb (place e + C) n) a in
        either (eqb (place e) 0 && eqb (e / 2 ^ 63) 0) (rw (p.0, le-leb (place e + C) n' (le_trans (leb-true (place e + C) n p.1) l)) refl)
      where
        either : (x : Bool) {y : Bool} → y ≡ true → (x || y) ≡ true
        either true q = refl
        either false q = q

good1-more : (C n n' e : ℕ) → n ≤ n' → good_l1 C n e ≡ true → good_l1 C n' e ≡ true
unfolding good_l1
good1-more C n n' e l h =
    let p = and-true (eqb (e % 512) 0 && eqb (e / 2 ^ 56 % 128) 0) _ h in
    rw (p.0, place-more C n n' e l p.1) refl

good2-more : (v C n n' e : ℕ) → n ≤ n' → good_l2 v C n e ≡ true → good_l2 v C n' e ≡ true
unfolding good_l2
good2-more v C n n' e l h =
    let p = and-true (not (compressed e) && eqb (e % 512 / 2) 0 && eqb (e / 2 ^ 56 % 64) 0 && (not (zero_mark e) || eqb v 3)) _ h in
    rw (p.0, place-more C n n' e l p.1) refl

-- a count's first cell in an image's blocks
span_in : (s : List ℕ) (f : Facts s) → span (width s) ≤ cluster_size s
span_in s f =
    let q : width s * 0 / 8 ≡ 0 = ap (λ (x : ℕ). x / 8) (mul-zero (width s)) in
    omega (arith, q, cell_in (geo s) (code s) (geo_ok s f) (mem (cluster_size s) s) (mem (cluster_size s) s) 0 (λ x y z d. refl) 0 (h_pos s f))

cell_first : (s : List ℕ) (f : Facts s) → Within (width s) 0
cell_first s f = subst (Within (width s)) (mul-zero (width s)) (width_fit s f 0)

power_more : (x : ℕ) → 0 < x → 1 < 2 ^ x
power_more zero h = absurd (omega arith)
power_more (suc x) h = omega (arith, pow-suc 2 x, one-le-pow x 2 (zero-lt-suc 1))

module _ (s : List ℕ) (old : ℕ) (n : old ≤ length s) (f : Facts (take old s)) (e : header_number s ≡ 0)
    (k : Sound (geo (take old s)) (code (take old s)) (mem (cluster_size (take old s)) (take old s))) (t : List ℕ) (w : Between s old t) (h : AllMade s old t) where
  abbrev o : List ℕ
  o = take old s

  abbrev C : ℕ
  C = cluster_size o

  abbrev m' : ℕ → ℕ → ℕ
  m' = mem C t

  -- ---- the new blocks
  place_is : (i : ℕ) → new_place s i ≡ i * per_block o * C
  unfolding new_place
  place_is i = rw (earlier-size s old n f, earlier-per s old n f) refl

  new_block_lem : (i : ℕ) → New s old i → blk (geo o) m' i ≡ i * per_block o
  unfolding blk
  new_block_lem i v =
      ap (λ (x : ℕ). x / C) (rt_at o f t i ∙ ap (λ (x : ℕ). be64 t (x + 8 * i)) (sym (earlier-table s old n f)) ∙ (h i v).named ∙ place_is i)
      ∙ mul-div_cancel (i * per_block o) (c_pos o f)

  -- a block's own count
  block_count : number (width o) (new_block s) 0 ≡ 1
  unfolding new_block
  block_count =
      rw (width_same o s (snapshots_at o) (snapshot_at o (snapshots o)) (same-field s old n f), earlier-size s old n f)
      (number_new (width o) (replicate C 0) 0 1 (cell_first o f) (rw (length-replicate {A = ℕ} C 0) (omega (arith, span_in o f))) ∙ mod-eq_of_lt {n = 1} {m = 2 ^ width o} (power_more (width o) (w_pos o f)))

  new_one : (i : ℕ) → New s old i → cnt (geo o) m' (i * per_block o) ≡ 1
  unfolding cnt
  new_one i v =
      rw (mul-div_cancel i (h_pos o f), mul-mod_left i (per_block o), mul-zero (width o))
      (mem-cell C (blk (geo o) m' i) (width o) 0 t
      ∙ ap (number (width o) t) at
      ∙ number_same (width o) t (8 * new_place s i) (new_block s) 0 (omega arith) part
      ∙ block_count)
    where
      at : 8 * (blk (geo o) m' i * C) + 0 ≡ 8 * new_place s i
      at = rw (new_block_lem i v) (omega (arith, place_is i))

      part : SamePart t (8 * new_place s i / 8) (new_block s) (0 / 8) (span (width o))
      part x l =
          let a : 8 * new_place s i / 8 ≡ new_place s i = omega arith in
          let b : 0 / 8 + x ≡ x = omega arith in
          rw (a, b) ((h i v).filled x (rw (earlier-size s old n f) (omega (arith, l, span_in o f))))

  -- ---- in the machinery's terms
  is_new : (i : ℕ) → blocks o ≤ i → i < blocks t → New s old i
  is_new i p q = (omega (arith, p, earlier-blocks s old n f), omega (arith, q, t_blocks s old n f e k t w))

  appended : Appended (geo o) (code o) (mem C o) (clusters t) (blocks t) (code t) m'
  appended =
      record {
        more = rw (t_clusters s old n f e k t w) (clusters-more s old n f e);
        most = omega (arith, t_blocks s old n f e k t w, (room s old n f e).fewer, earlier-blocks s old n f);
        clus = λ x. ap (λ (c : ℕ). place x / c) (t_size s old n f e k t w);
        flag = λ x. refl;
        own = λ x. refl;
        good1 = λ x g. rw (t_size s old n f e k t w) (good1-more C (length o) (length t) x longer-length g);
        good2 = λ x g. rw (t_size s old n f e k t w, t_version) (good2-more (version o) C (length o) (length t) x longer-length g);
        small = λ c x. w.small (c * C + x);
        rts = rt_same s old n f e t w k;
        l1s = l1_same s old n f e t w k;
        l2s = l2_same s old n f e t w k;
        cnts = cnt_same s old n f e t w k;
        news = λ i p q. new_block_lem i (is_new i p q);
        new_in = λ i p q. rw (t_clusters s old n f e k t w, ← earlier-per s old n f) (covers s old n f e i (is_new i p q).1);
        ones = λ i p q. omega (arith, new_one i (is_new i p q));
        datas = dat_same s old n f e t w k;
      }
    where
      longer-length : length o ≤ length t
      longer-length = omega (arith, length-earlier s old n, n, w.len)

      t_version : version t ≡ version o
      t_version = version-same o t (snapshots_at o) (snapshot_at o (snapshots o)) (field-same s old n f e t w k)

  geo_longer : geo t ≡ longer (geo o) (clusters t) (blocks t)
  geo_longer = simp (t_size s old n f e k t w, per_table-same o t a b same, t_per s old n f e k t w, width_same o t a b same, roots-same o t a b same, t_table s old n f e k t w, table_clusters-same o t a b same, disk_same o t a b same, lens, starts, spans)
    where
      a : ℕ
      a = snapshots_at o

      b : ℕ
      b = snapshot_at o (snapshots o)

      same : (x : ℕ) → Field a b x 1 → get_or t x 0 ≡ get_or o x 0
      same = field-same s old n f e t w k

      pick : {A : Type 0} (i : ℕ) (x y z : A) → (i < roots o → x ≡ y) → (if ltb i (roots o) then x else z) ≡ (if ltb i (roots o) then y else z)
      pick i x y z q = go (ltb i (roots o)) (λ u. q (ltb-true _ _ u))
        where
          go : (c : Bool) → (c ≡ true → x ≡ y) → (if c then x else z) ≡ (if c then y else z)
          go true q = q refl
          go false q = refl

      lens : len_of t ≡ len_of o
      lens = fun_ext (λ i. rw (roots-same o t a b same) (pick i (root_size t i) (root_size o i) 0 (root_size-same o f t same i)))

      starts : start_of t ≡ start_of o
      starts = fun_ext (λ i. rw (roots-same o t a b same, snapshots_at-same o t a b same, t_size s old n f e k t w) (ap (λ (x : ℕ). x / C) (pick i (root_at t i) (root_at o i) (snapshots_at o) (root_at-same o f t same i))))

      spans : span_of t ≡ span_of o
      spans = fun_ext (λ i. rw (roots-same o t a b same, snapshots_at-same o t a b same, snapshots-same o t a b same, snapshot_at-same o f t same (snapshots o) (le_refl (snapshots o)), t_size s old n f e k t w)
          (ap (λ (x : ℕ). ceil_div x C) (pick i (8 * root_size t i) (8 * root_size o i) _ (λ l. ap (λ (x : ℕ). 8 * x) (root_size-same o f t same i l)))))

  grown : Sound (geo t) (code t) (mem (cluster_size t) t)
  grown = subst (λ (g : Geo). Sound g (code t) (mem g.C t)) (sym geo_longer) (longer-sound (geo o) (code o) (geo_ok o f) (mem C o) (clusters t) (blocks t) (code t) m' appended k)

  module _ (backing : List ℕ) (j : judge backing o ≡ 0) where
    pub grown-judged : judge backing t ≡ 0
    unfolding judge
    grown-judged = t_number s old n f e k t w (some_lent backing) j ∙ t_done s old n f e k t w h

    ft : Facts t
    ft = judge_facts backing t grown-judged

    pub grown-healthy : Healthy (check backing t (2 * clusters t))
    unfolding check checked
    grown-healthy =
        rw (grown-judged, if_no (ltb (2 * clusters t) (2 * clusters t)) (NotChecked 15) (verdict t) (le-ltb (2 * clusters t) (2 * clusters t) (le_refl (2 * clusters t))))
        (sound-healthy t ft grown)

    -- ---- reads
    same-roots : roots t ≡ roots o
    same-roots = roots-same o t (snapshots_at o) (snapshot_at o (snapshots o)) (field-same s old n f e t w k)

    same-reach : (u : ℕ) → u < roots o → reach t u ≡ reach o u
    unfolding reach
    same-reach zero l = disk_same o t (snapshots_at o) (snapshot_at o (snapshots o)) (field-same s old n f e t w k)
    same-reach (suc q) l = rw (root_size-same o f t (field-same s old n f e t w k) (suc q) l, per_table-same o t (snapshots_at o) (snapshot_at o (snapshots o)) (field-same s old n f e t w k), t_size s old n f e k t w) refl

    same_backing : (y : ℕ) → backing_byte backing t y ≡ backing_byte backing o y
    unfolding backing_byte
    same_backing y = rw (backed-same o t (snapshots_at o) (snapshot_at o (snapshots o)) (field-same s old n f e t w k)) refl

    same_byte : (u : ℕ) → u < roots o → (y : ℕ) → y < reach o u → guest_byte backing t u y ≡ guest_byte backing o u y
    same_byte u l y q =
        guest_rd t ft backing grown u (rw same-roots l) y (rw (same-reach u l) q)
        ∙ ap (λ (g : Geo). rd g (code t) (backing_byte backing t) t u y) geo_longer
        ∙ longer-read (geo o) (code o) (geo_ok o f) (mem C o) (clusters t) (blocks t) (code t) m' appended (nr u (y / C / per_table o)) (y / C % per_table o) (y % C) (backing_byte backing t y)
        (omega (arith, l, in_root o f u y q, root-few o f u l)) (mod-lt (y / C) (e_pos o f)) (mod-lt y (c_pos o f))
        ∙ ap (λ (v : ℕ). rd (geo o) (code o) (λ z. v) o u y) (same_backing y)
        ∙ sym (guest_rd o f backing k u l y q)

    out_same : (u x len : ℕ) → outside t u x len ≡ outside o u x len
    out_same u x len = go (dec_lt u (roots o))
      where
        go : Dec (u < roots o) → outside t u x len ≡ outside o u x len
        go (yes l) = test_same t o u x len same-roots (same-reach u l)
        go (no l) = no_root t u x len (omega (arith, same-roots, l)) ∙ sym (no_root o u x len (omega arith))

    outside-number : (c : List ℕ) → judge backing c ≡ 0 → (u x len : ℕ) → outside c u x len ≡ true → read_number backing c u x len ≡ 11
    unfolding read_number range_number
    outside-number c q u x len p = rw (q, p) refl

    pub grown-numbers : (u x len : ℕ) → read_number backing t u x len ≡ read_number backing o u x len
    grown-numbers u x len = go (two_ways (outside o u x len))
      where
        go : (outside o u x len ≡ true) ⊎ (outside o u x len ≡ false) → read_number backing t u x len ≡ read_number backing o u x len
        go (inl p) = outside-number t grown-judged u x len (out_same u x len ∙ p) ∙ sym (outside-number o j u x len p)
        go (inr p) = accepted t ft backing grown-judged grown u x len (out_same u x len ∙ p) ∙ sym (accepted o f backing j k u x len p)

    pub grown-reads : (u x : ℕ) (out : List ℕ) → read_into backing t u x out ≡ read_into backing o u x out
    grown-reads u x out = go (two_ways (outside o u x (length out)))
      where
        go : (outside o u x (length out) ≡ true) ⊎ (outside o u x (length out) ≡ false) → read_into backing t u x out ≡ read_into backing o u x out
        go (inl p) = read-outside t ft backing grown-judged u x out (out_same u x (length out) ∙ p) ∙ sym (read-outside o f backing j u x out p)
        go (inr p) =
            let q = inside o f u x (length out) p in
            read_whole t ft backing grown-judged grown u x out (out_same u x (length out) ∙ p)
            ∙ each_same (guest_byte backing t u) (guest_byte backing o u) (length out) x (λ y a b. same_byte u q.0 y (omega (arith, b, q.1)))
            ∙ sym (read_whole o f backing j k u x out p)
