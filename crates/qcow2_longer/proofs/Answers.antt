-- What an image of the series is answered: extending is accepted on it, and every other call is refused with 10 while a block is left to make and
-- judges it as the earlier bytes once none is. Assumes nothing.
use Rattle.std.specs.Prelude.{if◌then◌else◌}
use Prim.Native.Nat.{ℕ, zero, suc, ◌+◌, ◌-◌, ◌*◌, ◌/◌, ◌%◌, ◌≤◌, ◌<◌}
use native.Mathlib.Nat.{mul-mod_left, le_refl, zero-add}
use native.Mathlib.Decide.{dec_lt}
use native.Mathlib.Omega.{arith}
use mathlib.Core.Path.{◌≡◌, refl, sym, ap, ap₂, ◌∙◌}
use mathlib.Core.Logic.{◌⊎◌, inl, inr, ◌≢◌}
use mathlib.Core.Bool.{Bool, true, false, not, ◌||◌}
use mathlib.Core.List.{List}
use lib.Dec.{ltb, eqb}
use lib.ListN.{length, get_or, take, drop}
use borrow.Author.Tests.{eq-eqb, ne_eqb, le-leb, le-ltb, eqb-false}
use Rattle.choice.specs.Pick.{unless, all, first, ceil_div}
use Rattle.choice.proofs.Tests.{true-not-false, if_no, and-true, false-or, two_ways}
use Rattle.choice.proofs.Found.{first-false}
use Rattle.endian.specs.Big.{be64, entries}
use Rattle.endian.proofs.Laws.{be64-same}
use Rattle.endian.proofs.Entries.{be64-drop, take-entries, drop-entries}
use Rattle.cuts.proofs.Cell.{mem}
use Rattle.cuts.proofs.Meta.{Sound}
use Rattle.qcow2_spec.specs.Header.{least_length, most_l1, cluster_size, clusters, per_block, blocks, per_table, table_at, table_clusters, table, block_at, good_block, good_table, header_number, table_number, backing_number, snapshots, snapshots_at, snapshot_at, roots, root_size, root_at, bad_snapshot, snapshot_number, judge_lent}
use Rattle.qcow2_spec.proofs.Facts.{Facts, all-entries, entries-all, judged-parts, block_named, root-count}
use Rattle.qcow2_spec.proofs.Fields.{Field, size_same, table_at_same, table_clusters-same, per_table-same, per_block-same, clusters-same, blocks-same, header-same, snapshots-same, snapshots_at-same, snapshot_at-same, root_size-same, root_at-same, backed-same, bad_name-same}
use Rattle.qcow2_spec.proofs.Geo.{geo, code}
use Rattle.qcow2_spec.proofs.Kept.{rt_at, rt_own}
use Rattle.qcow2_spec.proofs.Verdicts.{run-all}
use Rattle.qcow2_longer.specs.Extend.{bad_old, old_blocks, new_blocks, new_place, to_make, good_new, good_longer, longer_number, extend_number}
use Rattle.qcow2_longer.proofs.Between.{slot, New, Room, Made, Between, AllMade, SomeLeft}
use Rattle.qcow2_longer.proofs.Earlier.{length-earlier, same-field, earlier-size, earlier-per, earlier-table, earlier-blocks, later_zero, room, enough, table-earlier, whole-sectors}
use Rattle.qcow2_longer.proofs.Same.{field-same, rt_same}

-- what is asked of the entries of a table of K entries at a place, of the first b and of those from c on
module _ (p q : ℕ → Bool) (b c K at : ℕ) (s : List ℕ) where
  first-entries : b ≤ K → ((i : ℕ) → i < b → p (be64 s (at + 8 * i)) ≡ true) → all p (take b (entries K (drop at s))) ≡ true
  first-entries l h = rw (take-entries b K (drop at s) l) (entries-all p b (drop at s) (λ i m. ap p (be64-drop s at (8 * i)) ∙ h i m))

  last-entries : c ≤ K → ((i : ℕ) → c ≤ i → i < K → q (be64 s (at + 8 * i)) ≡ true) → all q (drop c (entries K (drop at s))) ≡ true
  last-entries l h =
      rw (drop-entries c K (drop at s) l)
      (entries-all q (K - c) (drop (8 * c) (drop at s)) (λ i m. ap q (be64-drop (drop at s) (8 * c) (8 * i) ∙ be64-drop s at (8 * c + 8 * i) ∙ ap (λ (x : ℕ). be64 s (at + x)) (places i)) ∙ h (c + i) (omega arith) (omega arith)))
    where
      places : (i : ℕ) → 8 * c + 8 * i ≡ 8 * (c + i)
      places i = omega arith

-- an entry that names a block
pub good_block_lem : (C n e : ℕ) → e ≢ 0 → e % C ≡ 0 → e % 512 ≡ 0 → e + C ≤ n → good_block C n e ≡ true
unfolding good_block
good_block_lem C n e d a b l = simp (ne_eqb e 0 d, eq-eqb (e % C) 0 a, eq-eqb (e % 512) 0 b, le-leb (e + C) n l)

block_not-0 : (C n e : ℕ) → e ≡ 0 → good_block C n e ≡ false
unfolding good_block
block_not-0 C n e z = rw z refl

module _ (s : List ℕ) (old : ℕ) (n : old ≤ length s) (f : Facts (take old s)) (e : header_number s ≡ 0)
    (k : Sound (geo (take old s)) (code (take old s)) (mem (cluster_size (take old s)) (take old s))) (t : List ℕ) (w : Between s old t) where
  abbrev o : List ℕ
  o = take old s

  abbrev a : ℕ
  a = snapshots_at o

  abbrev b : ℕ
  b = snapshot_at o (snapshots o)

  abbrev r : Room s old
  r = room s old n f e

  -- t's fields are those of the whole, and those of the earlier bytes
  whole-field : (x : ℕ) → Field a b x 1 → get_or t x 0 ≡ get_or s x 0
  whole-field x h = field-same s old n f e t w k x h ∙ sym (same-field s old n f x h)

  early-field : (x : ℕ) → Field a b x 1 → get_or t x 0 ≡ get_or o x 0
  early-field = field-same s old n f e t w k

  t_header : header_number t ≡ 0
  t_header = header-same s t a b whole-field w.len ∙ e

  pub t_size : cluster_size t ≡ cluster_size o
  t_size = size_same o t a b early-field

  pub t_per : per_block t ≡ per_block o
  t_per = per_block-same o t a b early-field

  pub t_table : table_at t ≡ table_at o
  t_table = table_at_same o t a b early-field

  pub t_clusters : clusters t ≡ clusters s
  t_clusters = clusters-same s t a b whole-field w.len

  pub t_blocks : blocks t ≡ blocks s
  t_blocks = blocks-same s t a b whole-field w.len

  pub t_old : old_blocks t old ≡ blocks o
  unfolding old_blocks
  t_old = ap₂ (λ (x y : ℕ). ceil_div (old / x) y) (t_size ∙ sym (earlier-size s old n f)) (t_per ∙ sym (earlier-per s old n f)) ∙ earlier-blocks s old n f

  pub t_place : (i : ℕ) → new_place t i ≡ new_place s i
  unfolding new_place
  t_place i = rw (t_size, t_per, earlier-size s old n f, earlier-per s old n f) refl

  abbrev K : ℕ
  K = table_clusters o * per_table o

  t_span : table_clusters t * per_table t ≡ K
  t_span = ap₂ (λ (x y : ℕ). x * y) (table_clusters-same o t a b early-field) (per_table-same o t a b early-field)

  slots : (i : ℕ) → slot s i ≡ table_at o + 8 * i
  slots i = ap (λ (x : ℕ). x + 8 * i) (earlier-table s old n f)

  b_few : blocks s ≤ K
  b_few = go (dec_lt K (blocks s))
    where
      go : Dec (K < blocks s) → blocks s ≤ K
      go (yes h) = absurd (omega (arith, h, enough s old n f e))
      go (no h) = omega arith

  -- ---- the entries of t
  old_entry : (i : ℕ) → i < blocks o → good_block (cluster_size t) (length t) (be64 t (table_at o + 8 * i)) ≡ true
  old_entry i l =
      let g = block_named o f i l in
      let q : be64 t (table_at o + 8 * i) ≡ block_at o i = sym (rt_at o f t i) ∙ rt_same s old n f e t w k i l ∙ rt_own o f i in
      rw (t_size, q) (good_block_lem (cluster_size o) (length t) (block_at o i) g.0 g.1.0 (sector-whole (block_at o i) g.1.0) (omega (arith, g.1.1, length-earlier s old n, n, w.len)))
    where
      sector-whole : (x : ℕ) → x % cluster_size o ≡ 0 → x % 512 ≡ 0
      sector-whole x h = whole-sectors o f x h

  new_entry_lem : (i : ℕ) → New s old i → (be64 t (table_at o + 8 * i) ≡ 0) ⊎ (be64 t (table_at o + 8 * i) ≡ new_place s i)
  new_entry_lem i v = go (w.each i v)
    where
      go : (be64 t (slot s i) ≡ 0) ⊎ Made s t i → (be64 t (table_at o + 8 * i) ≡ 0) ⊎ (be64 t (table_at o + 8 * i) ≡ new_place s i)
      go (inl z) = inl (ap (be64 t) (sym (slots i)) ∙ z)
      go (inr m) = inr (ap (be64 t) (sym (slots i)) ∙ m.named)

  late-entry : (i : ℕ) → blocks s ≤ i → i < K → be64 t (table_at o + 8 * i) ≡ 0
  late-entry i l h =
      ap (be64 t) (sym (slots i))
      ∙ be64-same t (slot s i) s (slot s i) (λ x p. w.same (slot s i + x) (record {
        field = inr (omega (arith, r.past, r.head));
        slots = λ j v. inr (omega (arith, v.1, l));
        fills = λ j v. inl (omega (arith, r.place-past j v, early, p));
      }))
      ∙ later_zero s old n f i (omega (arith, l, r.fewer, earlier-blocks s old n f)) h
    where
      early : slot s i + 8 ≤ old
      early = rw (slots i) (table-earlier s old n f i h)

  place_block : (i : ℕ) → New s old i → good_block (cluster_size t) (length t) (new_place s i) ≡ true
  unfolding new_place
  place_block i v =
      rw (t_size, w.len, earlier-size s old n f)
      (good_block_lem (cluster_size o) (length s) (i * per_block s * cluster_size o) (λ z. omega (arith, z, some)) (mul-mod_left (i * per_block s) (cluster_size o)) (whole-sectors o f (i * per_block s * cluster_size o) (mul-mod_left (i * per_block s) (cluster_size o))) inside)
    where
      past : old ≤ i * per_block s * cluster_size o
      past = rw (← earlier-size s old n f) (r.place-past i v)

      some : 0 < i * per_block s * cluster_size o
      some = omega (arith, past, f.long, length-earlier s old n)

      inside : i * per_block s * cluster_size o + cluster_size o ≤ length s
      inside = rw (← earlier-size s old n f) (r.place_in i v)

  -- ---- extending is accepted
  t_bad_old : bad_old t old ≡ false
  unfolding bad_old
  t_bad_old =
      false-or (ltb old least_length || ltb (length t) old) (not (eqb (old % cluster_size t) 0))
      (false-or (ltb old least_length) (ltb (length t) old) (le-ltb old least_length (omega (arith, f.long, length-earlier s old n))) (le-ltb (length t) old (omega (arith, n, w.len))))
      (ap not (eq-eqb (old % cluster_size t) 0 (ap₂ (λ (x y : ℕ). x % y) (sym (length-earlier s old n)) t_size ∙ f.whole)))

  t_good_new : (i : ℕ) → New s old i → good_new t i ≡ true
  unfolding good_new to_make block_at
  t_good_new i v = rw (t_table) (go (new_entry_lem i v))
    where
      go : (be64 t (table_at o + 8 * i) ≡ 0) ⊎ (be64 t (table_at o + 8 * i) ≡ new_place s i) → (eqb (be64 t (table_at o + 8 * i)) 0 || eqb (be64 t (table_at o + 8 * i)) (new_place t i)) ≡ true
      go (inl z) = rw (eq-eqb (be64 t (table_at o + 8 * i)) 0 z) refl
      go (inr z) = either (eqb (be64 t (table_at o + 8 * i)) 0) (eq-eqb (be64 t (table_at o + 8 * i)) (new_place t i) (z ∙ sym (t_place i)))
        where
          either : (x : Bool) {y : Bool} → y ≡ true → (x || y) ≡ true
          either true h = refl
          either false h = h

  t_olds : all (good_block (cluster_size t) (length t)) (take (old_blocks t old) (table t)) ≡ true
  unfolding table
  t_olds = rw (t_old, t_span, t_table) (first-entries (good_block (cluster_size t) (length t)) (λ x. true) (blocks o) 0 K (table_at o) t (omega (arith, f.enough)) old_entry)

  t_news : all (good_new t) (new_blocks t old) ≡ true
  unfolding new_blocks
  t_news = rw (t_old, t_blocks) (run-all (good_new t) (blocks s - blocks o) (blocks o) (λ i p q. t_good_new i (omega (arith, p, earlier-blocks s old n f), omega (arith, p, q, r.fewer, earlier-blocks s old n f))))

  t_laters : all (λ x. eqb x 0) (drop (blocks t) (table t)) ≡ true
  unfolding table
  t_laters = rw (t_blocks, t_span, t_table) (last-entries (λ x. true) (λ x. eqb x 0) 0 (blocks s) K (table_at o) t b_few (λ i p q. eq-eqb _ 0 (late-entry i p q)))

  t_longer : longer_number t old ≡ 0
  unfolding longer_number good_longer
  t_longer = rw (t_bad_old, t_olds, t_news, t_laters) refl

  -- the snapshot table
  t_shot : (x : ℕ) → x < snapshots o → bad_snapshot t x ≡ false
  unfolding bad_snapshot
  t_shot x l =
      let g = f.shots x l in
      let u : suc x < roots o = rw (root-count o f) (omega arith) in
      rw (w.len, t_size, snapshot_at-same o f t early-field (suc x) l, root_size-same o f t early-field (suc x) u, root_at-same o f t early-field (suc x) u)
      (false-or (ltb (length s) (snapshot_at o (suc x)) || ltb most_l1 (root_size o (suc x)) || not (eqb (root_at o (suc x) % cluster_size o) 0)) _
      (false-or (ltb (length s) (snapshot_at o (suc x)) || ltb most_l1 (root_size o (suc x))) _
      (false-or (ltb (length s) (snapshot_at o (suc x))) _ (le-ltb (length s) (snapshot_at o (suc x)) (omega (arith, g.ends, length-earlier s old n, n))) (le-ltb _ _ g.few))
      (ap not (eq-eqb _ 0 g.whole)))
      (le-ltb (length s) (root_at o (suc x) + 8 * root_size o (suc x)) (omega (arith, g.inside, length-earlier s old n, n))))

  t_shots : snapshot_number t ≡ 0
  unfolding snapshot_number
  t_shots = rw (snapshots-same o t a b early-field, snapshots_at-same o t a b early-field, t_size) (go (two_ways (eqb (snapshots o) 0)))
    where
      none : first (bad_snapshot t) 0 (snapshots o) ≡ snapshots o
      none = first-false (bad_snapshot t) 0 (snapshots o) (λ x p q. t_shot x (omega arith)) ∙ zero-add (snapshots o)

      go : (eqb (snapshots o) 0 ≡ true) ⊎ (eqb (snapshots o) 0 ≡ false)
          → ◌≡◌ {A = ℕ} (if eqb (snapshots o) 0 then 0 else if not (eqb (snapshots_at o % cluster_size o) 0) then 21 else if ltb (first (bad_snapshot t) 0 (snapshots o)) (snapshots o) then 21 else 0) 0
      go (inl z) = rw z refl
      go (inr z) = rw (z, eq-eqb (snapshots_at o % cluster_size o) 0 (f.shots-whole (λ y. eqb-false _ _ z y)), none, le-ltb (snapshots o) (snapshots o) (le_refl (snapshots o))) refl

  module _ (lent : Bool) (j : judge_lent lent o ≡ 0) where
    t_backing : backing_number lent t ≡ 0
    unfolding backing_number
    t_backing = rw (backed-same o t a b early-field, bad_name-same o t a b early-field) (judged-parts lent o j).2

    pub t_number : judge_lent lent t ≡ table_number t
    unfolding judge_lent
    t_number = rw (t_header, t_backing, t_shots) (go (table_number t))
      where
        go : (x : ℕ) → unless x (λ y. y) 0 ≡ x
        go zero = refl
        go (suc x) = refl

  pub t_accepted : judge_lent true o ≡ 0 → extend_number t old ≡ 0
  unfolding extend_number
  t_accepted j = rw (t_header, t_longer, t_backing true j, t_shots) refl

  -- ---- a block is left to make, or none is
  t_named : good_table (cluster_size t) (length t) (blocks t) (table t) ≡ true → (i : ℕ) → i < blocks s → good_block (cluster_size t) (length t) (be64 t (table_at o + 8 * i)) ≡ true
  unfolding good_table table
  t_named g i l =
      let p = (and-true (all (good_block (cluster_size t) (length t)) (take (blocks t) (entries (table_clusters t * per_table t) (drop (table_at t) t)))) _ g).0 in
      let q : all (good_block (cluster_size t) (length t)) (entries (blocks s) (drop (table_at o) t)) ≡ true = rw (t_blocks, t_span, t_table, take-entries (blocks s) K (drop (table_at o) t) b_few) at p in
      ap (good_block (cluster_size t) (length t)) (sym (be64-drop t (table_at o) (8 * i))) ∙ all-entries (good_block (cluster_size t) (length t)) (blocks s) (drop (table_at o) t) q i l

  t_waits : SomeLeft s old t → table_number t ≡ 10
  unfolding table_number
  t_waits h = if_no (good_table (cluster_size t) (length t) (blocks t) (table t)) 0 10 (go (two_ways (good_table (cluster_size t) (length t) (blocks t) (table t))))
    where
      go : (good_table (cluster_size t) (length t) (blocks t) (table t) ≡ true) ⊎ (good_table (cluster_size t) (length t) (blocks t) (table t) ≡ false) → good_table (cluster_size t) (length t) (blocks t) (table t) ≡ false
      go (inl g) = absurd (true-not-false (t_named g h.0 h.1.1) (block_not-0 (cluster_size t) (length t) _ (ap (be64 t) (sym (slots h.0)) ∙ h.2)))
      go (inr g) = g

  pub t_refused : SomeLeft s old t → (lent : Bool) → judge_lent lent t ≡ 10
  unfolding judge_lent
  t_refused h lent = rw (t_header, t_waits h) refl

  made-entry : AllMade s old t → (i : ℕ) → i < blocks s → good_block (cluster_size t) (length t) (be64 t (table_at o + 8 * i)) ≡ true
  made-entry h i l = go (dec_lt i (blocks o))
    where
      go : Dec (i < blocks o) → good_block (cluster_size t) (length t) (be64 t (table_at o + 8 * i)) ≡ true
      go (yes p) = old_entry i p
      go (no p) =
          let v : New s old i = (omega (arith, p, earlier-blocks s old n f), l) in
          ap (λ (x : ℕ). good_block (cluster_size t) (length t) x) (ap (be64 t) (sym (slots i)) ∙ (h i v).named) ∙ place_block i v

  t_all : AllMade s old t → all (good_block (cluster_size t) (length t)) (take (blocks t) (table t)) ≡ true
  unfolding table
  t_all h = rw (t_blocks, t_span, t_table) (first-entries (good_block (cluster_size t) (length t)) (λ x. true) (blocks s) 0 K (table_at o) t b_few (made-entry h))

  pub t_done : AllMade s old t → table_number t ≡ 0
  unfolding table_number good_table
  t_done h = rw (t_all h, t_laters) refl
