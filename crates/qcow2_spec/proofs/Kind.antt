-- What kind of call a list of units is: on an image that is sound or leaking every list that is not refused is of one of eight kinds, with what is so of the image. Assumes nothing.
use Rattle.std.specs.Prelude.{if◌then◌else◌, Err, Ok, Result}
use Prim.Native.Nat.{ℕ, ◌+◌, ◌-◌, ◌*◌, ◌/◌, ◌%◌, ◌^◌, ◌≤◌, ◌<◌}
use native.Mathlib.Nat.{zero-lt-suc, zero-div, div-lt_iff_lt-mul, mod-lt, lt_of_mul-lt-mul_right}
use native.Mathlib.Decide.{ℕ_discrete}
use native.Mathlib.Omega.{arith}
use mathlib.Core.Path.{◌≡◌, refl, sym, ap, ◌∙◌, subst}
use mathlib.Core.Logic.{◌⊎◌, inl, inr, ◌≢◌}
use mathlib.Core.Bool.{true, false, ◌&&◌, ◌||◌}
use mathlib.Core.List.{List, [], ◌∷◌, ◌++◌}
use lib.Dec.{leb, ltb, eqb}
use lib.ListN.{length, replicate}
use borrow.Author.Tests.{ltb-false, leb-false, eqb-true, eqb-false}
use Rattle.cuts.proofs.Meta.{cnt, tab, dat, mark, refs_of, Sound}
use Rattle.cuts.proofs.Step.{gread, gread_none, gread_absent, free-not-0}
use Rattle.cuts.proofs.Write.{Body, body-zeros, gread_marked}
use Rattle.choice.proofs.Each.{length-each}
use Rattle.choice.proofs.Runs.{first-low}
use Rattle.choice.proofs.Found.{first_passes}
use Rattle.endian.specs.Big.{splice}
use Rattle.qcow2_spec.specs.Header.{most_l1, version, cluster_size, clusters, disk_size, per_table, roots, root_size, backed, judge}
use Rattle.qcow2_spec.specs.Entries.{place, zero_mark, good_l2, new_entry}
use Rattle.qcow2_spec.specs.Counts.{count_of, free_at, free_from, set_count}
use Rattle.qcow2_spec.specs.declared.Way.{Way}
use Rattle.qcow2_spec.specs.declared.Way.TheVariants.{NoTable as no_table, Slot as slot}
use Rattle.qcow2_spec.specs.Guest.{backing_byte, outside, l1_entry_at}
use Rattle.units.specs.Plan.{Plan, refused, units}
use Rattle.units.specs.Units.{UnitStore, entry, cluster, fill}
use Rattle.qcow2_spec.specs.Store.{own_way, clearing, judged, allot, write_new, write_table, write_slot, backing_cluster, new_bytes, write_way, write_list, write_plan, cleared_entry, discard_slot, discard_way, discard_list, discard_plan}
use Rattle.qcow2_spec.specs.References.{figures_of}
use Rattle.qcow2_spec.specs.Check.{verdict, repair_units, verdict_plan, repair_list, repair_plan}
use Rattle.qcow2_spec.specs.declared.Verdict.{Verdict}
use Rattle.qcow2_spec.specs.declared.Verdict.TheVariants.{Sound as IsSound, Leaks, BadL1, BadL2, Shared, Short, MarkL1, MarkL2, Refused as NotChecked}
use Rattle.qcow2_spec.specs.Disk.{Request, write, discard, repair, plan_of, finished, SameDisk}
use Rattle.qcow2_spec.specs.Series.{Bytes, BytesOf}
use Rattle.choice.proofs.Tests.{if_yes, if_no, if_elim, or-false, two_ways}
use Rattle.qcow2_spec.proofs.Facts.{Facts}
use Rattle.qcow2_spec.proofs.Geo.{nr, geo, code, geo_ok}
use Rattle.qcow2_spec.proofs.Kept.{cnt_own}
use Rattle.qcow2_spec.proofs.Verdicts.{refs_own, sound_exact}
use Rattle.qcow2_spec.proofs.Ways.{Slot, Own, OwnIs, first_nr, own-way, dat_own, mark_own, dat_place, dat_zero, dat_some-own, reach_in, inside}
use Rattle.qcow2_spec.proofs.Bodies.{each_at, small-each, body-over, backing_small, plain-good}
use Rattle.qcow2_spec.proofs.Units.{cluster_around}
use Rattle.qcow2_spec.proofs.Seen.{m, seen, Kept, beneath, Exact, written_out, cp, ep, reach-0, in_l1, nr_l1, seen_beneath}

-- a request's list, before the clearing unit is put in front of it
unfoldable pub list_of : (backing s : List ℕ) → Request → Plan
list_of backing s (write x d) = write_list backing s x d
list_of backing s (discard c) = discard_list s c
list_of backing s (repair n) = repair_list s n

pub plan_is : (backing s : List ℕ) → judge backing s ≡ 0 → (r : Request) → plan_of backing s r ≡ clearing s (list_of backing s r)
unfolding plan_of list_of write_plan discard_plan repair_plan judged
plan_is backing s e (write x d) = rw e refl
plan_is backing s e (discard c) = rw e refl
plan_is backing s e (repair n) = rw e refl

module _ (s : List ℕ) where
  -- the entry that a discard leaves: the zero mark alone over a backing file, else 0
  abbrev pub Cleared : Type 0
  Cleared = ((backed s ≡ true) × (cleared_entry s ≡ 1)) ⊎ ((backed s ≡ false) × (cleared_entry s ≡ 0))

  pub cleared_entry-is : Cleared
  unfolding cleared_entry
  cleared_entry-is = go (two_ways (backed s))
    where
      go : (backed s ≡ true) ⊎ (backed s ≡ false) → Cleared
      go (inl b) = inl (b, if_yes (backed s) 1 0 b)
      go (inr b) = inr (b, if_no (backed s) 1 0 b)

  pub cleared_entry-low : cleared_entry s < 256 ^ 8
  cleared_entry-low = go cleared_entry-is
    where
      go : Cleared → cleared_entry s < 256 ^ 8
      go (inl b) = omega (arith, b.1)
      go (inr b) = omega (arith, b.1)

  pub cleared_entry-place : place (cleared_entry s) ≡ 0
  unfolding place
  cleared_entry-place = go cleared_entry-is
    where
      go : Cleared → place (cleared_entry s) ≡ 0
      go (inl b) = rw b.1 refl
      go (inr b) = rw b.1 refl

  pub cleared_entry-bare : place (cleared_entry s) / cluster_size s ≡ 0
  cleared_entry-bare = ap (λ (y : ℕ). y / cluster_size s) cleared_entry-place ∙ zero-div (cluster_size s)

module _ (backing s : List ℕ) (f : Facts s) where
  -- guest cluster c's L2 table, its data cluster, its zero mark; and a cluster's references
  abbrev pub T : (c : ℕ) → ℕ
  T c = tab (geo s) (code s) (m backing s f) (nr 0 (c / per_table s))

  abbrev pub D : (c : ℕ) → ℕ
  D c = dat (geo s) (code s) (m backing s f) (nr 0 (c / per_table s)) (c % per_table s)

  abbrev pub M : (c : ℕ) → ℕ
  M c = mark (geo s) (code s) (m backing s f) (nr 0 (c / per_table s)) (c % per_table s)

  abbrev pub R : (k : ℕ) → ℕ
  R k = refs_of (geo s) (code s) (m backing s f) k

  -- the byte at y of guest cluster c
  abbrev pub G : (c y : ℕ) → ℕ
  G c y = gread (geo s) (code s) (m backing s f) (nr 0 (c / per_table s)) (c % per_table s) y (beneath backing s f c y)

  -- the bytes d from x on, in one cluster of the disk
  pub record Span (x : ℕ) (d : List ℕ) : Type 0 where
    pub bytes : Bytes d
    pub in_disk : x + length d ≤ disk_size s
    pub some : length d ≢ 0
    pub in_cluster : x % cluster_size s + length d ≤ cluster_size s

  -- what the data cluster of a write of d at x must hold
  abbrev pub Whole : (x : ℕ) (d bs : List ℕ) → Type 0
  Whole x d bs = Body (cluster_size s) (x % cluster_size s) d (G (x / cluster_size s)) bs

  -- guest cluster c's entry stands at a, and nothing else refers to its table or its data
  pub record Owned (c a : ℕ) : Type 0 where
    pub in_root : c / per_table s < root_size s 0
    pub table : T c ≢ 0
    pub at : a ≡ T c * cluster_size s + 8 * (c % per_table s)
    pub lone : R (T c) ≤ 1
    pub lone_data : D c ≢ 0 → R (D c) ≤ 1

  -- guest cluster c's L1 entry is one of the active table's, and its L2 entry has a place in a table
  pub record Numbered (c : ℕ) : Type 0 where
    pub in_roots : nr 0 (c / per_table s) < roots s * most_l1
    pub active : nr 0 (c / per_table s) < most_l1
    pub in_table : c % per_table s < per_table s

  pub numbered : (c : ℕ) → c / per_table s < root_size s 0 → Numbered c
  numbered c l = record { in_roots = nr_l1 backing s f _ l; active = first_nr s f c l; in_table = mod-lt c (ep backing s f) }

  -- the entry that a discard leaves is good, and reads as zeros
  abbrev pub ClearedGood : Type 0
  ClearedGood = good_l2 (version s) (cluster_size s) (length s) (cleared_entry s) ≡ true

  abbrev pub ClearedDark : (c : ℕ) → Type 0
  ClearedDark c = (y : ℕ) → (cleared_entry s % 2 ≢ 0) ⊎ (beneath backing s f c y ≡ 0)

  -- nothing is stored; a write goes to the data's place, to one that a zero mark hides, to a new cluster, or to one under a new table;
  -- a discard clears an entry without a place or frees one; a repair of leaks
  pub data Kind : Request → List UnitStore → Type 0 where
    nothing : {r : Request} → SameDisk (disk_size s) (seen backing s f s) (finished (cluster_size s) r (seen backing s f s)) → Exact backing s f r s → Kind r []
    placed : {x : ℕ} {d : List ℕ} {a at : ℕ} → Span x d → Owned (x / cluster_size s) a → D (x / cluster_size s) ≢ 0 → M (x / cluster_size s) ≡ 0 → at ≡ D (x / cluster_size s) * cluster_size s + x % cluster_size s → Kind (write x d) (fill at d)
    shown : {x : ℕ} {d : List ℕ} {a at : ℕ} → Span x d → Owned (x / cluster_size s) a → D (x / cluster_size s) ≢ 0 → M (x / cluster_size s) ≢ 0 → at ≡ D (x / cluster_size s) * cluster_size s
        → Kind (write x d) (fill at (cluster (cluster_size s) (x % cluster_size s) d) ++ entry a (new_entry at) ∷ [])
    new : {x : ℕ} {d : List ℕ} {a c : ℕ} {bs : List ℕ} → Span x d → Owned (x / cluster_size s) a → D (x / cluster_size s) ≡ 0 → c < clusters s → cnt (geo s) (m backing s f) c ≡ 0 → Whole x d bs
        → Kind (write x d) (allot s c bs ++ entry a (new_entry (c * cluster_size s)) ∷ [])
    tabled : {x : ℕ} {d : List ℕ} {t c : ℕ} {bs : List ℕ} → Span x d → T (x / cluster_size s) ≡ 0 → t < c → c < clusters s → cnt (geo s) (m backing s f) t ≡ 0 → cnt (geo s) (m backing s f) c ≡ 0 → Whole x d bs
        → Kind (write x d) (allot s t (replicate (cluster_size s) 0) ++ allot s c bs ++ entry (t * cluster_size s + 8 * (x / cluster_size s % per_table s)) (new_entry (c * cluster_size s)) ∷ entry (l1_entry_at s 0 (x / cluster_size s)) (new_entry (t * cluster_size s)) ∷ [])
    emptied : {c a : ℕ} → Owned c a → D c ≡ 0 → ClearedGood → ClearedDark c → Kind (discard c) (entry a (cleared_entry s) ∷ [])
    freed : {c a : ℕ} → Owned c a → D c ≢ 0 → ClearedGood → ClearedDark c → Kind (discard c) (entry a (cleared_entry s) ∷ set_count s (D c) (count_of s (D c) - 1) ∷ [])
    mended : {n : ℕ} → Kind (repair n) (repair_units s (figures_of s) 0 (clusters s))

  -- a list's kind; of a refusal there is nothing to say
  unfoldable pub KindOf : Request → Plan → Type 0
  KindOf r (refused n) = Unit {0}
  KindOf r (units us) = Kind r us

  -- ---- clusters that are free
  module _ (k : Kept backing s f s) where
    -- a cluster with count 0 has no reference, and is not the header's
    pub unused : (c : ℕ) → c < clusters s → cnt (geo s) (m backing s f) c ≡ 0 → R c ≡ 0
    unused c l z = omega (arith, k.sound.inv.covered c l)

    pub empty : (c : ℕ) → c < clusters s → cnt (geo s) (m backing s f) c ≡ 0 → c ≢ 0
    empty c l z = free-not-0 (geo s) (code s) (geo_ok s f) (m backing s f) k.sound c (unused c l z)

  -- the lowest free cluster
  pub free-is : (i : ℕ) → free_from s i < clusters s → (i ≤ free_from s i) × (cnt (geo s) (m backing s f) (free_from s i) ≡ 0)
  unfolding free_from free_at
  free-is i h =
      let l : i ≤ free_from s i = first-low (free_at s) i (clusters s - i) in
      let t : free_at s (free_from s i) ≡ true = first_passes (free_at s) i (clusters s - i) (omega (arith, h, l)) in
      (l, cnt_own s f _ h ∙ eqb-true _ _ t)

  -- ---- the entry that a discard leaves
  -- it is good but where 20 is answered
  cleared_entry-good : (backed s && eqb (version s) 2) ≡ false → ClearedGood
  cleared_entry-good q = go (cleared_entry-is s)
    where
      go : Cleared s → ClearedGood
      go (inl b) = rw b.1 (plain-good (version s) (cluster_size s) (length s) f.kind (rw b.0 at q))
      go (inr b) = rw b.1 (geo_ok s f).laws.zero-good2

  -- with no backing file zeros lie underneath
  beneath_none : backed s ≡ false → (c y : ℕ) → beneath backing s f c y ≡ 0
  unfolding backing_byte
  beneath_none b c y = if_elim (λ (v : ℕ). v ≡ 0) (ltb (c * cluster_size s + y) (disk_size s)) _ _ (λ e. if_no (backed s) _ 0 b) (λ e. refl)

  -- and it reads as zeros
  cleared_entry_dark : (c : ℕ) → ClearedDark c
  cleared_entry_dark c y = go (cleared_entry-is s)
    where
      go : Cleared s → (cleared_entry s % 2 ≢ 0) ⊎ (beneath backing s f c y ≡ 0)
      go (inl b) = inl (λ z. omega (arith, b.1, z))
      go (inr b) = inr (beneath_none b.0 c y)

  -- ---- what stands at the end of the way
  owned : (c a e : ℕ) → c / per_table s < root_size s 0 → Own s f c a e → Owned c a
  owned c a e l w = record { in_root = l; table = w.way_slot.table; at = w.way_slot.place_is; lone = w.lone; lone_data = w.lone_data }

  refused_kind : (r : Request) (n : ℕ) → KindOf r (refused n)
  unfolding KindOf
  refused_kind r n = tt

  -- the guest's byte under a zero mark, under an entry without a place, and where there is no table
  dark_read : (c y : ℕ) → M c ≢ 0 → G c y ≡ 0
  dark_read c y n = ap (λ (v : ℕ → ℕ). v (beneath backing s f c y)) (gread_marked (geo s) (code s) (m backing s f) (nr 0 (c / per_table s)) (c % per_table s) y n)

  bare-read : (c y : ℕ) → D c ≡ 0 → M c ≡ 0 → G c y ≡ beneath backing s f c y
  bare-read c y z n = ap (λ (v : ℕ → ℕ). v (beneath backing s f c y)) (gread_none (geo s) (code s) (m backing s f) (nr 0 (c / per_table s)) (c % per_table s) y z n)

  absent-read : (c y : ℕ) → T c ≡ 0 → G c y ≡ beneath backing s f c y
  absent-read c y z = ap (λ (v : ℕ → ℕ). v (beneath backing s f c y)) (gread_absent (geo s) (code s) (m backing s f) (nr 0 (c / per_table s)) (c % per_table s) y z)

  -- ---- write
  module _ (x : ℕ) (d : List ℕ) (sp : Span x d) where
    pub whole-zeros : M (x / cluster_size s) ≢ 0 → Whole x d (cluster (cluster_size s) (x % cluster_size s) d)
    whole-zeros q =
        subst (Whole x d) (sym (cluster_around (cluster_size s) (x % cluster_size s) d)) (body-zeros (cluster_size s) (x % cluster_size s) d _ sp.in_cluster sp.bytes (λ y l. dark_read (x / cluster_size s) y q))

    whole_backing : Bytes backing → ((y : ℕ) → G (x / cluster_size s) y ≡ beneath backing s f (x / cluster_size s) y) → Whole x d (splice (backing_cluster backing s (x / cluster_size s)) (x % cluster_size s) d)
    unfolding backing_cluster
    whole_backing bb q =
        body-over (cluster_size s) (x % cluster_size s) d _ _ (length-each _ _ _) (small-each _ (λ y. if_elim (λ (v : ℕ). v < 256) (ltb y (disk_size s)) _ _ (λ e. backing_small backing s bb y) (λ e. zero-lt-suc 255)) (x / cluster_size s * cluster_size s) (cluster_size s)) sp.in_cluster sp.bytes
        (λ y l. each_at _ _ _ y l ∙ sym (q y))

    new_kind : (a c : ℕ) (bs : List ℕ) → Owned (x / cluster_size s) a → D (x / cluster_size s) ≡ 0 → (c < clusters s → cnt (geo s) (m backing s f) c ≡ 0) → Whole x d bs → KindOf (write x d) (write_new s a c bs)
    unfolding write_new KindOf
    new_kind a c bs o dz z whole =
        if_elim (KindOf (write x d)) (leb (clusters s) c) _ _ (λ h. refused_kind (write x d) 14)
        (λ h. let l : c < clusters s = leb-false _ _ h in new sp o dz l (z l) whole)

    table_kind_lem : (t c : ℕ) (bs : List ℕ) → T (x / cluster_size s) ≡ 0 → (c < clusters s → t < c) → (t < clusters s → cnt (geo s) (m backing s f) t ≡ 0) → (c < clusters s → cnt (geo s) (m backing s f) c ≡ 0) → Whole x d bs
        → KindOf (write x d) (write_table s (x / cluster_size s) t c bs)
    unfolding write_table KindOf
    table_kind_lem t c bs tz tc zt zc whole =
        if_elim (KindOf (write x d)) (leb (clusters s) c) _ _ (λ h. refused_kind (write x d) 14)
        (λ h. let l : c < clusters s = leb-false _ _ h in let b : t < c = tc l in tabled sp tz b l (zt (omega arith)) (zc l) whole)

    module _ (bb : Bytes backing) where
      slot_kind : (a e : ℕ) → x / cluster_size s / per_table s < root_size s 0 → Own s f (x / cluster_size s) a e → KindOf (write x d) (write_slot backing s (x / cluster_size s) a e (x % cluster_size s) d)
      unfolding write_slot new_bytes zero_mark KindOf
      slot_kind a e l w =
          if_elim (KindOf (write x d)) (eqb (place e) 0) _ _
          (λ z. let dz = dat_zero s f 0 _ a e h (eqb-true _ _ z) in new_kind a (free_from s 0) _ o dz (λ l. (free-is 0 l).1) (bytes dz))
          (λ z. let dn = dat_some-own s f 0 _ a e h (eqb-false _ _ z) in
          if_elim (KindOf (write x d)) (eqb (e % 2) 1) _ _
          (λ b. shown sp o dn (marked b) (sym (dat_place s f 0 _ a e h)))
          (λ b. placed sp o dn (plain b) (ap (λ (y : ℕ). y + x % cluster_size s) (sym (dat_place s f 0 _ a e h)))))
        where
          h : Slot s f 0 (x / cluster_size s) a e
          h = w.way_slot

          o : Owned (x / cluster_size s) a
          o = owned (x / cluster_size s) a e l w

          flag : M (x / cluster_size s) ≡ e % 2
          flag = mark_own s f 0 (x / cluster_size s) a e h

          marked : eqb (e % 2) 1 ≡ true → M (x / cluster_size s) ≢ 0
          marked b z = omega (arith, eqb-true (e % 2) 1 b, flag, z)

          plain : eqb (e % 2) 1 ≡ false → M (x / cluster_size s) ≡ 0
          plain b = omega (arith, eqb-false (e % 2) 1 b, flag)

          bytes : D (x / cluster_size s) ≡ 0 → Whole x d (if eqb (e % 2) 1 then cluster (cluster_size s) (x % cluster_size s) d else splice (backing_cluster backing s (x / cluster_size s)) (x % cluster_size s) d)
          bytes z = if_elim (Whole x d) (eqb (e % 2) 1) _ _ (λ b. whole-zeros (marked b)) (λ b. whole_backing bb (λ y. bare-read (x / cluster_size s) y z (plain b)))

      way_kind : (w : Result Way ℕ) → x / cluster_size s / per_table s < root_size s 0 → OwnIs s f (x / cluster_size s) w → KindOf (write x d) (write_way backing s w (x / cluster_size s) (x % cluster_size s) d)
      unfolding OwnIs write_way
      way_kind (Err n) l h = refused_kind (write x d) n
      way_kind (Ok no_table) l h =
          table_kind_lem (free_from s 0) (free_from s (free_from s 0 + 1)) _ h (λ l. omega (arith, (free-is (free_from s 0 + 1) l).0)) (λ l. (free-is 0 l).1) (λ l. (free-is (free_from s 0 + 1) l).1) (whole_backing bb (λ y. absent-read (x / cluster_size s) y h))
      way_kind (Ok (slot a e)) l h = slot_kind a e l h

  no_bytes : (x : ℕ) (d : List ℕ) → length d ≡ 0 → KindOf (write x d) (units [])
  unfolding SameDisk Exact KindOf
  no_bytes x d z = nothing (λ y l. sym (written_out (cluster_size s) x d (seen backing s f s) y (λ p. omega arith))) tt

  write_kind : Bytes backing → Sound (geo s) (code s) (m backing s f) → (x : ℕ) (d : List ℕ) → Bytes d → KindOf (write x d) (write_list backing s x d)
  unfolding write_list
  write_kind bb snd x d sm =
      if_elim (KindOf (write x d)) (outside s 0 x (length d) || ltb (cluster_size s - x % cluster_size s) (length d)) _ _ (λ b. refused_kind (write x d) 11)
      (λ b. let p = or-false (outside s 0 x (length d)) _ b in
      let fits : x % cluster_size s + length d ≤ cluster_size s = omega (arith, ltb-false (cluster_size s - x % cluster_size s) (length d) p.1, mod-lt x (cp backing s f)) in
      if_elim (KindOf (write x d)) (eqb (length d) 0) _ _
      (λ z. no_bytes x d (eqb-true _ _ z))
      (λ z. let w : x + length d ≤ disk_size s = rw (reach-0 backing s f) at (inside s f 0 x (length d) p.0).1 in
      let l : x / cluster_size s / per_table s < root_size s 0 = in_l1 backing s f x (omega (arith, eqb-false (length d) 0 z)) in
      way_kind x d (record { bytes = sm; in_disk = w; some = eqb-false _ _ z; in_cluster = fits }) bb (own_way s (x / cluster_size s)) l (own-way s f snd (x / cluster_size s) l)))

  -- ---- discard
  -- the guest reads zeros already
  zeros_kind : (c : ℕ) → ((y : ℕ) → G c y ≡ 0) → KindOf (discard c) (units [])
  unfolding SameDisk finished Exact KindOf
  zeros_kind c z =
      nothing
      (λ y l. if_elim (λ (v : ℕ). seen backing s f s y ≡ v) (eqb (y / cluster_size s) c) _ _
      (λ e. seen_beneath backing s f s y l ∙ ap (λ (x : ℕ). G x (y % cluster_size s)) (eqb-true _ _ e) ∙ z (y % cluster_size s))
      (λ e. refl))
      tt

  drop_kind : (c a e : ℕ) → c / per_table s < root_size s 0 → (backed s && eqb (version s) 2) ≡ false → Own s f c a e → KindOf (discard c) (discard_slot s a e)
  unfolding discard_slot KindOf
  drop_kind c a e l v w =
      if_elim (KindOf (discard c)) (eqb e (cleared_entry s)) _ _ (λ z. zeros_kind c (already (eqb-true _ _ z)))
      (λ z. if_elim (KindOf (discard c)) (eqb (place e) 0) _ _
      (λ p. emptied o (dat_zero s f 0 c a e h (eqb-true _ _ p)) (cleared_entry-good v) (cleared_entry_dark c))
      (λ p. if_elim (KindOf (discard c)) (eqb (count_of s (place e / cluster_size s)) 0) _ _ (λ n. refused_kind (discard c) 16)
      (λ n. subst (λ (q : ℕ). Kind (discard c) (entry a (cleared_entry s) ∷ set_count s q (count_of s q - 1) ∷ [])) (dat_own s f 0 c a e h)
      (freed o (dat_some-own s f 0 c a e h (eqb-false _ _ p)) (cleared_entry-good v) (cleared_entry_dark c)))))
    where
      h : Slot s f 0 c a e
      h = w.way_slot

      o : Owned c a
      o = owned c a e l w

      -- the entry says zeros already
      already : e ≡ cleared_entry s → (y : ℕ) → G c y ≡ 0
      already z y = go (cleared_entry_dark c y) (ℕ_discrete (M c) 0)
        where
          go : (cleared_entry s % 2 ≢ 0) ⊎ (beneath backing s f c y ≡ 0) → Dec (M c ≡ 0) → G c y ≡ 0
          go q (no n) = dark_read c y n
          go (inl q) (yes n) = absurd (q (ap (λ (v : ℕ). v % 2) (sym z) ∙ sym (mark_own s f 0 c a e h) ∙ n))
          go (inr q) (yes n) = bare-read c y (dat_zero s f 0 c a e h (ap place z ∙ cleared_entry-place s)) n ∙ q

  discard-way_kind : (c : ℕ) → c / per_table s < root_size s 0 → (w : Result Way ℕ) → OwnIs s f c w → KindOf (discard c) (discard_way s w)
  unfolding OwnIs discard_way
  discard-way_kind c l (Err n) h = refused_kind (discard c) n
  discard-way_kind c l (Ok no_table) h =
      if_elim (KindOf (discard c)) (backed s) _ _ (λ b. refused_kind (discard c) 20) (λ b. zeros_kind c (λ y. absent-read c y h ∙ beneath_none b c y))
  discard-way_kind c l (Ok (slot a e)) h = if_elim (KindOf (discard c)) (backed s && eqb (version s) 2) _ _ (λ b. refused_kind (discard c) 20) (λ b. drop_kind c a e l b h)

  discard_kind : Sound (geo s) (code s) (m backing s f) → (c : ℕ) → KindOf (discard c) (discard_list s c)
  unfolding discard_list
  discard_kind snd c =
      if_elim (KindOf (discard c)) (leb (disk_size s) (c * cluster_size s)) _ _ (λ b. refused_kind (discard c) 11)
      (λ b. discard-way_kind c (in_l (leb-false _ _ b)) (own_way s c) (own-way s f snd c (in_l (leb-false _ _ b))))
    where
      in_l : c * cluster_size s < disk_size s → c / per_table s < root_size s 0
      in_l l = (div-lt_iff_lt-mul (ep backing s f)).1 (lt_of_mul-lt-mul_right (cluster_size s) (omega (arith, reach-0 backing s f, reach_in s f 0)))

  -- ---- repair
  verdict_kind : Sound (geo s) (code s) (m backing s f) → (n : ℕ) (v : Verdict) → verdict s ≡ v → KindOf (repair n) (verdict_plan s v)
  unfolding verdict_plan finished Exact SameDisk KindOf
  verdict_kind snd n IsSound q = nothing {r = repair n} (λ y l. refl) (λ c l. cnt_own s f c l ∙ sound_exact s f snd q c l ∙ refs_own s f snd c)
  verdict_kind snd n (Leaks x) q = mended
  verdict_kind snd n (BadL1 t i) q = tt
  verdict_kind snd n (BadL2 t i j) q = tt
  verdict_kind snd n (MarkL1 i) q = tt
  verdict_kind snd n (MarkL2 i j) q = tt
  verdict_kind snd n (Shared c) q = tt
  verdict_kind snd n (Short c) q = tt
  verdict_kind snd n (NotChecked c) q = tt

  repair_kind : Sound (geo s) (code s) (m backing s f) → (n : ℕ) → KindOf (repair n) (repair_list s n)
  unfolding repair_list
  repair_kind snd n = if_elim (KindOf (repair n)) (ltb n (2 * clusters s)) _ _ (λ b. refused_kind (repair n) 15) (λ b. verdict_kind snd n (verdict s) refl)

  pub list_kind : (bb : Bytes backing) (k : Kept backing s f s) → (r : Request) → BytesOf r → KindOf r (list_of backing s r)
  unfolding BytesOf list_of
  list_kind bb k (write x d) sm = write_kind bb k.sound x d sm
  list_kind bb k (discard c) sm = discard_kind k.sound c
  list_kind bb k (repair n) sm = repair_kind k.sound n
