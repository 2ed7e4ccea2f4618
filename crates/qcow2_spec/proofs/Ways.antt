-- The way to a guest cluster, and what a read gives, in the machinery's terms. Assumes nothing.
use Rattle.std.specs.Prelude.{Err, Ok, Result}
use Prim.Native.Nat.{ℕ, zero, suc, ◌+◌, ◌-◌, ◌*◌, ◌/◌, ◌%◌, ◌^◌, ◌≤◌, ◌<◌}
use native.Mathlib.Nat.{le_refl, zero-div, div-lt_iff_lt-mul, mod-lt}
use native.Mathlib.Omega.{arith}
use mathlib.Core.Path.{◌≡◌, refl, sym, ap, ◌∙◌, subst}
use mathlib.Core.Logic.{◌≢◌}
use mathlib.Core.Bool.{Bool, true, false, not, ◌&&◌, ◌||◌}
use mathlib.Core.List.{List}
use lib.Dec.{leb, ltb, eqb}
use lib.ListN.{length, get_or}
use borrow.Author.Tests.{ltb-false, leb-false, eqb-true, eqb-false, ne_eqb, not-false}
use Rattle.cuts.proofs.Cell.{mem}
use Rattle.cuts.proofs.Meta.{Geo, Codec, l1, l2, tab, dat, mark, refs_of, Sound, dat_some, mark_some}
use Rattle.cuts.proofs.Step.{gread, gread_none, gread_absent}
use Rattle.cuts.proofs.Write.{gread_shown, gread_marked}
use Rattle.choice.specs.Pick.{each}
use Rattle.endian.specs.Big.{be64, part}
use Rattle.qcow2_spec.specs.Header.{most_l1, version, cluster_size, per_table, roots, root_size, judge}
use Rattle.qcow2_spec.specs.Entries.{place, alone, good_l1, good_l2, common, compressed, zero_mark}
use Rattle.qcow2_spec.specs.declared.Way.{Way}
use Rattle.qcow2_spec.specs.declared.Way.TheVariants.{NoTable as no_table, Slot as slot}
use Rattle.qcow2_spec.specs.Guest.{l1_entry_at, l1_entry, entry_way, l2_way, way, entry_gives, way_gives, backing_byte, found_byte, located, guest_byte, guest_bytes, way_number, ways_number, reach, outside, touched, range_number, range_into, read_number, read_into}
use Rattle.qcow2_spec.specs.declared.Found.{Found}
use Rattle.qcow2_spec.specs.Store.{own_slot, own_way}
use Rattle.choice.proofs.Tests.{true-not-false, if_no, if_elim, and-true, or-false}
use Rattle.qcow2_spec.proofs.Numbers.{part8}
use Rattle.qcow2_spec.proofs.Facts.{Facts, c_pos, c_8, root-few, root-count}
use Rattle.qcow2_spec.proofs.Geo.{nr, geo, code, geo_ok}
use Rattle.qcow2_spec.proofs.Kept.{l1_at_lem, l2_at}
use Rattle.qcow2_spec.proofs.Refers.{placed1, placed2, div_back, div_none}

-- the machinery's byte of the disk of L1 table t, where the bytes u lie underneath
abbrev pub rd : Geo → Codec → (u : ℕ → ℕ) → List ℕ → (t y : ℕ) → ℕ
rd g K u s t y = gread g K (mem g.C s) (t * g.M + y / g.C / g.E) (y / g.C % g.E) (y % g.C) (u y)

good-plain : (v C n e : ℕ) → good_l2 v C n e ≡ true → compressed e ≡ false
unfolding good_l2
good-plain v C n e h =
    let t = eqb (e % 512 / 2) 0 in
    let u = eqb (e / 2 ^ 56 % 64) 0 in
    let w = not (zero_mark e) || eqb v 3 in
    let a = (and-true (not (compressed e) && t && u && w) _ h).0 in
    let b = (and-true (not (compressed e) && t && u) w a).0 in
    let c = (and-true (not (compressed e) && t) u b).0 in
    flip (compressed e) (and-true (not (compressed e)) t c).0
  where
    flip : (b : Bool) → not b ≡ true → b ≡ false
    flip true e = absurd (true-not-false e refl)
    flip false e = refl

module _ (s : List ℕ) (f : Facts s) where
  abbrev m : ℕ → ℕ → ℕ
  m = mem (cluster_size s) s

  e_pos : 0 < per_table s
  e_pos = (geo_ok s f).epos

  -- the number of guest cluster g's L1 entry in L1 table t
  abbrev pub entry_nr : (t g : ℕ) → ℕ
  entry_nr t g = nr t (g / per_table s)

  -- the L2 entry of guest cluster g by L1 table t, good and found at a
  pub record Slot (t g a e : ℕ) : Type 0 where
    pub table : tab (geo s) (code s) m (entry_nr t g) ≢ 0
    pub place_is : a ≡ tab (geo s) (code s) m (entry_nr t g) * cluster_size s + 8 * (g % per_table s)
    pub entry-is : e ≡ l2 (geo s) m (tab (geo s) (code s) m (entry_nr t g)) (g % per_table s)
    pub good : good_l2 (version s) (cluster_size s) (length s) e ≡ true

  unfoldable pub WayIs : (t g : ℕ) → Result Way ℕ → Type 0
  WayIs t g (Err n) = Unit {0}
  WayIs t g (Ok no_table) = tab (geo s) (code s) m (entry_nr t g) ≡ 0
  WayIs t g (Ok (slot a e)) = Slot t g a e

  unfoldable Open : Result Way ℕ → Type 0
  Open (Err k) = ⊥
  Open (Ok no_table) = Unit {0}
  Open (Ok (slot a e)) = Unit {0}

  open_number : (w : Result Way ℕ) → Open w → way_number w ≡ 0
  unfolding Open way_number
  open_number (Err k) h = absurd h
  open_number (Ok no_table) h = refl
  open_number (Ok (slot a e)) h = refl

  -- guest cluster g in reach of L1 table t
  module _ (t : ℕ) (ht : t < roots s) (g : ℕ) (hg : g / per_table s < root_size s t) where
    pub l1_own : l1_entry s t g ≡ l1 (geo s) m (entry_nr t g)
    unfolding l1_entry l1_entry_at
    l1_own = sym (l1_at_lem s f s t (g / per_table s) ht hg)

    pub tab_own : tab (geo s) (code s) m (entry_nr t g) ≡ place (l1_entry s t g) / cluster_size s
    unfolding tab
    tab_own = ap (λ (x : ℕ). place x / cluster_size s) (sym l1_own)

    part-own : good_l1 (cluster_size s) (length s) (l1_entry s t g) ≡ true
        → be64 (part s (place (l1_entry s t g)) (cluster_size s)) (8 * (g % per_table s)) ≡ l2 (geo s) m (tab (geo s) (code s) m (entry_nr t g)) (g % per_table s)
    part-own h =
        part8 s (place (l1_entry s t g)) (cluster_size s) (8 * (g % per_table s)) (omega (arith, c_8 s f, mod-lt g e_pos))
        ∙ ap (λ (x : ℕ). be64 s (x + 8 * (g % per_table s))) (sym (div_back (cluster_size s) (place (l1_entry s t g)) (placed1 s f (l1_entry s t g) h).whole) ∙ ap (λ (x : ℕ). x * cluster_size s) (sym tab_own))
        ∙ sym (l2_at s f s (tab (geo s) (code s) m (entry_nr t g)) (g % per_table s))

    pub way-is : WayIs t g (way s t g)
    unfolding WayIs way l2_way entry_way
    way-is =
        if_elim (WayIs t g) (not (good_l1 (cluster_size s) (length s) (l1_entry s t g))) _ _ (λ b. tt)
        (λ b. if_elim (WayIs t g) (eqb (place (l1_entry s t g)) 0) _ _
        (λ z. tab_own ∙ ap (λ (x : ℕ). x / cluster_size s) (eqb-true _ _ z) ∙ zero-div (cluster_size s))
        (λ z. if_elim (WayIs t g) (compressed e) _ _ (λ c. tt)
        (λ c. if_elim (WayIs t g) (not (good_l2 (version s) (cluster_size s) (length s) e)) _ _ (λ d. tt)
        (λ d. last (not-false _ b) (eqb-false _ _ z) (not-false _ d)))))
      where
        e : ℕ
        e = be64 (part s (place (l1_entry s t g)) (cluster_size s)) (8 * (g % per_table s))

        last : good_l1 (cluster_size s) (length s) (l1_entry s t g) ≡ true → place (l1_entry s t g) ≢ 0 → good_l2 (version s) (cluster_size s) (length s) e ≡ true
            → Slot t g (place (l1_entry s t g) + 8 * (g % per_table s)) e
        last b z d =
            let w = (placed1 s f (l1_entry s t g) b).whole in
            record {
              table = λ y. z (div_none (cluster_size s) (place (l1_entry s t g)) w (sym tab_own ∙ y));
              place_is = ap (λ (x : ℕ). x + 8 * (g % per_table s)) (sym (div_back (cluster_size s) (place (l1_entry s t g)) w) ∙ ap (λ (x : ℕ). x * cluster_size s) (sym tab_own));
              entry-is = part-own b;
              good = d;
            }

    pub nr_in : entry_nr t g < roots s * most_l1
    nr_in = omega (arith, root-few s f t ht)

    own-good : Sound (geo s) (code s) m → good_l1 (cluster_size s) (length s) (l1_entry s t g) ≡ true
    own-good k = rw l1_own (k.goods1 (entry_nr t g) nr_in)

    way_open : Sound (geo s) (code s) m → Open (way s t g)
    unfolding Open way l2_way entry_way
    way_open k =
        subst Open (sym (if_no (not (good_l1 (cluster_size s) (length s) (l1_entry s t g))) _ _ (ap not own)))
        (if_elim Open (eqb (place (l1_entry s t g)) 0) _ _ (λ z. tt)
        (λ z. subst Open (sym (if_no (compressed e) _ _ (good-plain (version s) (cluster_size s) (length s) e (good (eqb-false _ _ z)))))
        (subst Open (sym (if_no (not (good_l2 (version s) (cluster_size s) (length s) e)) _ _ (ap not (good (eqb-false _ _ z))))) tt)))
      where
        e : ℕ
        e = be64 (part s (place (l1_entry s t g)) (cluster_size s)) (8 * (g % per_table s))

        own : good_l1 (cluster_size s) (length s) (l1_entry s t g) ≡ true
        own = own-good k

        good : place (l1_entry s t g) ≢ 0 → good_l2 (version s) (cluster_size s) (length s) e ≡ true
        good d =
            rw (part-own own) (k.goods2 (entry_nr t g) (g % per_table s) nr_in (mod-lt g e_pos)
            (λ z. d (div_none (cluster_size s) (place (l1_entry s t g)) (placed1 s f (l1_entry s t g) own).whole (sym tab_own ∙ z))))

  -- what a good entry names
  module _ (t g a e : ℕ) (h : Slot t g a e) where
    pub dat_own : dat (geo s) (code s) m (entry_nr t g) (g % per_table s) ≡ place e / cluster_size s
    dat_own = dat_some (geo s) (code s) m (entry_nr t g) (g % per_table s) h.table ∙ ap (λ (x : ℕ). place x / cluster_size s) (sym h.entry-is)

    pub dat_place : dat (geo s) (code s) m (entry_nr t g) (g % per_table s) * cluster_size s ≡ place e
    dat_place = ap (λ (x : ℕ). x * cluster_size s) dat_own ∙ div_back (cluster_size s) (place e) (placed2 s f e h.good).whole

    pub mark_own : mark (geo s) (code s) m (entry_nr t g) (g % per_table s) ≡ e % 2
    mark_own = mark_some (geo s) (code s) m (entry_nr t g) (g % per_table s) h.table ∙ ap (λ (x : ℕ). x % 2) (sym h.entry-is)

    pub dat_zero : place e ≡ 0 → dat (geo s) (code s) m (entry_nr t g) (g % per_table s) ≡ 0
    dat_zero z = dat_own ∙ ap (λ (x : ℕ). x / cluster_size s) z ∙ zero-div (cluster_size s)

    pub dat_some-own : place e ≢ 0 → dat (geo s) (code s) m (entry_nr t g) (g % per_table s) ≢ 0
    dat_some-own d z = d (div_none (cluster_size s) (place e) (placed2 s f e h.good).whole (sym dat_own ∙ z))

  byte-gives : (backing : List ℕ) (t g o x : ℕ) (w : Result Way ℕ) → WayIs t g w → Open w
      → found_byte backing s x (way_gives w o) ≡ gread (geo s) (code s) m (entry_nr t g) (g % per_table s) o (backing_byte backing s x)
  unfolding WayIs Open found_byte way_gives entry_gives zero_mark
  byte-gives backing t g o x (Err k) h n = absurd n
  byte-gives backing t g o x (Ok no_table) h n = ap (λ (f : ℕ → ℕ). f (backing_byte backing s x)) (sym (gread_absent (geo s) (code s) m (entry_nr t g) (g % per_table s) o h))
  byte-gives backing t g o x (Ok (slot a e)) h n =
      if_elim (λ (y : Found). found_byte backing s x (Ok y) ≡ gread (geo s) (code s) m i j o u) (eqb (e % 2) 1) _ _
      (λ z. ap (λ (f : ℕ → ℕ). f u) (sym (gread_marked (geo s) (code s) m i j o (λ y. omega (arith, eqb-true (e % 2) 1 z, mark_own t g a e h, y)))))
      (λ z. if_elim (λ (y : Found). found_byte backing s x (Ok y) ≡ gread (geo s) (code s) m i j o u) (eqb (place e) 0) _ _
      (λ p. ap (λ (f : ℕ → ℕ). f u) (sym (gread_none (geo s) (code s) m i j o (dat_zero t g a e h (eqb-true _ _ p)) (mark_own t g a e h ∙ even (eqb-false _ _ z)))))
      (λ p. sym (gread_shown (geo s) (code s) m i j o u (dat_some-own t g a e h (eqb-false _ _ p)) (mark_own t g a e h ∙ even (eqb-false _ _ z))
      ∙ ap (λ (y : ℕ). get_or s (y + o) 0) (dat_place t g a e h))))
    where
      i : ℕ
      i = entry_nr t g

      j : ℕ
      j = g % per_table s

      u : ℕ
      u = backing_byte backing s x

      even : e % 2 ≢ 1 → e % 2 ≡ 0
      even d = omega arith

  -- ---- how far an L1 table reaches
  pub reach_in : (t : ℕ) → reach s t ≤ root_size s t * per_table s * cluster_size s
  unfolding reach root_size
  reach_in zero = f.reach
  reach_in (suc k) = le_refl _

  pub in_root : (t y : ℕ) → y < reach s t → y / cluster_size s / per_table s < root_size s t
  in_root t y l = (div-lt_iff_lt-mul e_pos).1 ((div-lt_iff_lt-mul (c_pos s f)).1 (omega (arith, reach_in t)))

  pub guest_rd : (backing : List ℕ) → Sound (geo s) (code s) m → (t : ℕ) → t < roots s → (y : ℕ) → y < reach s t → guest_byte backing s t y ≡ rd (geo s) (code s) (backing_byte backing s) s t y
  unfolding guest_byte located
  guest_rd backing k t h y l =
      byte-gives backing t (y / cluster_size s) (y % cluster_size s) y (way s t (y / cluster_size s)) (way-is t h (y / cluster_size s) (in_root t y l)) (way_open t h (y / cluster_size s) (in_root t y l) k)

  -- ---- reads
  ways_open : (t k g : ℕ) → ((y : ℕ) → g ≤ y → y < g + k → way_number (way s t y) ≡ 0) → ways_number s t g k ≡ 0
  unfolding ways_number
  ways_open t zero g h = refl
  ways_open t (suc k) g h = rw (h g (le_refl g) (omega arith), ways_open t k (suc g) (λ y l n. h y (omega arith) (omega arith)))

  touched_in : (t x len y : ℕ) → x + len ≤ reach s t → x / cluster_size s ≤ y → y < x / cluster_size s + touched (cluster_size s) x len → y / per_table s < root_size s t
  unfolding touched
  touched_in t x zero y h l n = absurd (omega arith)
  touched_in t x (suc k) y h l n =
      (div-lt_iff_lt-mul e_pos).1 (omega (arith, top))
    where
      top : (x + k) / cluster_size s < root_size s t * per_table s
      top = (div-lt_iff_lt-mul (c_pos s f)).1 (omega (arith, reach_in t))

  pub inside : (t x len : ℕ) → outside s t x len ≡ false → (t < roots s) × (x + len ≤ reach s t)
  unfolding outside
  inside t x len h =
      let p = or-false (leb (roots s) t || ltb (reach s t) x) _ h in
      let q = or-false (leb (roots s) t) _ p.0 in
      (leb-false (roots s) t q.0, omega (arith, ltb-false (reach s t) x q.1, ltb-false (reach s t - x) len p.1))

  range_accepted : Sound (geo s) (code s) m → (t x len : ℕ) → outside s t x len ≡ false → range_number s t x len ≡ 0
  unfolding range_number
  range_accepted k t x len h =
      rw h (ways_open t (touched (cluster_size s) x len) (x / cluster_size s)
      (λ y l n. open_number (way s t y) (way_open t (inside t x len h).0 y (touched_in t x len y (inside t x len h).1 l n) k)))

  pub accepted : (backing : List ℕ) → judge backing s ≡ 0 → Sound (geo s) (code s) m → (t x len : ℕ) → outside s t x len ≡ false → read_number backing s t x len ≡ 0
  unfolding read_number
  accepted backing e k t x len h = rw e (range_accepted k t x len h)

  pub read_whole : (backing : List ℕ) → judge backing s ≡ 0 → Sound (geo s) (code s) m → (t x : ℕ) (out : List ℕ) → outside s t x (length out) ≡ false → read_into backing s t x out ≡ each (guest_byte backing s t) x (length out)
  unfolding read_into range_into guest_bytes
  read_whole backing e k t x out h = rw (e, range_accepted k t x (length out) h) refl

  -- a read that is outside leaves its output
  pub read-outside : (backing : List ℕ) → judge backing s ≡ 0 → (t x : ℕ) (out : List ℕ) → outside s t x (length out) ≡ true → read_into backing s t x out ≡ out
  unfolding read_into range_into range_number
  read-outside backing e t x out h = rw (e, h) refl

  -- ---- the way of a write or a discard: what it changes has one reference
  common-not : (e : ℕ) → common e ≡ false → place e ≢ 0 → e / 2 ^ 63 ≡ 1
  unfolding common alone
  common-not e h d = eqb-true _ _ (not-false _ (rw (ne_eqb (place e) 0 d) at h))

  pub record Own (g a e : ℕ) : Type 0 where
    pub way_slot : Slot 0 g a e
    pub lone : refs_of (geo s) (code s) m (tab (geo s) (code s) m (entry_nr 0 g)) ≤ 1
    pub lone_data : dat (geo s) (code s) m (entry_nr 0 g) (g % per_table s) ≢ 0 → refs_of (geo s) (code s) m (dat (geo s) (code s) m (entry_nr 0 g) (g % per_table s)) ≤ 1

  unfoldable pub OwnIs : (g : ℕ) → Result Way ℕ → Type 0
  OwnIs g (Err n) = Unit {0}
  OwnIs g (Ok no_table) = tab (geo s) (code s) m (entry_nr 0 g) ≡ 0
  OwnIs g (Ok (slot a e)) = Own g a e

  first-root : 0 < roots s
  first-root = omega (arith, root-count s f)

  pub first_nr : (g : ℕ) → g / per_table s < root_size s 0 → entry_nr 0 g < most_l1
  first_nr g l = omega (arith, root-few s f 0 first-root)

  pub own-way : Sound (geo s) (code s) m → (g : ℕ) → g / per_table s < root_size s 0 → OwnIs g (own_way s g)
  unfolding own_way own_slot OwnIs WayIs
  own-way k g l =
      if_elim (OwnIs g) (good_l1 (cluster_size s) (length s) (l1_entry s 0 g) && common (l1_entry s 0 g)) _ _ (λ b. tt)
      (λ b. pick (way s 0 g) (rw (own-good 0 first-root g l k) at b) (way-is 0 first-root g l))
    where
      i : ℕ
      i = entry_nr 0 g

      j : ℕ
      j = g % per_table s

      i_l : i < roots s * most_l1
      i_l = nr_in 0 first-root g l

      i_m : i < most_l1
      i_m = first_nr g l

      pick : (w : Result Way ℕ) → common (l1_entry s 0 g) ≡ false → WayIs 0 g w → OwnIs g (own_slot w)
      pick (Err n) c h = tt
      pick (Ok no_table) c h = h
      pick (Ok (slot a e)) c h = if_elim (OwnIs g) (common e) _ _ (λ y. tt) (λ y. record {
        way_slot = h;
        lone = let p : place (l1_entry s 0 g) ≢ 0 = λ z. h.table (tab_own 0 first-root g l ∙ ap (λ (x : ℕ). x / cluster_size s) z ∙ zero-div (cluster_size s)) in
            let q : l1 (geo s) m i / 2 ^ 63 ≡ 1 = rw (l1_own 0 first-root g l) at (common-not (l1_entry s 0 g) c p) in
            omega (arith, (k.mark1 i i_l i_m h.table).0 q);
        lone_data = λ d. let p : place e ≢ 0 = λ z. d (dat_zero 0 g a e h z) in
            let q : l2 (geo s) m (tab (geo s) (code s) m i) j / 2 ^ 63 ≡ 1 = rw h.entry-is at (common-not e y p) in
            omega (arith, (k.mark2 i j i_l i_m (mod-lt g e_pos) d).0 q);
      })
