-- Laws of tables whose references are visited entry by entry.
-- Assumes nothing.
use Rattle.std.proofs.Common.{◌≡◌, ℕ, zero, suc, ◌+◌, ◌-◌, ◌*◌, ◌/◌, ◌<◌, ◌≤◌, Bool, true, false, not, ◌&&◌, eqb, List, [], ◌∷◌, length, take, drop, sym, refl, ◌∙◌, add-zero, zero-add, arith, length-drop, eq-eqb, ne_eqb, eqb-true, if◌then◌else◌}
use borrow.Author.Tests.{eqb-false}
use Rattle.choice.specs.Pick.{all}
use Rattle.endian.specs.Big.{be64, entries}
use Rattle.tally.specs.Tally.{joined}
use Rattle.tally.specs.States.{visit_all}
use Rattle.qcow2_spec.specs.Entries.{place, good_place, good_l2, compressed, zero_mark, common}
use Rattle.qcow2_spec.specs.References.{named, l2_refs}
use Rattle.qcow2_groups.specs.Walks.{Room, passes, fore, fronted, Walking, Passed, whole, on_from}
use Rattle.endian.proofs.Entries.{be64-drop, entries_turn, entries_none, entries-whole}
use Rattle.blank.proofs.Zeros.{is_zero, entries-zeros}
use Rattle.qcow2_spec.proofs.Facts.{all-entries}
use Rattle.qcow2_spec.proofs.Visits.{refs_turn, refs_end}

-- a scratch of the same length has room too
pub room-kept : {s t : List ℕ} {b n : ℕ} → length t ≡ length s → Room s b n → Room t b n
room-kept e r = record { low = r.low; high = r.high; some = r.some; small = r.small; clusters = r.clusters; holds = e ∙ r.holds; fits = r.fits }

-- one entry more, behind j of which r are good at the front
front-next : (p : ℕ → Bool) (r r' j e : ℕ) (es : List ℕ) → r ≤ j → r' ≡ (if eqb r j && p e then j + 1 else r) → fronted p r' (j + 1) es ≡ fronted p r j (e ∷ es)
unfolding fronted fore
front-next p r r' j e es h g = go (eqb r j) refl (p e) refl
  where
    go : (t : Bool) → eqb r j ≡ t → (u : Bool) → p e ≡ u
        → (if eqb r' (j + 1) then j + 1 + fore p es else r') ≡ (if eqb r j then j + (if p e then suc (fore p es) else 0) else r)
    go true a true b =
        let d : r' ≡ j + 1 = g ∙ rw (a, b) in
        rw (a, b, eq-eqb r' (j + 1) d) (omega arith)
    go true a false b =
        let d : r' ≡ r = g ∙ rw (a, b) in
        let c : r ≡ j = eqb-true r j a in
        rw (a, b, ne_eqb r' (j + 1) (λ z. omega arith)) (omega arith)
    go false a u b =
        let d : r' ≡ r = g ∙ rw a in
        let c : r ≡ j → ⊥ = eqb-false r j a in
        rw (a, ne_eqb r' (j + 1) (λ z. omega arith)) d

pub front-few : (b : Bool) (r j : ℕ) → r ≤ j → (if b then j + 1 else r) ≤ j + 1
front-few true r j h = omega arith
front-few false r j h = omega arith

front-all : (p : ℕ → Bool) (j : ℕ) (es : List ℕ) → fronted p j j es ≡ j + fore p es
unfolding fronted
front-all p j es = rw (eq-eqb j j refl)

front_end : (p : ℕ → Bool) (r j : ℕ) → fronted p r j [] ≡ r
unfolding fronted fore
front_end p r j = go (eqb r j) refl
  where
    go : (t : Bool) → eqb r j ≡ t → (if eqb r j then j + 0 else r) ≡ r
    go true a = let c : r ≡ j = eqb-true r j a in rw a (omega arith)
    go false a = rw a

-- a walk at first, after an entry more, and at the end
pub walking_first : {kind : ℕ} {f : ℕ → List ℕ} {p : ℕ → Bool} {es s : List ℕ} {r j : ℕ} → Walking kind f p es s r j es s r j
walking_first = record { counted = refl; tested = refl }

module _ {kind : ℕ} {f : ℕ → List ℕ} {p : ℕ → Bool} {es₀ s₀ : List ℕ} {r₀ j₀ : ℕ} (k r j : ℕ) (t : List ℕ) {s : List ℕ} (w : Walking kind f p es₀ s₀ r₀ j₀ (entries (k - j) (drop (8 * j) t)) s r j) where
  pub walking_next : {s' : List ℕ} {r' : ℕ} → j < k → r ≤ j → s' ≡ visit_all kind (f (be64 t (8 * j))) s → r' ≡ (if eqb r j && p (be64 t (8 * j)) then j + 1 else r)
      → Walking kind f p es₀ s₀ r₀ j₀ (entries (k - (j + 1)) (drop (8 * (j + 1)) t)) s' r' (j + 1)
  walking_next {s'} {r'} h l e g = record {
    counted = rw e (sym (refs_turn kind f k j t h s) ∙ w.counted);
    tested = front-next p r r' j (be64 t (8 * j)) _ l g ∙ (rw (entries_turn k j t h) at w.tested);
  }

  pub walking_last : k ≤ j → (r ≡ fronted p r₀ j₀ es₀) × (s ≡ visit_all kind (joined f es₀) s₀)
  walking_last h = (sym (front_end p r j) ∙ (rw (entries_none k j t h) at w.tested), sym (refs_end kind f k j t h s) ∙ w.counted)

-- a good entry more, where all were good
pub all-good-next : {kind : ℕ} {f : ℕ → List ℕ} {p : ℕ → Bool} {es₀ s₀ : List ℕ} {i : ℕ} (k j : ℕ) (t : List ℕ) {s s' : List ℕ}
    → Walking kind f p es₀ s₀ i i (entries (k - j) (drop (8 * j) t)) s j j → j < k → s' ≡ visit_all kind (f (be64 t (8 * j))) s → p (be64 t (8 * j)) ≡ true
    → Walking kind f p es₀ s₀ i i (entries (k - (j + 1)) (drop (8 * (j + 1)) t)) s' (j + 1) (j + 1)
all-good-next k j t w h e g = walking_next k j j t w h (omega arith) e (rw (eq-eqb j j refl, g))

-- one walk after another
pub walking_then : {kind : ℕ} {f : ℕ → List ℕ} {p : ℕ → Bool} {es s es' s' es'' s'' : List ℕ} {i j k l m n : ℕ} → Walking kind f p es s i j es' s' k l → Walking kind f p es' s' k l es'' s'' m n → Walking kind f p es s i j es'' s'' m n
walking_then w u = record { counted = u.counted ∙ w.counted; tested = u.tested ∙ w.tested }

-- a whole table, where the first j entries were good
pub walked_whole : {kind : ℕ} {f : ℕ → List ℕ} {p : ℕ → Bool} (t : List ℕ) {s₀ s₁ s : List ℕ} {r j : ℕ}
    → Walking kind f p (on_from 0 t) s₀ 0 0 (on_from j t) s₁ j j → (r ≡ fronted p j j (on_from j t)) × (s ≡ visit_all kind (joined f (on_from j t)) s₁) → Passed kind f p (whole t) s₀ s r
walked_whole {kind} {f} {p} t {s₀} w e = record {
  tested = e.0 ∙ w.tested ∙ front-all p 0 (on_from 0 t) ∙ rw (zero-add, entries-whole (length t / 8) t);
  counted = e.1 ∙ w.counted ∙ rw (entries-whole (length t / 8) t);
}

-- what an L2 entry refers to
pub refs_good : (v C n e : ℕ) → good_l2 v C n e ≡ true → l2_refs v C n e ≡ named C (place e)
unfolding l2_refs
refs_good v C n e h = rw h

pub refs_bad : (kind v C n e : ℕ) (s : List ℕ) → good_l2 v C n e ≡ false → s ≡ visit_all kind (l2_refs v C n e) s
unfolding l2_refs visit_all
refs_bad kind v C n e s h = rw h

-- an entry of zeros passes and refers to nothing
pub zero-good : (v C n : ℕ) → good_l2 v C n 0 ≡ true
unfolding good_l2 good_place compressed zero_mark place
zero-good v C n = refl

and_not-none : (b : Bool) → not (b && false) ≡ true
and_not-none true = refl
and_not-none false = refl

pub zero-passes : (kind v C n : ℕ) → passes kind v C n 0 ≡ true
unfolding passes common place
zero-passes kind v C n = rw (zero-good v C n) (and_not-none (eqb kind 0))

pub zero_refs : (kind v C n : ℕ) (s : List ℕ) → s ≡ visit_all kind (l2_refs v C n 0) s
unfolding l2_refs named place visit_all
zero_refs kind v C n s = rw (zero-good v C n)

-- a walk passes over m entries of zeros from i on, of k in the table
module _ (kind v C n k i : ℕ) (t s : List ℕ) where
  over_zeros : (m : ℕ) → i + m ≤ k → ((x : ℕ) → x < m → be64 t (8 * (i + x)) ≡ 0)
      → Walking kind (l2_refs v C n) (passes kind v C n) (entries (k - i) (drop (8 * i) t)) s i i (entries (k - (i + m)) (drop (8 * (i + m)) t)) s (i + m) (i + m)
  over_zeros zero h z = rw add-zero walking_first
  over_zeros (suc m) h z =
      let w = over_zeros m (omega arith) (λ x l. z x (omega arith)) in
      let e : i + suc m ≡ i + m + 1 = omega arith in
      let b : be64 t (8 * (i + m)) ≡ 0 = z m (omega arith) in
      rw e (all-good-next k (i + m) t w (omega arith) (rw b (zero_refs kind v C n s)) (rw b (zero-passes kind v C n)))

  pub zeros_passed : (m : ℕ) → i + m ≤ k → 8 * k ≤ length t → all is_zero (take (8 * m) (drop (8 * i) t)) ≡ true
      → Walking kind (l2_refs v C n) (passes kind v C n) (entries (k - i) (drop (8 * i) t)) s i i (entries (k - (i + m)) (drop (8 * (i + m)) t)) s (i + m) (i + m)
  zeros_passed m h l z = over_zeros m h at_each
    where
      at_each : (x : ℕ) → x < m → be64 t (8 * (i + x)) ≡ 0
      at_each x g =
          let T : List ℕ = drop (8 * i) t in
          let a : all is_zero (entries m T) ≡ true = sym (entries-zeros m T (simp length-drop (omega arith))) ∙ z in
          let d : 8 * i + 8 * x ≡ 8 * (i + x) = omega arith in
          rw (be64-drop t (8 * i) (8 * x), d) at (eqb-true (be64 T (8 * x)) 0 (all-entries is_zero m T a x g))
