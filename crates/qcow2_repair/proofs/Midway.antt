-- A repair midway: what it reads is what stood there on entry, since the counts lie apart. Assumes nothing.
use Rattle.std.specs.Prelude.{Ok}
use Prim.Native.Nat.{ℕ, zero, suc, ◌+◌, ◌-◌, ◌*◌, ◌/◌, ◌%◌, ◌^◌, ◌≤◌, ◌<◌}
use native.Mathlib.Nat.{add-zero, add-suc}
use native.Mathlib.Omega.{arith}
use mathlib.Core.Path.{◌≡◌, refl, sym, ap, subst, ◌∙◌}
use mathlib.Core.Logic.{◌⊎◌, inl, inr}
use mathlib.Core.List.{List, ◌++◌, append_assoc, append-nil}
use lib.ListN.{length, take, get_or, length-append, length-take}
use lib.Pow.{pow_pos}
use lib.Seq.{take-nil}
use Rattle.endian.specs.Big.{be64}
use Rattle.endian.proofs.Laws.{be64-same}
use Rattle.widths.specs.Width.{span, number, Inside}
use Rattle.widths.proofs.Whole.{within}
use Rattle.widths.proofs.Cells.{even_order, inside-bytes}
use Rattle.units.specs.Units.{apply_all}
use Rattle.units.specs.Plan.{units, ended, Done}
use Rattle.units.specs.declared.Ended.{Ended}
use Rattle.units.proofs.Laws.{length-apply_all}
use Rattle.units.proofs.Steps.{two, stored}
use Rattle.units.proofs.Elsewhere.{Off, none, off_append, untouched, Beside, lone, beside_append, unmoved}
use Rattle.tally.proofs.Laws.{length-figures, figures-small}
use Rattle.tally.proofs.Wide.{Fit}
use Rattle.packed_twos.specs.Twos.{many, figures_in}
use Rattle.packed_twos.proofs.Laws.{length-wide, figures-front}
use Rattle.qcow2_spec.specs.Header.{clusters}
use Rattle.qcow2_spec.specs.References.{references, most_figure, figures_of}
use Rattle.qcow2_spec.specs.declared.Geometry.{Geometry}
use Rattle.qcow2_counts.specs.Blocks.{Reach, per_of, count_place, table_place}
use Rattle.qcow2_repair.specs.Leaks.{Figured, Laid, mend_units}
use Rattle.qcow2_setcount.specs.Fixed.{fixes}
use Rattle.qcow2_counts.proofs.Sizes.{count-inside}
use Rattle.qcow2_counts.proofs.Blocks.{run_block, run_index}
use Rattle.qcow2_setcount.proofs.Fixes.{off_fix, beside-fix, fixes-most, fixes-same}

-- ---- the places of the counts
module _ (g : Geometry) (s : List ℕ) where
  -- those of one block stand one after another
  next_place : (k d : ℕ) → k % per_of g + d < per_of g → count_place g s (k + d) ≡ count_place g s k + 2 ^ g.order * d
  next_place k d h = let p = pow_pos (g.bits + 3 - g.order) in rw (run_block k (per_of g) d p h, run_index k (per_of g) d p h) (omega arith)

-- ---- the units of a repair
module _ (g : Geometry) (s fs : List ℕ) where
  -- a run of clusters more, whose counts stand one after another
  units-run : (i at : ℕ) (vs : List ℕ) (m : ℕ) → ((d : ℕ) → d < m → count_place g s (i + d) ≡ at + 2 ^ g.order * d) → ((d : ℕ) → d < m → get_or vs d 0 ≡ get_or fs (i + d) 0)
      → mend_units g s fs (i + m) ≡ mend_units g s fs i ++ fixes g.order s at vs m
  unfolding fixes mend_units
  units-run i at vs zero p f = rw add-zero (sym (append-nil (mend_units g s fs i)))
  units-run i at vs (suc m) p f =
      rw (add-suc, units-run i at vs m (λ d l. p d (omega arith)) (λ d l. f d (omega arith)), p m (omega arith), f m (omega arith)) (append_assoc (mend_units g s fs i) _ _)

  off_units : (k x m : ℕ) → ((j : ℕ) → j < k → (count_place g s j / 8 + span (2 ^ g.order) ≤ x) ⊎ (x + m ≤ count_place g s j / 8)) → Off (2 ^ g.order) x m (mend_units g s fs k)
  unfolding mend_units
  off_units zero x m h = none
  off_units (suc k) x m h = off_append (off_units k x m (λ j l. h j (omega arith))) (off_fix g.order s (count_place g s k) (get_or fs k 0) x m (h k (omega arith)))

  beside-units : (k q n : ℕ) → ((j : ℕ) → j < k → Inside g.order n (count_place g s j) × ((count_place g s j + 2 ^ g.order ≤ q) ⊎ (q + 2 ^ g.order ≤ count_place g s j)))
      → Beside (2 ^ g.order) q n (mend_units g s fs k)
  unfolding mend_units
  beside-units zero q n h = lone
  beside-units (suc k) q n h =
      let o = h k (omega arith) in
      beside_append (beside-units k q n (λ j l. h j (omega arith))) (beside-fix g.order s (count_place g s k) (get_or fs k 0) q n o.0 o.1)

  -- the image after the units of the first k clusters, of which the allowance let some be stored
  abbrev pub midway : (a k : ℕ) → List ℕ
  midway a k = apply_all (take a (mend_units g s fs k)) s

  -- the state of the repair before cluster k
  pub record State (a k n : ℕ) (t : List ℕ) : Type 0 where
    pub spent : n ≡ length (mend_units g s fs k)
    pub few : n ≤ k
    pub image : t ≡ midway a k

  pub state_first : (a : ℕ) → State a 0 0 s
  unfolding mend_units apply_all
  state_first a = record { spent = refl; few = omega arith; image = rw take-nil }

  pub state_last : (a k n : ℕ) (t : List ℕ) (r : Ended) → State a k n t → k ≡ g.clusters → r ≡ ended n a → Done (units (mend_units g s fs g.clusters)) a s (Ok r) t
  state_last a k n t r st e q =
      let x = subst (λ (j : ℕ). State a j n t) e st in
      stored (mend_units g s fs g.clusters) a s t r n (sym x.spent) q x.image

  -- ---- what is read midway
  module _ (p : Laid g s) (a k : ℕ) (h : k < g.clusters) where
    length_midway : length (midway a k) ≡ length s
    length_midway = length-apply_all (take a (mend_units g s fs k)) s

    table_now : be64 (midway a k) (table_place g k) ≡ be64 s (table_place g k)
    table_now = be64-same _ _ _ _ (untouched _ _ 8 (mend_units g s fs k) s a (off_units k (table_place g k) 8 (λ j l. aside j (omega arith) (p.table j k (omega arith) h))))
      where
        aside : (j : ℕ) → j < g.clusters → (count_place g s j + 2 ^ g.order ≤ 8 * table_place g k) ⊎ (8 * (table_place g k + 8) ≤ count_place g s j)
            → (count_place g s j / 8 + span (2 ^ g.order) ≤ table_place g k) ⊎ (table_place g k + 8 ≤ count_place g s j / 8)
        aside j l (inl d) =
            let i = count-inside g s j (p.reach j l) in
            inl (inside-bytes g.order (table_place g k) (count_place g s j) (record { few = i.few; aligned = i.aligned; fits = d }))
        aside j l (inr d) = inr (omega arith)

    place_now : count_place g (midway a k) k ≡ count_place g s k
    place_now = rw table_now

    reach_now : Reach g (midway a k) k
    reach_now =
        let r = p.reach k h in
        record {
          low = r.low;
          high = r.high;
          narrow = r.narrow;
          whole = rw table_now r.whole;
          named = record { entered = rw length_midway r.named.entered; short = rw length_midway r.named.short; inside = rw (length_midway, table_now) r.named.inside };
        }

    counts_now : (d : ℕ) → k + d < g.clusters → number (2 ^ g.order) (midway a k) (count_place g s (k + d)) ≡ number (2 ^ g.order) s (count_place g s (k + d))
    counts_now d l =
        let q = count_place g s (k + d) in
        let i = count-inside g s (k + d) (p.reach (k + d) l) in
        unmoved (2 ^ g.order) q (mend_units g s fs k) s a (even_order g.order p.narrow) (within g.order p.narrow q i.aligned) (inside-bytes g.order (length s) q i)
        (beside-units k q (length s) (λ j m. (count-inside g s j (p.reach j (omega arith)), p.counts j (k + d) (omega arith) l)))

    -- the same of the code's image and numbers
    pub found-reach : (t : List ℕ) → t ≡ midway a k → Reach g t k
    found-reach t e = rw e reach_now

    -- one run of clusters
    pub state_next : (n : ℕ) (t vs : List ℕ) (m r : ℕ) (u : List ℕ) → State a k n t → k + m ≤ g.clusters → k % per_of g + m ≤ per_of g
        → ((d : ℕ) → d < m → get_or vs d 0 ≡ get_or fs (k + d) 0)
        → r ≡ n + length (fixes g.order t (count_place g t k) vs m) → u ≡ apply_all (take (a - n) (fixes g.order t (count_place g t k) vs m)) t → State a (k + m) r u
    state_next n t vs m r u st l w f x y =
        let at : ℕ = count_place g s k in
        let c : (d : ℕ) → d < m → count_place g s (k + d) ≡ at + 2 ^ g.order * d = λ d q. next_place g s k d (omega arith) in
        let e : fixes g.order t (count_place g t k) vs m ≡ fixes g.order s at vs m =
        rw (st.image, place_now) (fixes-same g.order s at vs (midway a k) m (λ d q. rw (← c d q) (counts_now d (omega arith)))) in
        let v = units-run k at vs m c f in
        let X : r ≡ n + length (fixes g.order s at vs m) = rw e at x in
        record {
          spent = rw (v, length-append, ← st.spent) X;
          few = omega (arith, fixes-most g.order s at vs m, st.few);
          image = rw v (two (mend_units g s fs k) (fixes g.order s at vs m) s t u a (a - n) n (sym st.spent) refl st.image (rw e at y));
        }

-- ---- the scratch
pub length_of : (s : List ℕ) → length (figures_of s) ≡ clusters s
unfolding figures_of
length_of s = length-figures most_figure (references s) 0 (clusters s)

pub refs_long : (s refs : List ℕ) → Figured s refs → clusters s ≤ many refs
refs_long s refs f = omega (arith, sym (length-take (2 * clusters s) refs) ∙ ap length f ∙ length-wide (figures_of s), length_of s)

fit : (s : List ℕ) → Fit (figures_of s)
unfolding figures_of
fit s = figures-small most_figure (references s) 0 (clusters s)

-- a figure in it
pub figure_of : (s refs : List ℕ) → Figured s refs → (k : ℕ) → k < clusters s → get_or (figures_in refs) k 0 ≡ get_or (figures_of s) k 0
figure_of s refs f k h = figures-front refs (figures_of s) (fit s) (rw (length_of s) f) k (omega (arith, length_of s))
