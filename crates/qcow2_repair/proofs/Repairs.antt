-- A repair of a leaking image, once the autoclear field may be cleared. Assumes nothing.
use Prim.Native.Nat.{ℕ, zero, suc, ◌+◌, ◌*◌, ◌/◌, ◌^◌, ◌≤◌, ◌<◌}
use native.Mathlib.Nat.{add-zero, add-suc, suc-add, zero-add}
use native.Mathlib.Omega.{arith}
use mathlib.Core.Path.{◌≡◌, refl, sym, ap, ◌∙◌}
use mathlib.Core.List.{List, ◌++◌, append_assoc, append-nil}
use lib.ListN.{length, take, get_or}
use Rattle.endian.specs.Big.{be64}
use Rattle.endian.proofs.Laws.{SamePart, be64-same}
use Rattle.widths.specs.Width.{span}
use Rattle.widths.proofs.Cells.{number_same}
use Rattle.units.specs.Units.{UnitStore, apply_all}
use Rattle.units.proofs.Laws.{length-apply_all}
use Rattle.qcow2_spec.specs.Header.{count_order, width, clusters}
use Rattle.qcow2_spec.specs.Counts.{count_at, count_of, set_count}
use Rattle.qcow2_spec.specs.Store.{clear_units}
use Rattle.qcow2_spec.specs.References.{figures_of}
use Rattle.qcow2_spec.specs.Check.{repair_units, verdict}
use Rattle.qcow2_spec.specs.Series.{Bytes}
use Rattle.qcow2_spec.specs.Opened.{Opened}
use Rattle.qcow2_spec.specs.declared.Geometry.{Geometry}
use Rattle.qcow2_spec.specs.declared.Verdict.TheVariants.{Leaks}
use Rattle.qcow2_spec.proofs.Kept.{cnt_own}
use Rattle.qcow2_spec.proofs.Verdicts.{figure_own}
use Rattle.packed_twos.specs.Twos.{figures_in}
use Rattle.qcow2_counts.specs.Blocks.{per_of, count_place, table_place}
use Rattle.qcow2_repair.specs.Leaks.{Figured, Laid, Leaking, mend_units}
use Rattle.qcow2_setcount.specs.Fixed.{fix}
use Rattle.qcow2_counts.proofs.Sizes.{sizes, block_in, reach, count-is}
use Rattle.qcow2_clear.proofs.Clears.{clear_keeps}
use Rattle.qcow2_setcount.proofs.Fixes.{fix-same}
use Rattle.qcow2_repair.proofs.Alone.{leaks-sound, some-leak}
use Rattle.qcow2_repair.proofs.Apart.{apart}
use Rattle.qcow2_repair.proofs.Midway.{figure_of}

-- what a repair is told holds after a check that said leaks
pub leaking : (g : Geometry) (s refs : List ℕ) (m : ℕ) → Bytes s → Opened g s → Figured s refs → verdict s ≡ Leaks m → Leaking g s refs
leaking g s refs m by o f v =
    let x = (sizes g s o).all in
    let k = leaks-sound s x m v by in
    record {
      opened = o;
      apart = apart s x k;
      figures = f;
      some = some-leak s x m v k;
      covered = λ c l. omega (arith, figure_own s x k c l, cnt_own s x c l, k.inv.covered c l);
    }

-- ---- the list of the definition is the one of the code
-- the last cluster last
units-last : (s fs : List ℕ) (i k : ℕ) → repair_units s fs i (suc k) ≡ repair_units s fs i k ++ fix (count_order s) s (count_at s (i + k)) (get_or fs (i + k) 0)
unfolding repair_units fix count_of set_count width
units-last s fs i zero = rw add-zero (append-nil _)
units-last s fs i (suc k) =
    rw (add-suc, ← suc-add, append_assoc) (ap (λ (us : List UnitStore). fix (count_order s) s (count_at s i) (get_or fs i 0) ++ us) (units-last s fs (suc i) k))

mend_is : (g : Geometry) (s fs gs : List ℕ) → Opened g s → (k : ℕ) → ((j : ℕ) → j < k → get_or gs j 0 ≡ get_or fs j 0) → mend_units g s gs k ≡ repair_units s fs 0 k
unfolding mend_units repair_units
mend_is g s fs gs o zero h = refl
mend_is g s fs gs o (suc k) h =
    rw (units-last, zero-add, mend_is g s fs gs o k (λ j l. h j (omega arith)), count-is g s o k, o.is-order, h k (omega arith))

-- the definition's list with the figures as they stand in the scratch
pub repair_figured : (g : Geometry) (s refs : List ℕ) → Leaking g s refs → repair_units s (figures_in refs) 0 g.clusters ≡ repair_units s (figures_of s) 0 (clusters s)
repair_figured g s refs l =
    ap (repair_units s (figures_in refs) 0) l.opened.is-clusters
    ∙ sym (mend_is g s (figures_in refs) (figures_in refs) l.opened (clusters s) (λ j h. refl))
    ∙ mend_is g s (figures_of s) (figures_in refs) l.opened (clusters s) (figure_of s refs l.figures)

-- ---- a cleared field
-- t is s but for bytes before the refcount table and the counts
pub record Kept (s t : List ℕ) : Type 0 where
  pub long : length t ≡ length s
  pub same : (x w : ℕ) → 96 ≤ x → SamePart t x s x w

pub cleared-kept : (s t : List ℕ) (a : ℕ) → 512 ≤ length s → t ≡ apply_all (take a (clear_units s)) s → Kept s t
cleared-kept s t a h e =
    record { long = rw e (length-apply_all (take a (clear_units s)) s); same = λ x w l. rw e (clear_keeps s a x w (omega arith) l) }

module _ (g : Geometry) (s refs : List ℕ) (l : Leaking g s refs) where
  in_s : (k : ℕ) → k < g.clusters → k < clusters s
  in_s k h = rw l.opened.is-clusters at h

  laid : Laid g s
  laid =
      let o = l.opened in
      let z = sizes g s o in
      record {
        few = z.few;
        low = omega (arith, o.low);
        high = o.high;
        narrow = o.narrow;
        reach = reach g s o;
        counts = λ j k h m. rw (count-is g s o j, count-is g s o k, o.is-width) (l.apart.counts j k h (in_s k m));
        table = λ j k h m. rw (count-is g s o j, o.is_tableat, o.is-width) (l.apart.table j (k / per_of g) (in_s j h) (rw o.is-blocks at (block_in g s o k m)));
      }

  module _ (t : List ℕ) (e : Kept s t) where
    table_kept : (k : ℕ) → be64 t (table_place g k) ≡ be64 s (table_place g k)
    table_kept k = be64-same _ _ _ _ (e.same (table_place g k) 8 (omega (arith, l.apart.table-past, l.opened.is_tableat)))

    pub laid_kept : Laid g t
    laid_kept =
        record {
          few = laid.few;
          low = laid.low;
          high = laid.high;
          narrow = laid.narrow;
          reach = λ k h. let r = laid.reach k h in
              record { low = r.low; high = r.high; narrow = r.narrow; whole = rw (table_kept k) r.whole; named = record { entered = rw e.long r.named.entered; short = rw e.long r.named.short; inside = rw (e.long, table_kept k) r.named.inside } };
          counts = λ j k h m. rw (table_kept j, table_kept k) (laid.counts j k h m);
          table = λ j k h m. rw (table_kept j) (laid.table j k h m);
        }

    mend_kept : (k : ℕ) → k ≤ g.clusters → mend_units g t (figures_in refs) k ≡ mend_units g s (figures_in refs) k
    unfolding mend_units
    mend_kept zero h = refl
    mend_kept (suc k) h =
        let q = count_place g s k in
        let p : 8 * 512 ≤ q = rw (count-is g s l.opened k) (l.apart.past k (in_s k h)) in
        rw (mend_kept k (omega arith), table_kept k, fix-same g.order s t q (get_or (figures_in refs) k 0) (number_same (2 ^ g.order) t q s q refl (e.same (q / 8) (span (2 ^ g.order)) (omega arith))))

    -- the same list, whatever the field
    pub mended : mend_units g t (figures_in refs) g.clusters ≡ repair_units s (figures_of s) 0 (clusters s)
    mended =
        mend_kept g.clusters (omega arith)
        ∙ ap (mend_units g s (figures_in refs)) l.opened.is-clusters
        ∙ mend_is g s (figures_of s) (figures_in refs) l.opened (clusters s) (figure_of s refs l.figures)
