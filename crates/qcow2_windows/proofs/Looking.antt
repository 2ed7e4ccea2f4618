-- What windows of bits and of states tell.
-- Assumes nothing.
use Prim.Native.Nat.{ℕ, ◌*◌, ◌≤◌, ◌<◌, zero-le}
use native.Mathlib.Omega.{arith}
use mathlib.Core.Path.{◌≡◌, refl, sym, ap, ◌∙◌}
use mathlib.Core.Bool.{Bool, true, false, not, ◌&&◌, ◌||◌, true≢false}
use mathlib.Core.List.{List, [], ◌∷◌}
use lib.Dec.{eqb}
use lib.ListN.{length}
use borrow.Author.Tests.{ltb-false}
use Rattle.choice.specs.Pick.{all, first}
use Rattle.choice.proofs.Runs.{first_passed}
use Rattle.choice.proofs.Tests.{and-true}
use Rattle.tally.specs.Tally.{occurrences}
use Rattle.tally.proofs.Laws.{length-figures}
use Rattle.packed_twos.specs.Twos.{many, figures_in}
use Rattle.packed_twos.proofs.Laws.{twos_are}
use Rattle.qcow2_spec.specs.Header.{version, cluster_size, clusters, snapshots, roots}
use Rattle.qcow2_spec.specs.Entries.{place, common, good_l1, good_l2}
use Rattle.qcow2_spec.specs.References.{l1_entries, l2_entries, references, most_figure, figures_of}
use Rattle.qcow2_spec.specs.Check.{table_good, entry_good, roots_verdict, shared_at}
use Rattle.qcow2_spec.specs.declared.Verdict.TheVariants.{Sound}
use Rattle.qcow2_spec.proofs.Facts.{Facts}
use Rattle.qcow2_spec.proofs.Single.{single_shared}
use Rattle.qcow2_spec.proofs.Verdicts.{figure_is}
use Rattle.qcow2_spec.proofs.Marks.{own_l2, own_row, own-marks}
use Rattle.qcow2_swept.proofs.Seeks.{seek_by-own}
use Rattle.qcow2_verdict.specs.Marks.{OwnMarks}
use Rattle.qcow2_check.proofs.Verdicts.{sound-all}
use Rattle.qcow2_bits.specs.Found.{AllOwn, SameFrom}
use Rattle.qcow2_windows.specs.Looks.{Looks}

-- what follows from one test of every element follows for all
all_more : (p q : ℕ → Bool) → ((e : ℕ) → p e ≡ true → q e ≡ true) → (es : List ℕ) → all p es ≡ true → all q es ≡ true
all_more p q f [] h = refl
all_more p q f (e ∷ es) h = let k = and-true (p e) (all p es) h in rw (f e k.0, all_more p q f es k.1) refl

module _ (s : List ℕ) where
  own_l2_lem : (e : ℕ) → own_l2 s e ≡ true → good_l2 (version s) (cluster_size s) (length s) e ≡ true
  own_l2_lem e h = (and-true (good_l2 (version s) (cluster_size s) (length s) e) (not (common e)) h).0

  own-row : (e : ℕ) → own_row s e ≡ true → entry_good s e ≡ true
  unfolding entry_good table_good
  own-row e h = rw b.0 (go (eqb (place e) 0) a.1)
    where
      G : Bool
      G = good_l1 (cluster_size s) (length s) e

      a : ((good_l1 (cluster_size s) (length s) e && not (common e)) ≡ true) × ((eqb (place e) 0 || all (own_l2 s) (l2_entries s (place e))) ≡ true)
      a = and-true (good_l1 (cluster_size s) (length s) e && not (common e)) (eqb (place e) 0 || all (own_l2 s) (l2_entries s (place e))) h

      b : (good_l1 (cluster_size s) (length s) e ≡ true) × (not (common e) ≡ true)
      b = and-true (good_l1 (cluster_size s) (length s) e) (not (common e)) a.0

      go : (z : Bool) → (z || all (own_l2 s) (l2_entries s (place e))) ≡ true → (z || all (good_l2 (version s) (cluster_size s) (length s)) (l2_entries s (place e))) ≡ true
      go true q = refl
      go false q = all_more (own_l2 s) (good_l2 (version s) (cluster_size s) (length s)) own_l2_lem (l2_entries s (place e)) q

  -- entries that have bit 63 beside their places are good
  pub own-good : AllOwn s → all (entry_good s) (l1_entries s 0) ≡ true
  own-good h = all_more (own_row s) (entry_good s) own-row (l1_entries s 0) (seek_by-own s 0 0 (l1_entries s 0) h)

  module _ (f : Facts s) (one : snapshots s ≡ 0) (none : clusters s ≤ first (shared_at s) 0 (clusters s)) where
    few : (k : ℕ) → k < clusters s → occurrences k (references s) ≤ 1
    few k l = ltb-false 1 (occurrences k (references s)) (sym (single_shared s one k) ∙ first_passed (shared_at s) 0 (clusters s) k (omega (arith, none)) zero-le (omega arith))

    -- figures that are the bits are the references
    same-figures : (scratch : List ℕ) → length scratch ≡ 2 * clusters s → SameFrom s scratch 0 (clusters s) → figures_of s ≡ figures_in scratch
    unfolding figures_of
    same-figures scratch w h =
        twos_are scratch (figures_of s) (many scratch)
        (length-figures most_figure (references s) 0 (clusters s) ∙ omega (arith, w))
        (λ i l. let k : i < clusters s = omega (arith, w, l) in omega (arith, figure_is s i k, h i zero-le k, few i k))

    pub own-right : (scratch : List ℕ) → length scratch ≡ 2 * clusters s → AllOwn s → SameFrom s scratch 0 (clusters s) → OwnMarks s (figures_in scratch)
    own-right scratch w o h = rw (same-figures scratch w h) at (own-marks s f one none Sound (seek_by-own s 0 0 (l1_entries s 0) o))

-- ---- what is answered
pub bits_looks : (s scratch : List ℕ) (n shared : ℕ) (own same right : Bool) → Facts s → snapshots s ≡ 0 → n ≡ clusters s → length scratch ≡ 2 * n → right ≡ (own && same)
    → shared ≡ first (shared_at s) 0 (clusters s) → (shared ≡ n → (own ≡ true → AllOwn s) × (same ≡ true → SameFrom s scratch 0 n))
    → Looks s scratch (record { shared = shared; good = own; right = right })
bits_looks s scratch n shared own same right f one e w r h k = record {
  shared = h;
  good = λ x o. own-good s ((k (x ∙ sym e)).0 o);
  right = λ x o.
      let a = and-true own same (sym r ∙ o) in
      let q = k (x ∙ sym e) in
      own-right s f one (omega (arith, h, x)) scratch (w ∙ ap (λ (m : ℕ). 2 * m) e) (q.0 a.0) (rw e at (q.1 a.1));
}

pub states_looks : (s scratch : List ℕ) (shared : ℕ) (good : Bool) → shared ≡ first (shared_at s) 0 (clusters s) → (good ≡ true → roots_verdict s 0 (roots s) Sound ≡ Sound)
    → Looks s scratch (record { shared = shared; good = good; right = false })
states_looks s scratch shared good h k = record { shared = h; good = λ x o. sound-all s (k o); right = λ x o. absurd (true≢false (sym o)) }
