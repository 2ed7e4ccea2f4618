-- Two old lengths between whose blocks every entry names its new block have the same plan. Assumes nothing.
use Prim.Native.Nat.{ℕ, zero, suc, ◌+◌, ◌-◌, ◌*◌, ◌/◌, ◌%◌, ◌^◌, ◌≤◌, ◌<◌}
use native.Mathlib.Nat.{div-add-mod', mul-le-mul_right, mul-le-mul, mul-mod_left, one-le-pow, zero-lt-suc, le_refl, le-div_iff_mul-le, zero-mul, add-zero, zero-add, suc-add}
use native.Mathlib.Decide.{dec_lt}
use native.Mathlib.Omega.{arith}
use mathlib.Core.Path.{◌≡◌, refl, sym, ap, ap₂, ◌∙◌}
use mathlib.Core.Bool.{Bool, true, false, not, ◌&&◌, ◌||◌}
use mathlib.Core.List.{List, [], ◌∷◌, ◌++◌, append_assoc}
use lib.Dec.{ltb, eqb}
use lib.ListN.{length, take, drop, take-append-drop}
use lib.Pow.{pow-add}
use borrow.Author.Tests.{eqb-true, eq-eqb, ltb-false, not-true, not-false}
use Rattle.choice.specs.Pick.{all, ceil_div}
use Rattle.choice.proofs.Tests.{and-true, or-false}
use Rattle.endian.specs.Big.{be32, be64, entries}
use Rattle.endian.proofs.Entries.{be64-drop, take-entries, drop-entries}
use Rattle.tally.specs.Tally.{run}
use Rattle.units.specs.Units.{UnitStore}
use Rattle.qcow2_spec.specs.Header.{least_length, cluster_size, clusters, count_order, width, per_block, blocks, table_at, table, block_at, good_block, header_number}
use Rattle.qcow2_spec.proofs.Facts.{Headed, headed, entries-all, counts_power, up_le, le_up}
use Rattle.qcow2_longer.specs.Extend.{bad_old, old_blocks, new_blocks, new_place, to_make, good_new, good_longer, longer_number, extend_number, make_block, make_blocks, extend_plan}
use Rattle.qcow2_longer.specs.Longer.{SamePlan}
use Rattle.qcow2_spec.proofs.Verdicts.{run-all}
use Rattle.qcow2_longer.proofs.Answers.{good_block_lem}

-- ---- lists that are joined
run_append : (i a b : ℕ) → run i (a + b) ≡ run i a ++ run (i + a) b
unfolding run
run_append i zero b = ap₂ run (sym (add-zero i)) (zero-add b)
run_append i (suc a) b =
    let e : suc i + a ≡ i + suc a = omega arith in
    ap (run i) (suc-add a b) ∙ ap (λ (l : List ℕ). i ∷ l) (run_append (suc i) a b ∙ ap (λ (x : ℕ). run (suc i) a ++ run x b) e)

all_append : (p : ℕ → Bool) (xs ys : List ℕ) → all p (xs ++ ys) ≡ (all p xs && all p ys)
all_append p [] ys = refl
all_append p (x ∷ xs) ys = go (p x) (all_append p xs ys)
  where
    go : (b : Bool) → all p (xs ++ ys) ≡ (all p xs && all p ys) → (b && all p (xs ++ ys)) ≡ ((b && all p xs) && all p ys)
    go true e = e
    go false e = refl

-- the entries up to c are those up to b and those after them
entries_split : (b c : ℕ) (t : List ℕ) → b ≤ c → entries c t ≡ entries b t ++ entries (c - b) (drop (8 * b) t)
entries_split b c t l = sym (take-append-drop b (entries c t)) ∙ ap₂ (λ (x y : List ℕ). x ++ y) (take-entries b c t l) (drop-entries b c t l)

makes_append : (s xs ys : List ℕ) → make_blocks s (xs ++ ys) ≡ make_blocks s xs ++ make_blocks s ys
unfolding make_blocks
makes_append s [] ys = refl
makes_append s (x ∷ xs) ys = ap (λ (us : List UnitStore). make_block s x ++ us) (makes_append s xs ys) ∙ sym (append_assoc (make_block s x) (make_blocks s xs) (make_blocks s ys))

makes_none : (s : List ℕ) (i k : ℕ) → ((x : ℕ) → i ≤ x → x < i + k → to_make s x ≡ false) → make_blocks s (run i k) ≡ []
unfolding run make_blocks make_block
makes_none s i zero h = refl
makes_none s i (suc k) h = rw (h i (le_refl i) (omega arith)) (makes_none s (suc i) k (λ x p q. h x (omega arith) (omega arith)))

-- ---- the header's numbers
module _ (s : List ℕ) (h : Headed s) where
  pub size_is : cluster_size s ≡ 512 * 2 ^ (be32 s 20 - 9)
  unfolding cluster_size
  size_is = let e : 9 + (be32 s 20 - 9) ≡ be32 s 20 = omega (arith, h.low) in ap (λ (x : ℕ). 2 ^ x) (sym e) ∙ pow-add 2 9 (be32 s 20 - 9)

  size-pos : 0 < cluster_size s
  size-pos = omega (arith, size_is, one-le-pow (be32 s 20 - 9) 2 (zero-lt-suc 1))

  per_pos : 0 < per_block s
  unfolding per_block width cluster_size
  per_pos = rw (counts_power (be32 s 20) (count_order s) (omega (arith, h.low, h.narrow))) (one-le-pow (be32 s 20 + 3 - count_order s) 2 (zero-lt-suc 1))

  whole_is : clusters s * cluster_size s ≡ length s
  unfolding clusters
  whole_is = omega (arith, div-add-mod' (length s) (cluster_size s), h.whole)

  -- a new place is one of the image's clusters, and not the first
  place-good : (i : ℕ) → 1 ≤ i → i < blocks s → good_block (cluster_size s) (length s) (new_place s i) ≡ true
  unfolding new_place blocks
  place-good i p q =
      good_block_lem (cluster_size s) (length s) (i * per_block s * cluster_size s) (λ z. omega (arith, z, mul-le-mul (mul-le-mul p per_pos) size-pos)) (mul-mod_left (i * per_block s) (cluster_size s)) sectors
      (omega (arith, mul-le-mul_right (cluster_size s) covers, whole_is))
    where
      sectors : i * per_block s * cluster_size s % 512 ≡ 0
      sectors =
          let D = 2 ^ (be32 s 20 - 9) in
          let e : i * per_block s * cluster_size s ≡ i * per_block s * D * 512 = ap (λ (x : ℕ). i * per_block s * x) size_is ∙ omega arith in
          rw e (mul-mod_left (i * per_block s * D) 512)

      covers : i * per_block s < clusters s
      covers = go (dec_lt (i * per_block s) (clusters s))
        where
          go : Dec (i * per_block s < clusters s) → i * per_block s < clusters s
          go (yes l) = l
          go (no l) = absurd (omega (arith, q, le_up (clusters s) (per_block s) i per_pos (omega arith)))

  -- an accepted old length has a block, and no more than there are
  module _ (old : ℕ) (b : bad_old s old ≡ false) where
    old_parts : (least_length ≤ old) × (old ≤ length s) × (old % cluster_size s ≡ 0)
    unfolding bad_old
    old_parts =
        let p = or-false (ltb old least_length || ltb (length s) old) _ b in
        let q = or-false (ltb old least_length) (ltb (length s) old) p.0 in
        (ltb-false _ _ q.0, ltb-false _ _ q.1, eqb-true _ _ (not-false _ p.1))

    old_most : old_blocks s old ≤ blocks s
    unfolding old_blocks blocks clusters
    old_most =
        let l : old / cluster_size s ≤ length s / cluster_size s = (le-div_iff_mul-le {k = cluster_size s} {x = old / cluster_size s} {y = length s} size-pos).1 (omega (arith, div-add-mod' old (cluster_size s), old_parts.1)) in
        le_up (old / cluster_size s) (per_block s) (ceil_div (length s / cluster_size s) (per_block s)) per_pos (omega (arith, l, up_le (length s / cluster_size s) (per_block s) per_pos))

    old_some : 1 ≤ old_blocks s old
    unfolding old_blocks
    old_some = go (ceil_div (old / cluster_size s) (per_block s)) refl
      where
        go : (k : ℕ) → ceil_div (old / cluster_size s) (per_block s) ≡ k → 1 ≤ ceil_div (old / cluster_size s) (per_block s)
        go (suc k) e = omega arith
        go zero e =
            let z : old / cluster_size s ≤ 0 = omega (arith, up_le (old / cluster_size s) (per_block s) per_pos, ap (λ (x : ℕ). x * per_block s) e, zero-mul (per_block s)) in
            let y : old / cluster_size s ≡ 0 = omega arith in
            absurd (omega (arith, div-add-mod' old (cluster_size s), ap (λ (x : ℕ). x * cluster_size s) y, zero-mul (cluster_size s), old_parts.0, old_parts.2))

module _ (s : List ℕ) (old later : ℕ) (h : Headed s) (p : bad_old s old ≡ false) (q : bad_old s later ≡ false) (l : old_blocks s old ≤ old_blocks s later)
    (named : (i : ℕ) → old_blocks s old ≤ i → i < old_blocks s later → block_at s i ≡ new_place s i) where
  abbrev b : ℕ
  b = old_blocks s old

  abbrev c : ℕ
  c = old_blocks s later

  abbrev good : ℕ → Bool
  good = good_block (cluster_size s) (length s)

  between_good : (i : ℕ) → b ≤ i → i < c → good (block_at s i) ≡ true
  between_good i x y = ap good (named i x y) ∙ place-good s h i (omega (arith, x, old_some s h old p)) (omega (arith, y, old_most s h later q))

  same_olds : all good (take c (table s)) ≡ all good (take b (table s))
  unfolding table block_at
  same_olds =
      ap (all good) (take-entries c _ (drop (table_at s) s) (omega (arith, old_most s h later q, h.enough)) ∙ entries_split b c (drop (table_at s) s) l)
      ∙ all_append good (entries b (drop (table_at s) s)) _
      ∙ ap (λ (x : Bool). all good (entries b (drop (table_at s) s)) && x) (entries-all good (c - b) (drop (8 * b) (drop (table_at s) s)) each)
      ∙ and_last (all good (entries b (drop (table_at s) s)))
      ∙ ap (all good) (sym (take-entries b _ (drop (table_at s) s) (omega (arith, l, old_most s h later q, h.enough))))
    where
      each : (i : ℕ) → i < c - b → good (be64 (drop (8 * b) (drop (table_at s) s)) (8 * i)) ≡ true
      each i m =
          let e : 8 * b + 8 * i ≡ 8 * (b + i) = omega arith in
          ap good (be64-drop (drop (table_at s) s) (8 * b) (8 * i) ∙ be64-drop s (table_at s) (8 * b + 8 * i) ∙ ap (λ (x : ℕ). be64 s (table_at s + x)) e) ∙ between_good (b + i) (omega arith) (omega arith)

      and_last : (x : Bool) → (x && true) ≡ x
      and_last true = refl
      and_last false = refl

  news_split : new_blocks s old ≡ run b (c - b) ++ new_blocks s later
  unfolding new_blocks
  news_split =
      let e : blocks s - b ≡ (c - b) + (blocks s - c) = omega (arith, l, old_most s h later q) in
      let d : b + (c - b) ≡ c = omega (arith, l) in
      ap (run b) e ∙ run_append b (c - b) (blocks s - c) ∙ ap (λ (x : ℕ). run b (c - b) ++ run x (blocks s - c)) d

  between_new : (i : ℕ) → b ≤ i → i < b + (c - b) → good_new s i ≡ true
  unfolding good_new
  between_new i x y = either (to_make s i) (eq-eqb (block_at s i) (new_place s i) (named i x (omega (arith, y, l))))
    where
      either : (x : Bool) {y : Bool} → y ≡ true → (x || y) ≡ true
      either true e = refl
      either false e = e

  same_news : all (good_new s) (new_blocks s old) ≡ all (good_new s) (new_blocks s later)
  same_news = rw (news_split, all_append (good_new s) (run b (c - b)) (new_blocks s later), run-all (good_new s) (c - b) b between_new) refl

  between_made : (i : ℕ) → b ≤ i → i < b + (c - b) → to_make s i ≡ false
  unfolding to_make good_block
  between_made i x y =
      let g = between_good i x (omega (arith, y, l)) in
      not-true (eqb (block_at s i) 0) (and-true (not (eqb (block_at s i) 0)) _ (and-true (not (eqb (block_at s i) 0) && eqb (block_at s i % cluster_size s) 0) _ (and-true (not (eqb (block_at s i) 0) && eqb (block_at s i % cluster_size s) 0 && eqb (block_at s i % 512) 0) _ g).0).0).0

  same_list : make_blocks s (new_blocks s old) ≡ make_blocks s (new_blocks s later)
  same_list = rw (news_split, makes_append s (run b (c - b)) (new_blocks s later), makes_none s b (c - b) between_made) refl

  same_number : longer_number s old ≡ longer_number s later
  unfolding longer_number good_longer
  same_number = rw (p, q, same_olds, same_news) refl

pub same_plan : SamePlan
unfolding extend_plan extend_number
same_plan s old later p q l named = go (header_number s) refl
  where
    go : (k : ℕ) → header_number s ≡ k → extend_plan s old ≡ extend_plan s later
    go (suc k) e = rw e refl
    go zero e = rw (e, same_number s old later (headed s e) p q l named, same_list s old later (headed s e) p q l named) refl
