-- Laws of a group of counts that is compared with the figures of its clusters in one pass.
-- Assumes nothing.
use Prim.Native.Nat.{ℕ, ◌+◌, ◌-◌, ◌*◌, ◌^◌, ◌≤◌, ◌<◌}
use mathlib.Core.Path.{◌≡◌, refl, sym, ap, ◌∙◌}
use mathlib.Core.Bool.{Bool, true, false, not}
use mathlib.Core.List.{List}
use native.Mathlib.Nat.{zero-add}
use native.Mathlib.Omega.{arith}
use borrow.Author.Tests.{lt-ltb, le-ltb, ltb-false, eqb-true, eqb-false}
use lib.Dec.{eqb, ltb}
use lib.ListN.{length, get_or, take, drop}
use Rattle.choice.specs.Pick.{count}
use Rattle.choice.proofs.Searches.{count_same}
use Rattle.choice.proofs.Found.{count-zero}
use Rattle.endian.specs.Big.{be16}
use Rattle.widths.proofs.Cells.{number-part, inside-first}
use Rattle.packed.specs.Packed.{packed, unlike_at, under_at}
use Rattle.packed_twos.specs.Twos.{many, figures_in}
use Rattle.packed_twos.proofs.Laws.{length-twos, get_or-twos}
use Rattle.tally.specs.declared.Counted.{Counted}
use Rattle.tally.specs.Tally.{counted}
use Rattle.tally.proofs.Counting.{counting_next, counting_part}
use Rattle.qcow2_spec.specs.Counts.{count_of}
use Rattle.qcow2_spec.specs.Check.{short, over}
use Rattle.qcow2_counts.specs.Blocks.{Packed}
use Rattle.qcow2_figures.specs.Known.{Judging, Judged}

-- a scratch has a figure for each two bytes
pub length-figures : (f : List ℕ) → length (figures_in f) ≡ many f
length-figures f = length-twos f (many f)

-- all are judged, or one of them is short
pub judged-all : (s f : List ℕ) {k : ℕ} {c : Counted} → Judging s f k c → Judged s f k c
judged-all s f {k} {c} d = record { none = λ h. d; found = λ h. rw (lt-ltb c.low (length f) h) at d.lowest }

-- and then the others do not matter
pub judged-on : {s f : List ℕ} {k : ℕ} {c : Counted} → Judged s f k c → c.low < length f → (n : ℕ) → Judged s f n c
judged-on d h n = record { none = λ l. absurd (omega arith); found = d.found }

-- once the count of a cluster more is looked at, x against the figure y
pub judging_next : (s f : List ℕ) (k x y : ℕ) (c r : Counted) → k < many f → Judging s (figures_in f) k c → count_of s k ≡ x → y ≡ be16 f (2 * k)
    → r ≡ counted (many f) k x y c → Judging s (figures_in f) (k + 1) r
unfolding short over
judging_next s f k x y c r h d e g w =
    let l : length (figures_in f) ≡ many f = length-figures f in
    let v : get_or (figures_in f) k 0 ≡ y = get_or-twos f (many f) k h ∙ sym g in
    let u : r ≡ counted (length (figures_in f)) k x y c = w ∙ ap (λ (n : ℕ). counted n k x y c) (sym l) in
    rw u (counting_next (short s (figures_in f)) (over s (figures_in f)) (length (figures_in f)) k x y c (omega arith) d (rw (e, v)) (rw (e, v)))

differ : (x y : ℕ) → y ≤ x → not (eqb x y) ≡ ltb y x
differ x y h = go (eqb x y) refl
  where
    go : (t : Bool) → eqb x y ≡ t → not t ≡ ltb y x
    go true e = sym (le-ltb y x (omega (arith, eqb-true x y e)))
    go false e = let n : x ≡ y → ⊥ = eqb-false x y e in sym (lt-ltb y x (omega arith))

-- the counts in B and the figures F of the m clusters from base on, as parts of the image and of its clusters' figures
module _ (o : ℕ) (s f B F : List ℕ) (at base m C : ℕ) (b : Packed o s base m (8 * at)) (room : 2 ^ o * m ≤ 8 * C) (h_b : B ≡ take C (drop at s)) (h_f : (j : ℕ) → j < m → get_or F j 0 ≡ get_or f (base + j) 0) where
  stored_at : (j : ℕ) → j < m → packed o B j ≡ count_of s (base + j)
  unfolding packed
  stored_at j h = rw h_b (number-part o C s at (2 ^ o * j) (inside-first o C m j b.narrow room h)) ∙ sym (b.stands j h)

  module _ (z : count (under_at o B F) 0 m ≡ 0) where
    enough : (j : ℕ) → j < m → get_or f (base + j) 0 ≤ count_of s (base + j)
    unfolding under_at
    enough j h =
        let v : get_or F j 0 ≤ packed o B j = ltb-false _ _ (count-zero (under_at o B F) 0 m z j (omega arith) (omega arith)) in
        omega (arith, v, stored_at j h, h_f j h)

    none-short : (k : ℕ) → base ≤ k → k < base + m → short s f k ≡ false
    unfolding short
    none-short k l h =
        let e : base + (k - base) ≡ k = omega arith in
        le-ltb (count_of s k) (get_or f k 0) (rw e at (enough (k - base) (omega arith)))

    over_unlike : count (unlike_at o B F) 0 m ≡ count (over s f) base m
    unfolding unlike_at over
    over_unlike = count_same (unlike_at o B F) (over s f) 0 base m (λ j h. rw (zero-add, stored_at j h, h_f j h) (differ _ _ (enough j h)))

  -- so the group is judged by how many counts differ
  pub judging_whole : (c : Counted) (x y : ℕ) → base + m ≤ length f → Judging s f base c → x ≡ count (unlike_at o B F) 0 m → y ≡ count (under_at o B F) 0 m → y ≡ 0
      → Judging s f (base + m) (record { low = c.low; over = c.over + x })
  judging_whole c x y h d e g z =
      let u : count (under_at o B F) 0 m ≡ 0 = sym g ∙ z in
      counting_part (short s f) (over s f) (length f) base m x c h d (none-short u) (e ∙ over_unlike u)
