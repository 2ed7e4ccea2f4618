-- What a window of bits tells once clusters are visited: bit j is set where cluster b + j was reached, and the lowest that was reached twice is kept.
-- Assumes nothing.
use Rattle.std.specs.Prelude.{if◌then◌else◌}
use Prim.Native.Nat.{ℕ, zero, suc, ◌+◌, ◌-◌, ◌*◌, ◌/◌, ◌%◌, ◌^◌, ◌≤◌, ◌<◌, min}
use native.Mathlib.Nat.{add-zero, zero-add, le_refl, div-eq_of_lt}
use native.Mathlib.Decide.{ℕ_discrete, dec_lt}
use native.Mathlib.Omega.{arith}
use mathlib.Core.Path.{◌≡◌, refl, sym, ap, ◌∙◌, subst}
use mathlib.Core.Logic.{◌≢◌, ◌⊎◌, inl, inr}
use mathlib.Core.Bool.{Bool, true, false, not}
use mathlib.Core.List.{List, [], ◌∷◌}
use lib.Dec.{ltb, eqb}
use lib.ListN.{length, get_or, take, drop, replicate, length-replicate, take-append-drop}
use borrow.Author.Tests.{eq-eqb, ne_eqb}
use Rattle.widths.specs.Width.{field, span, number, stored}
use Rattle.widths.proofs.Fields.{two_pos}
use Rattle.widths.proofs.Whole.{number-narrow}
use Rattle.widths.proofs.Cells.{Within, even_order, length-stored, number_new, number-other}
use Rattle.tally.specs.Tally.{joined, occurrences}
use Rattle.tally.specs.States.{visited}
use Rattle.tally.proofs.States.{length-visited}
use Rattle.window.specs.Window.{Board, board, bit_kind, bit_visited, number_visited, visited_in, visit_all_in, entry_visited_in, tree_visited_in, Lowest}
use Rattle.window.proofs.Steps.{bit-outside, bit-again, bit-first, visit_before, visit_bits, visit_all_in_append}

-- ---- lengths, whatever the kind
bit_visited-length : (j c : ℕ) (w : Board) → length (bit_visited j c w).bytes ≡ length w.bytes
unfolding bit_visited
bit_visited-length j c w = go (ltb (j / 8) (length w.bytes)) (eqb (number 1 w.bytes j) 1)
  where
    go : (s t : Bool) → length (if not s then w else if t then board w.bytes (min w.low c) else board (stored 1 w.bytes j 1) w.low).bytes ≡ length w.bytes
    go false t = refl
    go true true = refl
    go true false = length-stored 1 w.bytes j 1

number_visited-length : (kind j : ℕ) (w : Board) → length (number_visited kind j w).bytes ≡ length w.bytes
unfolding number_visited
number_visited-length kind j w = go (ltb j (length w.bytes / 2))
  where
    go : (t : Bool) → length (if not t then w else board (visited kind w.bytes j) w.low).bytes ≡ length w.bytes
    go false = refl
    go true = length-visited kind w.bytes j

pub visited_in-length : (kind b c : ℕ) (w : Board) → length (visited_in kind b c w).bytes ≡ length w.bytes
unfolding visited_in
visited_in-length kind b c w = go (ltb c b) (eqb kind bit_kind)
  where
    go : (s t : Bool) → length (if s then w else if t then bit_visited (c - b) c w else number_visited kind (c - b) w).bytes ≡ length w.bytes
    go true t = refl
    go false true = bit_visited-length (c - b) c w
    go false false = number_visited-length kind (c - b) w

pub visit_all_in-length : (kind b : ℕ) (cs : List ℕ) (w : Board) → length (visit_all_in kind b cs w).bytes ≡ length w.bytes
unfolding visit_all_in
visit_all_in-length kind b [] w = refl
visit_all_in-length kind b (c ∷ cs) w = visit_all_in-length kind b cs (visited_in kind b c w) ∙ visited_in-length kind b c w

pub entry_visited_in-length : (table leaf b : ℕ) (refs : List ℕ) (w : Board) → length (entry_visited_in table leaf b refs w).bytes ≡ length w.bytes
unfolding entry_visited_in
entry_visited_in-length table leaf b refs w =
    visit_all_in-length leaf b (drop 1 refs) (visit_all_in table b (take 1 refs) w) ∙ visit_all_in-length table b (take 1 refs) w

pub tree_visited_in-length : (f : ℕ → List ℕ) (table leaf b : ℕ) (es : List ℕ) (w : Board) → length (tree_visited_in f table leaf b es w).bytes ≡ length w.bytes
unfolding tree_visited_in
tree_visited_in-length f table leaf b [] w = refl
tree_visited_in-length f table leaf b (e ∷ es) w =
    tree_visited_in-length f table leaf b es (entry_visited_in table leaf b (f e) w) ∙ entry_visited_in-length table leaf b (f e) w

-- ---- bits ask for no roles: an entry's and a tree's clusters are visited as one list
pub entry_visited_in_bits : (b : ℕ) (refs : List ℕ) (w : Board) → entry_visited_in bit_kind bit_kind b refs w ≡ visit_all_in bit_kind b refs w
unfolding entry_visited_in
entry_visited_in_bits b refs w =
    sym (visit_all_in_append bit_kind b (take 1 refs) (drop 1 refs) w) ∙ ap (λ (l : List ℕ). visit_all_in bit_kind b l w) (take-append-drop 1 refs)

pub tree_visited_in_bits : (f : ℕ → List ℕ) (b : ℕ) (es : List ℕ) (w : Board) → tree_visited_in f bit_kind bit_kind b es w ≡ visit_all_in bit_kind b (joined f es) w
unfolding tree_visited_in visit_all_in
tree_visited_in_bits f b [] w = refl
tree_visited_in_bits f b (e ∷ es) w =
    tree_visited_in_bits f b es (entry_visited_in bit_kind bit_kind b (f e) w) ∙ ap (visit_all_in bit_kind b (joined f es)) (entry_visited_in_bits b (f e) w)
    ∙ sym (visit_all_in_append bit_kind b (f e) (joined f es) w)

-- ---- one bit
within : (j : ℕ) → Within 1 j
unfolding span
within j = omega arith

inside : (l : List ℕ) (j : ℕ) → j < 8 * length l → j / 8 + span 1 ≤ length l
unfolding span
inside l j h = omega arith

module _ (l : List ℕ) (j : ℕ) (room : j < 8 * length l) where
  bit_new : number 1 (stored 1 l j 1) j ≡ 1
  bit_new = number_new 1 l j 1 (within j) (inside l j room)

  bit-other : (i : ℕ) → i < 8 * length l → i ≢ j → number 1 (stored 1 l j 1) i ≡ number 1 l i
  bit-other i h ne = number-other 1 l j 1 (within j) (inside l j room) (even_order 0 (omega arith)) i (within i) (inside l i h) (apart (dec_lt i j))
    where
      apart : Dec (i < j) → (j + 1 ≤ i) ⊎ (i + 1 ≤ j)
      apart (yes g) = inr (omega arith)
      apart (no g) = inl (omega (arith, ne))

bit-zero : (m j : ℕ) → number 1 (replicate m 0) j ≡ 0
unfolding field
bit-zero m j = number-narrow 0 (omega arith) (replicate m 0) j ∙ ap (λ (x : ℕ). x / 2 ^ (j % 8) % 2) (cleared m (j / 8)) ∙ ap (λ (x : ℕ). x % 2) (div-eq_of_lt (two_pos (j % 8)))
  where
    cleared : (m i : ℕ) → ◌≡◌ {A = ℕ} (get_or (replicate m 0) i 0) 0
    cleared zero i = refl
    cleared (suc m) zero = refl
    cleared (suc m) (suc i) = cleared m i

-- ---- what a window of m bytes tells where cluster k was reached o k times
record Marked (b m none : ℕ) (o : ℕ → ℕ) (w : Board) : Type 0 where
  long : length w.bytes ≡ m
  bits : (j : ℕ) → j < 8 * m → number 1 w.bytes j ≡ min 1 (o (b + j))
  most : w.low ≤ none
  twice : w.low < none → (b ≤ w.low) × (w.low < b + 8 * m) × (2 ≤ o w.low)
  least : (k : ℕ) → b ≤ k → k < b + 8 * m → 2 ≤ o k → w.low ≤ k

module _ (b m none : ℕ) where
  -- only the clusters of the window matter
  marked-same : {o p : ℕ → ℕ} {w : Board} → ((k : ℕ) → b ≤ k → k < b + 8 * m → p k ≡ o k) → Marked b m none o w → Marked b m none p w
  marked-same {o} {p} {w} e r = record {
    long = r.long;
    bits = λ j h. r.bits j h ∙ ap (λ (x : ℕ). min 1 x) (sym (e (b + j) (omega arith) (omega arith)));
    most = r.most;
    twice = λ h. let t = r.twice h in (t.0, t.1, omega (arith, e w.low t.0 t.1, t.2));
    least = λ k h g t. r.least k h g (omega (arith, e k h g));
  }

  -- cluster c is reached once more
  module _ {o p : ℕ → ℕ} (c : ℕ) (here : p c ≡ suc (o c)) (there : (k : ℕ) → k ≢ c → p k ≡ o k) where
    grown : (k : ℕ) → o k ≤ p k
    grown k = go (ℕ_discrete k c)
      where
        go : Dec (k ≡ c) → o k ≤ p k
        go (yes e) = rw e (omega (arith, here))
        go (no ne) = omega (arith, there k ne)

    -- its bit stands
    marked-again : (s : List ℕ) (low : ℕ) → b ≤ c → c < b + 8 * m → 1 ≤ o c → Marked b m none o (board s low) → Marked b m none p (board s (min low c))
    marked-again s low h g one r = record {
      long = r.long;
      bits = λ j l. r.bits j l ∙ bit j (ℕ_discrete (b + j) c);
      most = omega (arith, r.most);
      twice = λ l. first l (dec_lt c low);
      least = λ k a d t. lowest k a d t (ℕ_discrete k c);
    }
      where
        bit : (j : ℕ) → Dec (b + j ≡ c) → min 1 (o (b + j)) ≡ min 1 (p (b + j))
        bit j (yes e) = rw e (omega (arith, here))
        bit j (no ne) = ap (λ (x : ℕ). min 1 x) (sym (there (b + j) ne))

        first : min low c < none → Dec (c < low) → (b ≤ min low c) × (min low c < b + 8 * m) × (2 ≤ p (min low c))
        first l (yes a) = let e : min low c ≡ c = omega arith in rw e (h, g, omega (arith, here))
        first l (no a) =
            let e : min low c ≡ low = omega arith in
            let t = r.twice (rw e at l) in
            rw e (t.0, t.1, omega (arith, t.2, grown low))

        lowest : (k : ℕ) → b ≤ k → k < b + 8 * m → 2 ≤ p k → Dec (k ≡ c) → min low c ≤ k
        lowest k a d t (yes e) = omega arith
        lowest k a d t (no ne) = omega (arith, r.least k a d (omega (arith, there k ne)))

    -- it is set now
    marked-first : (s : List ℕ) (low j : ℕ) → j < 8 * m → b + j ≡ c → o c ≡ 0 → Marked b m none o (board s low) → Marked b m none p (board (stored 1 s j 1) low)
    marked-first s low j h e none_yet r = record {
      long = length-stored 1 s j 1 ∙ r.long;
      bits = λ i l. bit i l (ℕ_discrete i j);
      most = r.most;
      twice = λ l. let t = r.twice l in (t.0, t.1, omega (arith, t.2, grown low));
      least = λ k a d t. lowest k a d t (ℕ_discrete k c);
    }
      where
        room : {i : ℕ} → i < 8 * m → i < 8 * length s
        room {i} l = omega (arith, r.long)

        bit : (i : ℕ) → i < 8 * m → Dec (i ≡ j) → number 1 (stored 1 s j 1) i ≡ min 1 (p (b + i))
        bit i l (yes q) = rw (q, e, here, none_yet) (bit_new s j (room h))
        bit i l (no ne) = bit-other s j (room h) i (room l) ne ∙ r.bits i l ∙ ap (λ (x : ℕ). min 1 x) (sym (there (b + i) (λ q. ne (omega arith))))

        lowest : (k : ℕ) → b ≤ k → k < b + 8 * m → 2 ≤ p k → Dec (k ≡ c) → low ≤ k
        lowest k a d t (yes q) = absurd (omega (arith, here, none_yet, rw q at t))
        lowest k a d t (no ne) = r.least k a d (omega (arith, there k ne))

    marked_step : (w : Board) → Marked b m none o w → Marked b m none p (visited_in bit_kind b c w)
    marked_step w r = go (dec_lt c b)
      where
        at : (j : ℕ) → b + j ≡ c → Dec (j < 8 * m) → Marked b m none p (bit_visited j c w)
        at j e (no h) = subst (λ (v : Board). Marked b m none p v) (bit-outside w.bytes w.low j c (omega (arith, r.long))) (marked-same (λ k a d. there k (λ q. h (omega arith))) r)
        at j e (yes h) = set (ℕ_discrete (number 1 w.bytes j) 1)
          where
            stands : number 1 w.bytes j ≡ min 1 (o c)
            stands = r.bits j h ∙ ap (λ (x : ℕ). min 1 (o x)) e

            set : Dec (number 1 w.bytes j ≡ 1) → Marked b m none p (bit_visited j c w)
            set (yes q) =
                subst (λ (v : Board). Marked b m none p v) (bit-again w.bytes w.low j c _ _ (omega (arith, r.long)) refl q refl)
                (marked-again w.bytes w.low (omega arith) (omega arith) (omega (arith, stands)) r)
            set (no q) =
                subst (λ (v : Board). Marked b m none p v) (bit-first w.bytes w.low j c _ _ (omega (arith, r.long)) refl q refl)
                (marked-first w.bytes w.low j h e (omega (arith, stands)) r)

        go : Dec (c < b) → Marked b m none p (visited_in bit_kind b c w)
        go (yes h) = subst (λ (v : Board). Marked b m none p v) (visit_before bit_kind b c w h) (marked-same (λ k a d. there k (λ q. omega arith)) r)
        go (no h) = subst (λ (v : Board). Marked b m none p v) (visit_bits bit_kind b c w (omega arith) refl) (at (c - b) (omega arith) (dec_lt (c - b) (8 * m)))

  marked_all : (cs : List ℕ) (o : ℕ → ℕ) (w : Board) → Marked b m none o w → Marked b m none (λ k. occurrences k cs + o k) (visit_all_in bit_kind b cs w)
  unfolding visit_all_in occurrences
  marked_all [] o w r = marked-same (λ k a d. zero-add (o k)) r
  marked_all (c ∷ cs) o w r =
      marked-same (λ k a d. order k) (marked_all cs (λ k. (if eqb c k then 1 else 0) + o k) (visited_in bit_kind b c w) (marked_step c here there w r))
    where
      order : (k : ℕ) → (if eqb c k then 1 else 0) + occurrences k cs + o k ≡ occurrences k cs + ((if eqb c k then 1 else 0) + o k)
      order k = omega arith

      here : (if eqb c c then 1 else 0) + o c ≡ suc (o c)
      here = rw (eq-eqb c c refl) (omega arith)

      there : (k : ℕ) → k ≢ c → (if eqb c k then 1 else 0) + o k ≡ o k
      there k ne = rw (ne_eqb c k (λ e. ne (sym e))) (zero-add (o k))

-- ---- a cleared window of m bytes, once the clusters of a list are visited
module _ (b m none : ℕ) (cs : List ℕ) where
  marked : Marked b m none (λ k. occurrences k cs + 0) (visit_all_in bit_kind b cs (board (replicate m 0) none))
  marked = marked_all b m none cs (λ k. 0) (board (replicate m 0) none) (record {
    long = length-replicate m 0;
    bits = λ j h. bit-zero m j;
    most = le_refl none;
    twice = λ h. absurd (omega arith);
    least = λ k a d t. absurd (omega arith);
  })

  pub bits_length : length (visit_all_in bit_kind b cs (board (replicate m 0) none)).bytes ≡ m
  bits_length = marked.long

  pub bits_set : (j : ℕ) → j < 8 * m → number 1 (visit_all_in bit_kind b cs (board (replicate m 0) none)).bytes j ≡ min 1 (occurrences (b + j) cs)
  bits_set j h = marked.bits j h ∙ ap (λ (x : ℕ). min 1 x) (add-zero (occurrences (b + j) cs))

  pub bits_low : Lowest b m none cs (visit_all_in bit_kind b cs (board (replicate m 0) none)).low
  bits_low = record {
    most = marked.most;
    twice = λ h. let t = marked.twice h in (t.0, t.1, rw add-zero at t.2);
    least = λ k a d t. marked.least k a d (rw add-zero t);
  }
