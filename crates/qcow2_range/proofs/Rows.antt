-- The number of ways that are taken one L2 table at a time.
-- Assumes nothing.
use Rattle.std.specs.Prelude.{Err, Ok, Result}
use Prim.Native.Nat.{ℕ, zero, suc, ◌+◌, ◌-◌, ◌*◌, ◌%◌, ◌^◌, ◌≤◌, ◌<◌}
use native.Mathlib.Nat.{add-zero}
use native.Mathlib.Omega.{arith}
use mathlib.Core.Path.{◌≡◌, refl, sym, ap, ◌∙◌}
use mathlib.Core.Bool.{true, false, not}
use mathlib.Core.List.{List}
use lib.ListN.{length, drop, length-drop}
use lib.Seq.{length-take-le}
use Rattle.choice.specs.Pick.{unless}
use Rattle.choice.proofs.Tests.{if_elim}
use Rattle.endian.specs.Big.{part}
use Rattle.qcow2_spec.specs.Header.{most_bits, most_length, cluster_size, per_table}
use Rattle.qcow2_spec.specs.Entries.{place, good_place, good_l1, good_l2, compressed, zero_mark}
use Rattle.qcow2_spec.specs.Guest.{l1_entry_at, l1_entry, entry_way, way, way_number, ways_number}
use Rattle.qcow2_spec.specs.Opened.{Opened}
use Rattle.qcow2_spec.specs.declared.Geometry.{Geometry}
use Rattle.qcow2_spec.specs.declared.Way.{Way}
use Rattle.qcow2_spec.specs.declared.Way.TheVariants.{NoTable, Slot}
use Rattle.qcow2_spec.proofs.Facts.{facts, c_in}
use Rattle.qcow2_plain.specs.Plain.{plain}
use Rattle.qcow2_plain.proofs.Plain.{plain-way}
use Rattle.qcow2_spec.specs.Causes.{answer}
use Rattle.qcow2_spec.proofs.Answered.{answer_some}
use Rattle.qcow2_range.specs.Slots.{slot, numbers}
use Rattle.qcow2_guest.proofs.Pieces.{same-cluster, same_rest}
use Rattle.qcow2_guest.proofs.Steps.{table-entry, way-bad, way-none, way-some}

-- ---- entries that are good in every version
pub easy_zero : (v C n at e : ℕ) → e ≡ 0 → way_number (entry_way v C n at e) ≡ 0
unfolding way_number entry_way good_l2 good_place place compressed zero_mark
easy_zero v C n at e z = rw z

pub easy_plain : (v b n at e : ℕ) → 9 ≤ b → n ≤ most_length → plain (2 ^ b) n e ≡ true → way_number (entry_way v (2 ^ b) n at e) ≡ 0
unfolding way_number
easy_plain v b n at e l h p = ap way_number (plain-way b n e l h p v at)

-- a good way has no number, and none that is refused has 0
pub good : (w : Result Way ℕ) (v : Way) → w ≡ Ok v → way_number w ≡ 0
unfolding way_number
good (Ok NoTable) v e = refl
good (Ok (Slot a y)) v e = refl
good (Err k) v e = cc

pub refuses : (v C n at e k : ℕ) → entry_way v C n at e ≡ Err k → k ≡ 0 → ⊥
unfolding entry_way
refuses v C n at e k =
    if_elim P (compressed e) _ _ (λ c y z. let w : k ≡ 13 = cc in omega arith)
    (λ c. if_elim P (not (good_l2 v C n e)) _ _ (λ d y z. let w : k ≡ 12 = cc in omega arith) (λ d y z. cc))
  where
    P : Result Way ℕ → Type 0
    P w = w ≡ Err k → k ≡ 0 → ⊥

-- ---- the first m of k ways
module _ (f : ℕ → Result Way ℕ) where
  -- one way
  pub one : (i : ℕ) → numbers f i 1 ≡ way_number (f i)
  unfolding numbers
  one i = go (way_number (f i))
    where
      go : (n : ℕ) → unless n (λ k. k) 0 ≡ n
      go zero = refl
      go (suc n) = refl

  parts : (i a b : ℕ) → numbers f i (a + b) ≡ unless (numbers f i a) (λ n. n) (numbers f (i + a) b)
  unfolding numbers
  parts i zero b = let e : zero + b ≡ b = omega arith in rw (e, add-zero)
  parts i (suc a) b =
      let e : suc a + b ≡ suc (a + b) = omega arith in
      let d : suc i + a ≡ i + suc a = omega arith in
      rw (e, parts (suc i) a b, d) (nested (way_number (f i)) (numbers f (suc i) a) _)
    where
      nested : (x y z : ℕ) → unless x (λ n. n) (unless y (λ n. n) z) ≡ unless (unless x (λ n. n) y) (λ n. n) z
      nested zero y z = refl
      nested (suc x) y z = refl

  module _ (i k m : ℕ) (h : m ≤ k) where
    joined : numbers f i k ≡ unless (numbers f i m) (λ n. n) (numbers f (i + m) (k - m))
    joined = let e : k ≡ m + (k - m) = omega arith in ap (numbers f i) e ∙ parts i m (k - m)

    pub numbers_stop : (numbers f i m ≡ 0 → ⊥) → numbers f i k ≡ numbers f i m
    numbers_stop n = joined ∙ nonzero (numbers f i m) n
      where
        nonzero : (x : ℕ) → (x ≡ 0 → ⊥) → unless x (λ n. n) (numbers f (i + m) (k - m)) ≡ x
        nonzero zero g = absurd (g refl)
        nonzero (suc x) g = refl

    pub numbers-next : numbers f i m ≡ 0 → numbers f i k ≡ numbers f (i + m) (k - m)
    numbers-next z = joined ∙ rw z

  -- the way at i, of those to an end
  module _ (i end : ℕ) where
    pub halt : i < end → (way_number (f i) ≡ 0 → ⊥) → numbers f i (end - i) ≡ way_number (f i)
    halt h n = numbers_stop i (end - i) 1 (omega arith) (λ z. n (sym (one i) ∙ z)) ∙ one i

    pub stop : (k : ℕ) → i < end → f i ≡ Err k → (k ≡ 0 → ⊥) → Err k ≡ answer (numbers f i (end - i))
    unfolding way_number
    stop k h e n =
        let v : way_number (f i) ≡ k = ap way_number e in
        answer_some k n ∙ ap answer (sym (halt h (λ z. n (sym v ∙ z)) ∙ v))

    pub turn : i < end → way_number (f i) ≡ 0 → numbers f i (end - i) ≡ numbers f (i + 1) (end - (i + 1))
    turn h z = let e : end - i - 1 ≡ end - (i + 1) = omega arith in numbers-next i (end - i) 1 (omega arith) (one i ∙ z) ∙ ap (numbers f (i + 1)) e

    pub over : end ≤ i → numbers f i (end - i) ≡ 0
    unfolding numbers
    over h = let e : end - i ≡ 0 = omega arith in rw e

-- ---- the same ways
pub same_numbers : (f h : ℕ → Result Way ℕ) (a b k : ℕ) → ((j : ℕ) → j < k → f (a + j) ≡ h (b + j)) → numbers f a k ≡ numbers h b k
unfolding numbers
same_numbers f h a b zero e = refl
same_numbers f h a b (suc k) e =
    let z : f a ≡ h b = rw (add-zero, add-zero) at (e 0 (omega arith)) in
    rw (z, same_numbers f h (suc a) (suc b) k (λ j l. later j l))
  where
    later : (j : ℕ) → j < k → f (suc a + j) ≡ h (suc b + j)
    later j l =
        let x : suc a + j ≡ a + suc j = omega arith in
        let y : suc b + j ≡ b + suc j = omega arith in
        rw (x, y) (e (suc j) (omega arith))

no_numbers : (f : ℕ → Result Way ℕ) (i k : ℕ) → ((j : ℕ) → j < k → f (i + j) ≡ Ok NoTable) → numbers f i k ≡ 0
unfolding numbers way_number
no_numbers f i k e = same_numbers f (λ x. Ok NoTable) i 0 k e ∙ none 0 k
  where
    none : (a n : ℕ) → numbers (λ x. Ok NoTable) a n ≡ 0
    none a zero = refl
    none a (suc n) = none (suc a) n

pub ways_are : (s : List ℕ) (r guest k : ℕ) → ways_number s r guest k ≡ numbers (way s r) guest k
unfolding ways_number numbers
ways_are s r guest zero = refl
ways_are s r guest (suc k) = rw (ways_are s r (suc guest) k)

-- the ways to k guest clusters, i of which are passed and m are the next
module _ (s : List ℕ) (r guest k i : ℕ) where
  module _ (m : ℕ) (h : m ≤ k - i) where
    pub ways_stop : (ways_number s r (guest + i) m ≡ 0 → ⊥) → ways_number s r (guest + i) (k - i) ≡ ways_number s r (guest + i) m
    ways_stop n = ways_are s r (guest + i) (k - i) ∙ numbers_stop (way s r) (guest + i) (k - i) m h (λ z. n (ways_are s r (guest + i) m ∙ z)) ∙ sym (ways_are s r (guest + i) m)

    pub ways_next : ways_number s r (guest + i) m ≡ 0 → ways_number s r (guest + i) (k - i) ≡ ways_number s r (guest + (i + m)) (k - (i + m))
    ways_next z =
        let d : guest + i + m ≡ guest + (i + m) = omega arith in
        let e : k - i - m ≡ k - (i + m) = omega arith in
        ways_are s r (guest + i) (k - i) ∙ numbers-next (way s r) (guest + i) (k - i) m h (sym (ways_are s r (guest + i) m) ∙ z) ∙ rw (d, e) (sym (ways_are s r (guest + (i + m)) (k - (i + m))))

  pub ways_end : k ≤ i → ways_number s r (guest + i) (k - i) ≡ 0
  unfolding ways_number
  ways_end h = let e : k - i ≡ 0 = omega arith in rw e

-- ---- k guest clusters with one L1 entry e
module _ (g : Geometry) (s : List ℕ) (o : Opened g s) (guest k : ℕ) (l : guest % per_table s + k ≤ per_table s) (e : ℕ) (q : e ≡ l1_entry s g.root guest) where
  row : (j : ℕ) → j < k → e ≡ l1_entry s g.root (guest + j)
  unfolding l1_entry l1_entry_at
  row j h = q ∙ rw (same-cluster (per_table s) guest j (omega arith))

  -- what is asked of the entries of the L2 table at t, as a part of the image
  pub table-asks : (t i : ℕ) → t + cluster_size s ≤ length s → i ≡ guest % 2 ^ (g.bits - 3)
      → (((9 ≤ g.bits) × (g.bits ≤ most_bits)) × ((2 ^ g.bits ≤ length s) × (length s ≤ most_length)))
      × (((i ≤ i + k) × (8 * (i + k) ≤ length (part s t (2 ^ g.bits)))) × (t + length (part s t (2 ^ g.bits)) ≤ most_length))
  table-asks t i h d =
      let f = facts s o.accepted in
      let n : length (part s t (2 ^ g.bits)) ≡ 2 ^ g.bits = length-take-le (2 ^ g.bits) (drop t s) (simp length-drop (omega (arith, o.is-cluster))) in
      let j : i ≡ guest % per_table s = rw o.is-per at d in
      rw n (((o.low, o.high), (rw o.is-cluster (c_in s f), o.short)), ((omega arith, omega (arith, o.is-cluster, o.eight, j, l)), omega (arith, o.is-cluster, o.short)))

  pub row-bad : good_l1 (2 ^ g.bits) (length s) e ≡ false → 0 < k → 12 ≡ ways_number s g.root guest k
  unfolding way_number
  row-bad h p =
      let v : numbers (way s g.root) guest 1 ≡ 12 = one (way s g.root) guest ∙ ap way_number (sym (way-bad g s o guest e q h)) in
      sym (ways_are s g.root guest k ∙ numbers_stop (way s g.root) guest k 1 p (λ z. omega (arith, v, z)) ∙ v)

  module _ (h : good_l1 (2 ^ g.bits) (length s) e ≡ true) where
    pub row-none : place e ≡ 0 → 0 ≡ ways_number s g.root guest k
    row-none z = sym (ways_are s g.root guest k ∙ no_numbers (way s g.root) guest k (λ j b. sym (way-none g s o (guest + j) e (row j b) h z)))

    pub row-some : (place e ≡ 0 → ⊥)
        → numbers (slot g.version (2 ^ g.bits) (length s) (place e) (part s (place e) (2 ^ g.bits))) (guest % 2 ^ (g.bits - 3)) k ≡ ways_number s g.root guest k
    unfolding slot
    row-some z = sym (ways_are s g.root guest k ∙ same_numbers (way s g.root) _ guest (guest % 2 ^ (g.bits - 3)) k (λ j b. step j b))
      where
        step : (j : ℕ) → j < k → way s g.root (guest + j) ≡ slot g.version (2 ^ g.bits) (length s) (place e) (part s (place e) (2 ^ g.bits)) (guest % 2 ^ (g.bits - 3) + j)
        step j b =
            let i : guest % 2 ^ (g.bits - 3) + j ≡ (guest + j) % 2 ^ (g.bits - 3) = rw o.is-per (sym (same_rest (per_table s) guest j (omega arith))) in
            sym (table-entry g s o (place e) (guest + j) _ i ∙ way-some g s o (guest + j) e (row j b) h z)
