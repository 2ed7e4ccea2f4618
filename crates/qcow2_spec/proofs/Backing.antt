-- The backing file: what 19 leaves of its name, and what is read or filled from it as a part of its bytes, then zeros. Assumes nothing.
use Prim.Native.Nat.{ℕ, zero, suc, ◌+◌, ◌-◌, ◌*◌, ◌≤◌, ◌<◌, min}
use native.Mathlib.Nat.{le_refl}
use native.Mathlib.Decide.{dec_lt}
use native.Mathlib.Omega.{arith}
use mathlib.Core.Path.{◌≡◌, refl, sym, ap, ◌∙◌}
use mathlib.Core.Bool.{true, not, ◌&&◌, ◌||◌}
use mathlib.Core.List.{List, [], ◌∷◌, ◌++◌}
use lib.Dec.{ltb, eqb}
use lib.ListN.{length, get_or, take, drop, replicate, length-append, length-take, length-drop, length-replicate, get_or-append}
use lib.Seq.{get_or-append-add, get_or-take, get_or-drop}
use borrow.Author.Tests.{ltb-false, eqb-false, lt-ltb, le-ltb, not-true, not-false}
use Rattle.choice.specs.Pick.{each}
use Rattle.choice.proofs.Tests.{if_zero, if_yes, if_no, or-false}
use Rattle.choice.proofs.Each.{each_list}
use Rattle.endian.specs.Big.{part}
use Rattle.qcow2_spec.specs.Header.{most_name, cluster_size, disk_size, backing_offset, name_length, backed, bad_name, backing_number, some_lent, judge}
use Rattle.qcow2_spec.specs.Guest.{backing_byte}
use Rattle.qcow2_spec.specs.Store.{backing_cluster}
use Rattle.qcow2_spec.proofs.Facts.{judged-parts}

-- ---- what an accepted image over a backing file has: a name inside its first cluster, and bytes that are lent
pub record Named (backing s : List ℕ) : Type 0 where
  pub some : 0 < name_length s
  pub few : name_length s ≤ most_name
  pub inside : backing_offset s + name_length s ≤ cluster_size s
  pub lent : 0 < length backing

pub named : (backing s : List ℕ) → judge backing s ≡ 0 → backed s ≡ true → Named backing s
unfolding judge backing_number bad_name some_lent
named backing s h b =
    let e = (judged-parts (some_lent backing) s h).2 in
    let n = (if_zero (backed s && (bad_name s || not (some_lent backing))) 18 0 e).0 in
    let q = or-false (bad_name s) (not (some_lent backing)) (rw b at n) in
    let t1 = eqb (name_length s) 0 in
    let t2 = ltb most_name (name_length s) in
    let t3 = ltb (cluster_size s) (backing_offset s) in
    let t4 = ltb (cluster_size s - backing_offset s) (name_length s) in
    let r1 = or-false (t1 || t2 || t3) t4 q.0 in
    let r2 = or-false (t1 || t2) t3 r1.0 in
    let r3 = or-false t1 t2 r2.0 in
    record {
      some = omega (arith, eqb-false (name_length s) 0 r3.0);
      few = ltb-false _ _ r3.1;
      inside = omega (arith, ltb-false (cluster_size s) (backing_offset s) r2.1, ltb-false (cluster_size s - backing_offset s) (name_length s) r1.1);
      lent = omega (arith, eqb-false (length backing) 0 (not-true _ (not-false _ q.1)));
    }

-- ---- for the code: what is read or filled from a place on is a part of the run, then zeros
past_end : (l : List ℕ) (i : ℕ) → length l ≤ i → get_or l i 0 ≡ 0
past_end [] i h = refl
past_end (x ∷ l) zero h = absurd (omega arith)
past_end (x ∷ l) (suc i) h = past_end l i (omega arith)

zeros-at : (n x : ℕ) → get_or {A = ℕ} (replicate n 0) x 0 ≡ 0
zeros-at zero x = refl
zeros-at (suc n) zero = refl
zeros-at (suc n) (suc x) = zeros-at n x

-- m numbers of the run from a on, zeros from there to k
piece : (backing : List ℕ) (f : ℕ → ℕ) (a m k : ℕ) → m ≤ k → ((i : ℕ) → i < m → f (a + i) ≡ get_or backing (a + i) 0) → ((i : ℕ) → m ≤ i → i < k → f (a + i) ≡ 0)
    → each f a k ≡ part backing a m ++ replicate (k - length (part backing a m)) 0
piece backing f a m k h one none = ap (each f a) (sym whole) ∙ each_list f l a (λ i q. at i q (dec_lt i (length p)))
  where
    p : List ℕ
    p = take m (drop a backing)

    l : List ℕ
    l = p ++ replicate (k - length p) 0

    size : length p ≡ min m (length backing - a)
    size = simp (length-take, length-drop) refl

    whole : length l ≡ k
    whole = simp (length-append, length-replicate) (omega (arith, size))

    at : (i : ℕ) → i < length l → Dec (i < length p) → f (a + i) ≡ get_or l i 0
    at i q (yes e) =
        one i (omega (arith, size))
        ∙ sym (get_or-append p (replicate (k - length p) 0) 0 i e ∙ get_or-take m (drop a backing) i 0 (omega (arith, size)) ∙ get_or-drop a backing i 0)
    at i q (no e) = clear (dec_lt i m) ∙ sym zero-there
      where
        clear : Dec (i < m) → f (a + i) ≡ 0
        clear (yes b) = one i b ∙ past_end backing (a + i) (omega (arith, size))
        clear (no b) = none i (omega arith) (omega (arith, whole))

        zero-there : get_or l i 0 ≡ 0
        zero-there =
            let d : i ≡ length p + (i - length p) = omega arith in
            ap (λ (n : ℕ). get_or l n 0) d ∙ get_or-append-add p (replicate (k - length p) 0) (i - length p) 0 ∙ zeros-at (k - length p) (i - length p)

module _ (backing s : List ℕ) (b : backed s ≡ true) where
  byte-is : (y : ℕ) → backing_byte backing s y ≡ get_or backing y 0
  unfolding backing_byte
  byte-is y = if_yes (backed s) _ 0 b

  -- k unallocated bytes from x on
  pub backing_piece : (x k : ℕ) → each (backing_byte backing s) x k ≡ part backing x k ++ replicate (k - length (part backing x k)) 0
  backing_piece x k = piece backing (backing_byte backing s) x k k (le_refl k) (λ i h. byte-is (x + i)) (λ i h q. absurd (omega arith))

  -- what lies under guest cluster g, which starts inside the disk
  pub backing_cluster_lem : (g m : ℕ) → min (cluster_size s) (disk_size s - g * cluster_size s) ≡ m
      → backing_cluster backing s g ≡ part backing (g * cluster_size s) m ++ replicate (cluster_size s - length (part backing (g * cluster_size s) m)) 0
  unfolding backing_cluster
  backing_cluster_lem g m e =
      piece backing _ (g * cluster_size s) m (cluster_size s) (omega (arith, e))
      (λ i h. if_yes (ltb (g * cluster_size s + i) (disk_size s)) _ 0 (lt-ltb (g * cluster_size s + i) (disk_size s) (omega (arith, e))) ∙ byte-is (g * cluster_size s + i))
      (λ i h q. if_no (ltb (g * cluster_size s + i) (disk_size s)) _ 0 (le-ltb (g * cluster_size s + i) (disk_size s) (omega (arith, e))))
