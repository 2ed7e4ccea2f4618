-- Laws of a cluster that is filled.
-- Assumes nothing.
use Prim.Native.Nat.{ℕ, zero, suc, ◌+◌, ◌-◌, ◌≤◌, ◌<◌, min}
use native.Mathlib.Nat.{sub-zero, sub-add-eq, zero-sub, suc-sub-suc}
use mathlib.Core.Path.{◌≡◌, refl, sym, ap, ◌∙◌}
use mathlib.Core.List.{List, [], ◌∷◌, ◌++◌, append_assoc}
use native.Mathlib.Omega.{arith}
use lib.ListN.{length, take, drop, set, replicate, length-append, length-take, length-drop, length-replicate}
use lib.Seq.{sets, take-nil, length-take-le, take-take, drop-append-le, drop-append-add}
use Rattle.endian.specs.Big.{splice}
use Rattle.endian.proofs.Laws.{splice-none, splice-next, splice-part, sets_splice, length-splice}
use Rattle.units.specs.Units.{UnitStore, byte, apply, apply_all, fill, cluster}
use Rattle.units.proofs.Laws.{take_append}
use Rattle.fills.specs.Padded.{padded}

-- ---- the first elements of a repeat, of what was taken, and of no more than there are
take-replicate : (k n x : ℕ) → take k (replicate n x) ≡ replicate (min k n) x
take-replicate zero n x = let e : min 0 n ≡ 0 = omega arith in rw e
take-replicate (suc k) zero x = let e : min (suc k) 0 ≡ 0 = omega arith in rw e
take-replicate (suc k) (suc n) x =
    let e : min (suc k) (suc n) ≡ suc (min k n) = omega arith in
    rw e (ap (λ (l : List ℕ). x ∷ l) (take-replicate k n x))

take-both : (k n : ℕ) (l : List ℕ) → take k (take n l) ≡ take (min k n) l
take-both zero n l = let e : min 0 n ≡ 0 = omega arith in rw e
take-both (suc k) zero l = let e : min (suc k) 0 ≡ 0 = omega arith in rw e
take-both (suc k) (suc n) [] = sym (take-nil (min (suc k) (suc n)))
take-both (suc k) (suc n) (x ∷ l) =
    let e : min (suc k) (suc n) ≡ suc (min k n) = omega arith in
    rw e (ap (λ (m : List ℕ). x ∷ m) (take-both k n l))

pub take_min : (n : ℕ) (l : List ℕ) → take (min n (length l)) l ≡ take n l
take_min zero l = let e : min 0 (length l) ≡ 0 = omega arith in rw e
take_min (suc n) [] = let e : min (suc n) 0 ≡ 0 = omega arith in rw e
take_min (suc n) (x ∷ l) =
    let e : min (suc n) (suc (length l)) ≡ suc (min n (length l)) = omega arith in
    rw e (ap (λ (m : List ℕ). x ∷ m) (take_min n l))

drop-replicate : (k n x : ℕ) → drop k (replicate n x) ≡ replicate (n - k) x
drop-replicate zero n x = rw sub-zero
drop-replicate (suc k) zero x = rw zero-sub
drop-replicate (suc k) (suc n) x = rw suc-sub-suc (drop-replicate k n x)

-- ---- what a cluster holds before data are laid over it
pub length-padded : (c : ℕ) (base : List ℕ) → length base ≤ c → length (padded c base) ≡ c
unfolding padded
length-padded c base h = simp (length-append, length-replicate) (omega arith)

pub length_over : (c : ℕ) (base : List ℕ) (o : ℕ) (d : List ℕ) → length base ≤ c → o + length d ≤ c → length (splice (padded c base) o d) ≡ c
length_over c base o d h g =
    let e : length (padded c base) ≡ c = length-padded c base h in
    length-splice (padded c base) o d (omega arith) ∙ e

-- a part of it: bytes of base up to b, then zeros; past them zeros alone
-- the numbers of the parts below. Each is a law of its own, since omega takes six case splits and no more
shorter : (n at b end : ℕ) → b ≡ min n end → at ≤ b → min (end - at) (n - at) ≡ b - at
shorter n at b end e h = omega arith

past : (n at b end : ℕ) → b ≡ min n end → at ≤ b → end - at - (n - at) ≡ end - b
past n at b end e h = omega arith

part_base : (c : ℕ) (base : List ℕ) (at b end : ℕ) → b ≡ min (length base) end → at ≤ b → end ≤ c
    → take (end - at) (drop at (padded c base)) ≡ take (b - at) (drop at base) ++ replicate (end - b) 0
unfolding padded
part_base c base at b end e h g =
    let n : length (drop at base) ≡ length base - at = length-drop at base in
    let m : min (end - b) (c - length base) ≡ end - b = omega arith in
    rw (drop-append-le at base _ (omega arith), take_append, ← take_min (end - at) (drop at base), n, shorter (length base) at b end e h, past (length base) at b end e h, take-replicate, m)

part-past : (c : ℕ) (base : List ℕ) (at b end : ℕ) → b ≡ min (length base) end → b ≤ at → end ≤ c → take (end - at) (drop at (padded c base)) ≡ replicate (end - at) 0
unfolding padded
part-past c base at b end e h g = go (end - at) refl
  where
    go : (n : ℕ) → end - at ≡ n → take n (drop at (padded c base)) ≡ replicate n 0
    go zero f = refl
    go (suc n) f =
        let d : at ≡ length base + (at - length base) = omega arith in
        let m : min (suc n) (c - length base - (at - length base)) ≡ suc n = omega arith in
        rw (d, drop-append-add, drop-replicate, take-replicate, m)

-- a part of it that is stored
module _ (l base : List ℕ) (at b end : ℕ) (e : b ≡ min (length base) end) (g : end ≤ length l) where
  pub laid_base : at < b → splice (splice l at (take (b - at) (take (b - at) (drop at base)))) b (replicate (end - b) 0) ≡ splice l at (take (end - at) (drop at (padded (length l) base)))
  laid_base h =
      let B : List ℕ = take (b - at) (drop at base) in
      let Z : List ℕ = replicate (end - b) 0 in
      let n : length B ≡ b - at = length-take-le (b - at) (drop at base) (simp length-drop (omega arith)) in
      let z : length Z ≡ end - b = length-replicate (end - b) 0 in
      rw (take-take (b - at) (b - at) (drop at base) (omega arith), part_base (length l) base at b end e (omega arith) g)
      (splice-next l at b B Z (omega arith) (omega arith))

  pub laid_past : b ≤ at → splice l at (replicate (end - at) 0) ≡ splice l at (take (end - at) (drop at (padded (length l) base)))
  laid_past h = rw (part-past (length l) base at b end e h g)

-- ---- data over it
same_left : (k at a : ℕ) → a ≡ min k at → k - at ≡ k - a
same_left k at a e = omega arith

rest : (x n b : ℕ) → b ≡ min x n → x - b ≡ x - n
rest x n b e = omega arith

-- the first k bytes: of those underneath, of src and of those underneath again
take-over : (l src : List ℕ) (o k a b : ℕ) → o + length src ≤ length l → a ≡ min k o → b ≡ min (k - a) (length src)
    → take k (splice l o src) ≡ take a l ++ (take b src ++ take (k - (a + b)) (drop (a + b) l))
unfolding splice
take-over l src o k a b h ea eb =
    let n : length (take o l) ≡ o = length-take-le o l (omega arith) in
    let e : k - o ≡ k - a = same_left k o a ea in
    let f : k - a - length src ≡ k - (a + b) = sym (rest (k - a) (length src) b eb) ∙ sym (sub-add-eq k a b) in
    rw (take_append, take_append, n, e, take-both, ← ea, ← take_min (k - a) src, ← eb, f) (ap (λ (r : List ℕ). take a l ++ (take b src ++ r)) (go (k - (a + b)) refl))
  where
    go : (m : ℕ) → k - (a + b) ≡ m → take m (drop (o + length src) l) ≡ take m (drop (a + b) l)
    go zero q = refl
    go (suc m) q = let p : o + length src ≡ a + b = omega arith in rw p

-- three runs of stores are one splice of the cluster's first k bytes
pub filled : (l under src : List ℕ) (o k a b : ℕ) → length under ≡ length l → o + length src ≤ length l → k ≤ length l → a ≡ min k o → b ≡ min (k - a) (length src)
    → splice (splice (splice l 0 (take a under)) a (take b src)) (a + b) (take (k - (a + b)) (drop (a + b) under)) ≡ splice l 0 (take k (splice under o src))
filled l under src o k a b u h g ea eb =
    let A : List ℕ = take a under in
    let B : List ℕ = take b src in
    let D : List ℕ = take (k - (a + b)) (drop (a + b) under) in
    let x : length A ≡ a = length-take-le a under (omega arith) in
    let y : length B ≡ b = length-take-le b src (omega arith) in
    let z : length D ≤ k - (a + b) = simp length-take (omega arith) in
    let q : 0 + length A ≡ a = omega arith in
    let p : 0 + length (A ++ B) ≡ a + b = rw length-append (omega arith) in
    rw (splice-next l 0 a A B q (omega arith), splice-next l 0 (a + b) (A ++ B) D p (omega arith), take-over under src o k a b (omega arith) ea eb, append_assoc)

-- ---- fills
-- a whole fill is one store of its bytes
fill_sets : (bs s : List ℕ) (at : ℕ) → apply_all (fill at bs) s ≡ sets s at bs
unfolding apply_all apply fill
fill_sets [] s at = refl
fill_sets (b ∷ bs) s at = fill_sets bs (set s at b) (suc at)

-- a cut fill is the fill of the cut bytes
take-fill : (k : ℕ) (bs : List ℕ) (at : ℕ) → take k (fill at bs) ≡ fill at (take k bs)
unfolding fill
take-fill zero bs at = refl
take-fill (suc k) [] at = refl
take-fill (suc k) (b ∷ bs) at = ap (λ (r : List UnitStore). byte at b ∷ r) (take-fill k bs (suc at))

-- the first bytes of a fill, stored as one run
pub fill-splice : (s : List ℕ) (at k r : ℕ) (bs : List ℕ) → at + length bs ≤ length s → r ≡ min k (length bs) → splice s at (take r bs) ≡ apply_all (take k (fill at bs)) s
fill-splice s at k r bs h e =
    let m : length (take k bs) ≤ length bs = simp length-take (omega arith) in
    rw (e, take_min, take-fill, fill_sets) (sym (sets_splice s at (take k bs) (omega arith)))

-- a part of c bytes from p on that is filled and comes back
pub part_filled : (s : List ℕ) (p c k r : ℕ) (bs : List ℕ) → p + c ≤ length s → length bs ≡ c → r ≡ min k c
    → take p s ++ (splice (take c (drop p s)) 0 (take r bs) ++ drop c (drop p s)) ≡ apply_all (take k (fill p bs)) s
part_filled s p c k r bs h n e =
    let m : 0 + length (take r bs) ≤ c = simp (length-take, n) (omega arith) in
    splice-part s p c 0 p (take r bs) h m (omega arith) ∙ fill-splice s p k r bs (omega arith) (omega arith)

-- ---- data over zeros
pub over_zeros : (c o : ℕ) (d : List ℕ) → o + length d ≤ c → splice (padded c []) o d ≡ cluster c o d
unfolding padded splice cluster
over_zeros c o d h =
    let e : min o (c - 0) ≡ o = omega arith in
    let f : c - 0 - (o + length d) ≡ c - o - length d = omega arith in
    rw (take-replicate, drop-replicate, e, f, append_assoc)

-- zeros alone
pub zeros-alone : (c : ℕ) → splice (padded c []) 0 [] ≡ replicate c 0
unfolding padded
zeros-alone c = rw (splice-none, sub-zero)
