-- The bytes of a new block, and its first bytes as the code lays them. Assumes nothing.
use Prim.Native.Nat.{ℕ, zero, suc, ◌+◌, ◌-◌, ◌^◌, ◌≤◌, ◌<◌}
use native.Mathlib.Nat.{sub-zero, zero-add}
use native.Mathlib.Omega.{arith}
use mathlib.Core.Path.{◌≡◌, refl, sym, ap, ◌∙◌}
use mathlib.Core.List.{List, [], ◌∷◌, ◌++◌, append_assoc}
use lib.ListN.{length, get_or, take, drop, set, replicate, length-append, length-replicate, replicate-append-replicate}
use lib.Pow.{pow_pos, pow_mono}
use lib.Seq.{sets, take_at, drop_at}
use Rattle.endian.specs.Big.{splice}
use Rattle.endian.proofs.Laws.{set-one, sets_splice, splice_front}
use Rattle.widths.specs.Width.{be, bytes, span, merge, stored}
use Rattle.units.specs.Units.{cluster}
use Rattle.units.proofs.Laws.{length-cluster}
use Rattle.fills.specs.Padded.{padded}
use Rattle.fills.proofs.Fills.{over_zeros}
use Rattle.qcow2_extend.specs.Making.{own_byte}

splice-start : (l b : List ℕ) (k : ℕ) → length b ≡ k → splice l 0 b ≡ b ++ drop k l
unfolding splice
splice-start l b k e = rw (e, zero-add)

split_zeros : (n a b : ℕ) → a + b ≡ n → ◌≡◌ {A = List ℕ} (replicate n 0) (replicate a 0 ++ replicate b 0)
split_zeros n a b e = rw (← e) (sym (replicate-append-replicate {A = ℕ} a b 0))

-- ---- its first k bytes, of n
module _ (l : List ℕ) (n own k : ℕ) (h : own < n) where
  -- the 1 is past them
  pub lay_before : k ≤ own → splice l 0 (replicate k 0) ≡ splice l 0 (take k (cluster n own (1 ∷ [])))
  unfolding cluster
  lay_before g =
      let z : List ℕ = replicate k 0 in
      rw (split_zeros own k (own - k) (omega arith), append_assoc, append_assoc) (ap (splice l 0) (sym (take_at z _ k (length-replicate {A = ℕ} k 0))))

  -- it is among them
  take-cluster : own < k → k ≤ n → take k (cluster n own (1 ∷ [])) ≡ cluster k own (1 ∷ [])
  unfolding cluster
  take-cluster g m =
      rw (split_zeros (n - own - 1) (k - own - 1) (n - k) (omega arith), ← append_assoc)
      (take_at (cluster k own (1 ∷ [])) _ k (length-cluster k own (1 ∷ []) (omega arith)))

  pub lay_over : own < k → k ≤ n → set (splice l 0 (replicate k 0)) own 1 ≡ splice l 0 (take k (cluster n own (1 ∷ [])))
  unfolding padded
  lay_over g m =
      let Z : List ℕ = replicate k 0 in
      let D : List ℕ = drop k l in
      let w : length Z ≡ k = length-replicate {A = ℕ} k 0 in
      let b : splice Z own (1 ∷ []) ≡ cluster k own (1 ∷ []) = rw sub-zero at (over_zeros k own (1 ∷ []) (omega arith)) in
      let x : own < length (Z ++ D) = rw length-append (omega arith) in
      rw (take-cluster g m, splice-start l (cluster k own (1 ∷ [])) k (length-cluster k own (1 ∷ []) (omega arith)), splice-start l Z k w)
      (set-one (Z ++ D) own 1 x ∙ splice_front Z D own (1 ∷ []) (omega arith) ∙ ap (λ (y : List ℕ). y ++ D) b)

-- ---- all of them: 1 in the last byte of its first count
get_or-zeros : (n i : ℕ) → ◌≡◌ {A = ℕ} (get_or (replicate n 0) i 0) 0
get_or-zeros zero i = refl
get_or-zeros (suc n) zero = refl
get_or-zeros (suc n) (suc i) = get_or-zeros n i

be-zeros : (k n at : ℕ) → be k (replicate n 0) at ≡ 0
unfolding be
be-zeros zero n at = refl
be-zeros (suc k) n at = rw (be-zeros k n at, get_or-zeros n (at + k))

first-bytes : (o : ℕ) → o ≤ 6 → bytes (span (2 ^ o)) (merge (2 ^ o) 0 0 1) ≡ replicate (own_byte o) 0 ++ (1 ∷ [])
unfolding bytes span merge
first-bytes zero h = refl
first-bytes (suc zero) h = refl
first-bytes (suc (suc zero)) h = refl
first-bytes (suc (suc (suc zero))) h = refl
first-bytes (suc (suc (suc (suc zero)))) h = refl
first-bytes (suc (suc (suc (suc (suc zero))))) h = refl
first-bytes (suc (suc (suc (suc (suc (suc zero)))))) h = refl
first-bytes (suc (suc (suc (suc (suc (suc (suc o))))))) h = absurd (omega arith)

sets_zeros : (n k : ℕ) → k < n → sets (replicate n 0) 0 (replicate k 0 ++ (1 ∷ [])) ≡ cluster n k (1 ∷ [])
unfolding cluster
sets_zeros n k h =
    let b : List ℕ = replicate k 0 ++ (1 ∷ []) in
    let z : List ℕ = replicate (k + 1) 0 in
    let q : length b ≡ k + 1 = rw (length-append, length-replicate) refl in
    let d : ◌≡◌ {A = List ℕ} (drop (k + 1) (replicate n 0)) (replicate (n - k - 1) 0) = rw (split_zeros n (k + 1) (n - k - 1) (omega arith)) (drop_at z _ (k + 1) (length-replicate {A = ℕ} (k + 1) 0)) in
    let l : length (replicate {A = ℕ} n 0) ≡ n = length-replicate {A = ℕ} n 0 in
    sets_splice (replicate n 0) 0 b (omega arith) ∙ splice-start (replicate n 0) b (k + 1) q ∙ ap (λ (r : List ℕ). b ++ r) d

pub own-small : (o : ℕ) → o ≤ 6 → own_byte o < 8
own-small o h = omega (arith, pow_pos (o - 3), pow_mono {i = o - 3} {j = 3} (omega arith))

pub own_block : (n o : ℕ) → o ≤ 6 → 8 ≤ n → stored (2 ^ o) (replicate n 0) 0 1 ≡ cluster n (own_byte o) (1 ∷ [])
unfolding stored
own_block n o h g = rw (be-zeros (span (2 ^ o)) n 0, first-bytes o h) (sets_zeros n (own_byte o) (omega (arith, own-small o h)))
