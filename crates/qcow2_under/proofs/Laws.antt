-- The run's bytes, then zeros: as they are stored, and as the definitions have them.
-- Assumes nothing.
use Prim.Native.Nat.{ℕ, ◌-◌, ◌≤◌, min}
use native.Mathlib.Nat.{sub-zero}
use native.Mathlib.Omega.{arith}
use mathlib.Core.Path.{◌≡◌, refl, sym, ◌∙◌}
use mathlib.Core.Bool.{Bool, true, false}
use mathlib.Core.List.{List, [], ◌∷◌, ◌++◌}
use lib.ListN.{length, take, drop, replicate, length-append, length-take, length-drop, length-replicate, get_or-replicate}
use lib.Seq.{take_all, take-take}
use Rattle.choice.specs.Pick.{each}
use Rattle.choice.proofs.Tests.{if_no}
use Rattle.choice.proofs.Each.{each_list}
use Rattle.endian.specs.Big.{part, splice}
use Rattle.endian.proofs.Laws.{splice-next, splice-whole}
use Rattle.qcow2_spec.specs.Header.{backed}
use Rattle.qcow2_spec.specs.Guest.{backing_byte}
use Rattle.qcow2_spec.proofs.Backing.{backing_piece}
use Rattle.qcow2_under.specs.Under.{lent_bytes, under_bytes}

-- ---- what is stored
module _ (backing : List ℕ) (x n : ℕ) where
  size : length (part backing x n) ≡ min n (length backing - x)
  size = simp (length-take, length-drop) refl

  none : (p : List ℕ) → length p ≡ 0 → p ≡ []
  none [] e = refl
  none (y ∷ p) e = absurd (omega arith)

  whole : length (lent_bytes backing x n) ≡ n
  unfolding lent_bytes
  whole = simp (length-append, length-replicate) (omega (arith, size))

  module _ (l : List ℕ) (w : length l ≡ n) where
    -- from past the run's end on
    pub lent_none : length backing ≤ x → splice l 0 (replicate n 0) ≡ lent_bytes backing x n
    unfolding lent_bytes
    lent_none h =
        splice-whole l (replicate n 0) (length-replicate n 0 ∙ sym w) ∙ rw (none (part backing x n) (omega (arith, size)), sub-zero)

    -- m bytes of the run, then zeros
    pub lent_some : (m : ℕ) → m ≡ min n (length backing - x) → splice (splice l 0 (take m (part backing x m))) m (replicate (n - m) 0) ≡ lent_bytes backing x n
    unfolding lent_bytes
    lent_some m e =
        let d : List ℕ = drop x backing in
        let a : take m (take m d) ≡ take n d = take-take m m d (omega arith) ∙ sym (take-take m n d (omega (arith, e))) ∙ take_all m (take n d) (omega (arith, e, size)) in
        let k : length (take n d) ≡ m = size ∙ sym e in
        rw (a, k) (splice-next l 0 m (take n d) (replicate (n - m) 0) (omega (arith, k)) (simp length-replicate (omega (arith, e, w)))
        ∙ splice-whole l (take n d ++ replicate (n - m) 0) (rw k at whole ∙ sym w))

-- ---- what the definitions call it
pub under-bytes : (backing s : List ℕ) (x n : ℕ) (b : Bool) → b ≡ backed s → under_bytes b backing x n ≡ each (backing_byte backing s) x n
unfolding under_bytes lent_bytes backing_byte
under-bytes backing s x n true e = sym (backing_piece backing s (sym e) x n)
under-bytes backing s x n false e =
    let z : List ℕ = replicate n 0 in
    let k : length z ≡ n = length-replicate n 0 in
    sym (rw k at (each_list (backing_byte backing s) z x (λ i h. if_no (backed s) _ 0 (sym e) ∙ sym (get_or-replicate n i 0 0 (omega (arith, k))))))
