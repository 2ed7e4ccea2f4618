-- Laws of a scratch whose counts alone stay.
-- Assumes nothing.
use Prim.Native.Nat.{ℕ, suc, ◌+◌, ◌*◌, ◌/◌, ◌%◌, ◌≤◌}
use native.Mathlib.Nat.{zero-add}
use native.Mathlib.Omega.{arith}
use mathlib.Core.Path.{◌≡◌, refl, sym, ap, ◌∙◌}
use mathlib.Core.List.{List, [], ◌∷◌, ◌++◌, append-nil, append_assoc}
use lib.ListN.{length}
use Rattle.choice.specs.Pick.{each}
use Rattle.choice.proofs.Each.{each_append, length-each}
use Rattle.endian.specs.Big.{be16, bytes16, splice}
use Rattle.endian.proofs.Laws.{splice-next, splice-none, splice-whole, splice-after, be16-same, length-bytes16}
use Rattle.tally.specs.Tally.{wide}
use Rattle.tally.specs.States.{unpacked}

wide_append : (a b : List ℕ) → wide (a ++ b) ≡ wide a ++ wide b
unfolding wide
wide_append [] b = refl
wide_append (x ∷ a) b = ap (λ (l : List ℕ). bytes16 x ++ l) (wide_append a b) ∙ sym (append_assoc (bytes16 x) (wide a) (wide b))

wide-one : (x : ℕ) → wide (x ∷ []) ≡ bytes16 x
unfolding wide
wide-one x = append-nil (bytes16 x)

length-wide : (fs : List ℕ) → length (wide fs) ≡ 2 * length fs
unfolding wide bytes16
length-wide [] = refl
length-wide (x ∷ fs) = let e : 2 * suc (length fs) ≡ suc (suc (2 * length fs)) = omega arith in rw e (ap (λ (n : ℕ). suc (suc n)) (length-wide fs))

module _ (s : List ℕ) where
  abbrev count_at : ℕ → ℕ
  count_at k = be16 s (2 * k) / 512

  -- the first k clusters are done
  abbrev pub Unpacking : ℕ → List ℕ → Type 0
  Unpacking k t = t ≡ splice s 0 (wide (each count_at 0 k))

  long : (k : ℕ) → length (wide (each count_at 0 k)) ≡ 2 * k
  long k = length-wide (each count_at 0 k) ∙ ap (λ (n : ℕ). 2 * n) (length-each count_at 0 k)

  pub unpacking_first : Unpacking 0 s
  unfolding wide
  unpacking_first = sym (splice-none s 0)

  pub unpacking_next : (k : ℕ) (t u : List ℕ) → 2 * k + 2 ≤ length s → Unpacking k t → u ≡ splice t (2 * k) (bytes16 (be16 t (2 * k) / 512)) → Unpacking (k + 1) u
  unpacking_next k t u h e f =
      let same : be16 t (2 * k) ≡ be16 s (2 * k) = ap (λ (l : List ℕ). be16 l (2 * k)) e ∙ be16-same _ (2 * k) s (2 * k) (splice-after s 0 (wide (each count_at 0 k)) (2 * k) 2 (omega arith) (omega (arith, long k))) in
      let more : wide (each count_at 0 (k + 1)) ≡ wide (each count_at 0 k) ++ bytes16 (count_at k) =
      ap wide (each_append count_at 0 k 1) ∙ wide_append (each count_at 0 k) (each count_at (0 + k) 1) ∙ ap (λ (j : ℕ). wide (each count_at 0 k) ++ wide (count_at j ∷ [])) (zero-add k) ∙ ap (λ (l : List ℕ). wide (each count_at 0 k) ++ l) (wide-one (count_at k)) in
      f ∙ ap (λ (x : ℕ). splice t (2 * k) (bytes16 (x / 512))) same ∙ ap (λ (l : List ℕ). splice l (2 * k) (bytes16 (count_at k))) e
      ∙ splice-next s 0 (2 * k) (wide (each count_at 0 k)) (bytes16 (count_at k)) (omega (arith, long k)) (omega (arith, length-bytes16 (count_at k))) ∙ ap (splice s 0) (sym more)

  pub unpacking_last : (t : List ℕ) (k : ℕ) → length s % 2 ≡ 0 → k ≡ length s / 2 → Unpacking k t → t ≡ unpacked s (length s / 2)
  unfolding unpacked
  unpacking_last t k h g e = rw g at (e ∙ splice-whole s (wide (each count_at 0 k)) (omega (arith, long k)))
