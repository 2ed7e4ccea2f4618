-- Rows that are put one after the other. Assumes nothing.
use Prim.Native.Nat.{ℕ, suc, ◌+◌, ◌*◌, ◌/◌, ◌≤◌, ◌<◌}
use native.Mathlib.Omega.{arith}
use mathlib.Core.Path.{◌≡◌, sym, ap, ◌∙◌}
use mathlib.Core.List.{List, [], ◌∷◌, ◌++◌, append_assoc, append-nil}
use lib.ListN.{length, take, set, length-append, length-take}
use lib.Seq.{take_all, take-append-le}
use Rattle.endian.specs.Big.{splice}
use Rattle.endian.proofs.Laws.{length-splice, splice-next, sets_splice}
use Rattle.qcow2_spec.specs.Steps.{rows_put}
use Rattle.qcow2_rows.specs.Rows.{Puts}

-- no rows, and rows after others
pub puts_none : (rows : List ℕ) (k : ℕ) → Puts [] rows k rows k
puts_none rows k out xs p = rw (append-nil xs) p

pub puts_then : {new more s t u : List ℕ} {k m r : ℕ} → Puts new s k t m → Puts more t m u r → Puts (new ++ more) s k u r
puts_then {new} {more} f g out xs p = rw (← append_assoc xs new more) (g out (xs ++ new) (f out xs p))

pub puts_same : {new more s t : List ℕ} {k r : ℕ} → new ≡ more → Puts more s k t r → Puts new s k t r
puts_same e f out xs p = rw e (f out xs p)

-- ---- one row, as four stores
length-room : (out xs : List ℕ) → length (take (4 * (length out / 4)) xs) ≤ length out
length-room out xs = rw length-take (omega arith)

length-put : (out xs : List ℕ) → length (rows_put out xs) ≡ length out
unfolding rows_put
length-put out xs = length-splice out 0 (take (4 * (length out / 4)) xs) (omega (arith, length-room out xs))

abbrev pub four : List ℕ → (k a b c d : ℕ) → List ℕ
four l k a b c d = set (set (set (set l (4 * k) a) (4 * k + 1) b) (4 * k + 2) c) (4 * k + 3) d

four-splice : (l : List ℕ) (k a b c d : ℕ) → 4 * k + 4 ≤ length l → four l k a b c d ≡ splice l (4 * k) (a ∷ b ∷ c ∷ d ∷ [])
four-splice l k a b c d h =
    let e : 4 * k + 1 ≡ suc (4 * k) = omega arith in
    let f : 4 * k + 2 ≡ suc (suc (4 * k)) = omega arith in
    let g : 4 * k + 3 ≡ suc (suc (suc (4 * k))) = omega arith in
    rw (e, f, g) (sets_splice l (4 * k) (a ∷ b ∷ c ∷ d ∷ []) h)

-- where there is room it is put after those that are there
pub puts_four : (rows : List ℕ) (k a b c d : ℕ) → k < length rows / 4 → Puts (a ∷ b ∷ c ∷ d ∷ []) rows k (four rows k a b c d) (k + 1)
unfolding rows_put
puts_four rows k a b c d h out xs p =
    let n : length rows ≡ length out = ap length p.put ∙ length-put out xs in
    let m : length xs ≡ 4 * k = p.many in
    let z : length (xs ++ a ∷ b ∷ c ∷ d ∷ []) ≡ 4 * (k + 1) = rw (length-append, m) (omega arith) in
    let e : rows ≡ splice out 0 xs = p.put ∙ ap (splice out 0) (take_all (4 * (length out / 4)) xs (omega arith)) in
    record {
      put =
          four-splice rows k a b c d (omega arith) ∙ ap (λ (l : List ℕ). splice l (4 * k) (a ∷ b ∷ c ∷ d ∷ [])) e
          ∙ splice-next out 0 (4 * k) xs (a ∷ b ∷ c ∷ d ∷ []) (omega arith) (omega arith)
          ∙ ap (splice out 0) (sym (take_all (4 * (length out / 4)) (xs ++ a ∷ b ∷ c ∷ d ∷ []) (omega arith)));
      many = z;
    }

-- where there is none it is only counted
pub puts_past : (rows : List ℕ) (k a b c d : ℕ) → length rows / 4 ≤ k → Puts (a ∷ b ∷ c ∷ d ∷ []) rows k rows (k + 1)
unfolding rows_put
puts_past rows k a b c d h out xs p =
    let n : length rows ≡ length out = ap length p.put ∙ length-put out xs in
    let m : length xs ≡ 4 * k = p.many in
    record {
      put = p.put ∙ ap (splice out 0) (sym (take-append-le (4 * (length out / 4)) xs (a ∷ b ∷ c ∷ d ∷ []) (omega arith)));
      many = rw (length-append, m) (omega arith);
    }
