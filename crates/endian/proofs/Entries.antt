-- Laws of a table's entries, for walks that go entry by entry.
-- Assumes nothing.
use Prim.Native.Nat.{ℕ, zero, suc, ◌+◌, ◌-◌, ◌*◌, ◌≤◌, ◌<◌}
use mathlib.Core.Path.{◌≡◌, refl, ap, ◌∙◌}
use mathlib.Core.List.{List, [], ◌∷◌}
use native.Mathlib.Nat.{add_assoc, add-zero, sub-zero, not-suc-le-zero, le_of_suc-le-suc}
use native.Mathlib.Omega.{arith}
use lib.ListN.{length, get_or, take, drop, length-drop}
use lib.Seq.{get_or-drop, drop-drop, take-length}
use Rattle.endian.specs.Big.{be16, be32, be64, entries}

-- a part that goes to the end, as the borrow checker has it
pub part-rest : (l : List ℕ) (at : ℕ) → take (length l - at) (drop at l) ≡ drop at l
part-rest l at = rw (← length-drop at l) (take-length (drop at l))

-- a number of a part is a number of the whole
pub be64-drop : (t : List ℕ) (k i : ℕ) → be64 (drop k t) i ≡ be64 t (k + i)
unfolding be16 be32 be64
be64-drop t k i = simp (get_or-drop, add_assoc)

-- k entries are k numbers, and entry i is the number at byte 8 * i
pub length-entries : (k : ℕ) (t : List ℕ) → length (entries k t) ≡ k
unfolding entries
length-entries zero t = refl
length-entries (suc k) t = ap suc (length-entries k (drop 8 t))

pub entries_at : (k : ℕ) (t : List ℕ) (i : ℕ) → i < k → get_or (entries k t) i 0 ≡ be64 t (8 * i)
unfolding entries
entries_at zero t i h = absurd (not-suc-le-zero h)
entries_at (suc k) t zero h = refl
entries_at (suc k) t (suc i) h =
    entries_at k (drop 8 t) i (le_of_suc-le-suc h)
    ∙ be64-drop t 8 (8 * i)
    ∙ ap (λ (n : ℕ). be64 t n) (omega arith)

-- the entries from index j on, of k: all of them at first, the first of them and the rest, none of them at the end
pub entries-whole : (k : ℕ) (t : List ℕ) → entries (k - 0) (drop (8 * 0) t) ≡ entries k t
entries-whole k t = rw sub-zero

pub entries_turn : (k j : ℕ) (t : List ℕ) → j < k
    → entries (k - j) (drop (8 * j) t) ≡ be64 t (8 * j) ∷ entries (k - (j + 1)) (drop (8 * (j + 1)) t)
unfolding entries
entries_turn k j t h =
    let e : k - j ≡ suc (k - (j + 1)) = omega arith in
    let f : 8 * j + 8 ≡ 8 * (j + 1) = omega arith in
    rw (e, be64-drop t (8 * j) 0, add-zero, drop-drop, f)

pub entries_none : (k j : ℕ) (t : List ℕ) → k ≤ j → entries (k - j) (drop (8 * j) t) ≡ []
unfolding entries
entries_none k j t h = let e : k - j ≡ 0 = omega arith in rw e

-- the first b entries, and the later ones
pub take-entries : (b k : ℕ) (t : List ℕ) → b ≤ k → take b (entries k t) ≡ entries b t
unfolding entries
take-entries zero k t h = refl
take-entries (suc b) zero t h = absurd (not-suc-le-zero h)
take-entries (suc b) (suc k) t h = ap (λ (l : List ℕ). be64 t 0 ∷ l) (take-entries b k (drop 8 t) (le_of_suc-le-suc h))

pub drop-entries : (b k : ℕ) (t : List ℕ) → b ≤ k → drop b (entries k t) ≡ entries (k - b) (drop (8 * b) t)
unfolding entries
drop-entries zero k t h = rw sub-zero
drop-entries (suc b) zero t h = absurd (not-suc-le-zero h)
drop-entries (suc b) (suc k) t h =
    let e : suc k - suc b ≡ k - b = omega arith in
    let d : 8 + 8 * b ≡ 8 * suc b = omega arith in
    drop-entries b k (drop 8 t) (omega arith) ∙ rw (drop-drop, d, e)
