-- Counts that are counted and set a whole run at a time. Assumes nothing.
use Rattle.std.specs.Prelude.{if◌then◌else◌}
use Prim.Native.Nat.{ℕ, zero, suc, ◌+◌, ◌-◌, ◌*◌, ◌/◌, ◌%◌, ◌^◌, ◌≤◌, ◌<◌}
use native.Mathlib.Nat.{add-zero, mod-eq_of_lt}
use native.Mathlib.Numerals.{add-one}
use native.Mathlib.Omega.{arith}
use mathlib.Core.Path.{◌≡◌, refl, sym, ap, ◌∙◌}
use mathlib.Core.Bool.{Bool, true, false, not}
use mathlib.Core.List.{List, [], ◌∷◌, ◌++◌, append_assoc}
use lib.Dec.{eqb}
use lib.ListN.{length, take, drop, get_or, length-append, take-append-drop}
use lib.Seq.{drop-cons, take_all, take-nil, take-suc, length-take-le}
use borrow.Author.Tests.{eqb-true}
use Rattle.choice.specs.Pick.{count as count_that}
use Rattle.endian.specs.Big.{be16, splice, bytes16}
use Rattle.endian.proofs.Laws.{SamePart, sets_splice, length-bytes16, length-splice, splice-none, splice-next, splice-after}
use Rattle.widths.specs.Width.{span, number, stored}
use Rattle.widths.proofs.Whole.{bytes2, stored-whole}
use Rattle.widths.proofs.Cells.{number-16, number-part, inside-first}
use Rattle.packed.specs.Packed.{packed, unlike_at}
use Rattle.packed.proofs.Laws.{count_next}
use Rattle.packed_twos.specs.Twos.{many, figures_in}
use Rattle.packed_twos.proofs.Laws.{get_or-twos}
use Rattle.units.specs.Units.{UnitStore, count, apply_all}
use Rattle.units.proofs.Laws.{count-some, apply_all_append}
use Rattle.qcow2_counts.specs.Blocks.{Row}
use Rattle.qcow2_setcount.specs.Fixed.{fix, fixes}
use Rattle.qcow2_counts.proofs.Sizes.{row-part}

-- two bytes that are stored where they stand
splice-same : (l : List ℕ) (at : ℕ) → at + 2 ≤ length l → splice l at (get_or l at 0 ∷ get_or l (at + 1) 0 ∷ []) ≡ l
unfolding splice
splice-same l at h =
    let g : at + 2 ≡ suc (suc at) = omega arith in
    let e : drop at l ≡ get_or l at 0 ∷ get_or l (suc at) 0 ∷ drop (suc (suc at)) l =
    drop-cons l at 0 (omega arith) ∙ ap (λ (r : List ℕ). get_or l at 0 ∷ r) (drop-cons l (suc at) 0 (omega arith)) in
    rw (add-one, g, ← e) (take-append-drop at l)

-- a count of 16 bits is two bytes
stored-16 : (l : List ℕ) (at v : ℕ) → at + 2 ≤ length l → splice l at (bytes16 v) ≡ stored 16 l (8 * at) v
unfolding span
stored-16 l at v h =
    let d : 8 * at / 8 ≡ at = omega arith in
    sym (stored-whole 16 2 l (8 * at) refl refl (omega arith) v ∙ rw (d, bytes2 v) (sets_splice l at (bytes16 v) (rw length-bytes16 h)))

module _ (s : List ℕ) (small : (x : ℕ) → get_or s x 0 < 256) (at v : ℕ) where
  same_bytes : be16 s at ≡ v → bytes16 v ≡ get_or s at 0 ∷ get_or s (at + 1) 0 ∷ []
  unfolding be16 bytes16
  same_bytes e =
      let f = small at in
      let g = small (at + 1) in
      let q : v / 256 ≡ get_or s at 0 = omega arith in
      let r : v % 256 ≡ get_or s (at + 1) 0 = omega arith in
      rw (q, r, mod-eq_of_lt f)

  read : number 16 s (8 * at) ≡ be16 s at
  read = number-16 s (8 * at) at refl small

  -- a count that is set in a list that has the same bytes there: it changes nothing where it is right
  fix-set : (t : List ℕ) → at + 2 ≤ length t → SamePart t at s at 2 → splice t at (bytes16 v) ≡ apply_all (fix 4 s (8 * at) v) t
  unfolding fix apply_all
  fix-set t h w = go (eqb (number 16 s (8 * at)) v) refl
    where
      there : get_or t at 0 ∷ get_or t (at + 1) 0 ∷ [] ≡ get_or s at 0 ∷ get_or s (at + 1) 0 ∷ []
      there = let a : get_or t at 0 ≡ get_or s at 0 = rw add-zero at (w 0 (omega arith)) in rw (a, w 1 (omega arith))

      go : (b : Bool) → eqb (number 16 s (8 * at)) v ≡ b → splice t at (bytes16 v) ≡ apply_all (if b then [] else count 16 (8 * at) v ∷ []) t
      go true e = rw (same_bytes (sym read ∙ eqb-true _ _ e), ← there) (splice-same t at h)
      go false e = stored-16 t at v h ∙ count-some t 16 (8 * at) v 1 (λ z. omega arith)

place-16 : (at j : ℕ) → 8 * at + 16 * j ≡ 8 * (at + 2 * j)
place-16 at j = omega arith

pub bytes-16 : (o n at m : ℕ) → o ≡ 4 → Row o n at m → (at / 8 + 2 * m ≤ n) × (8 * (at / 8) ≡ at)
bytes-16 o n at m e r =
    let a : at % 16 ≡ 0 = rw e at r.aligned in
    let b : at + 16 * m ≤ 8 * n = rw e at r.fits in
    (omega arith, omega arith)

-- figures are as many counts of 16 bits, byte by byte
module _ (s refs : List ℕ) (small : (x : ℕ) → get_or s x 0 < 256) (bytes : (x : ℕ) → get_or refs x 0 < 256) (at : ℕ) where
  two-more : (j : ℕ) → 2 * j + 2 ≤ length refs → take (2 * suc j) refs ≡ take (2 * j) refs ++ bytes16 (be16 refs (2 * j))
  two-more j h =
      let e : 2 * suc j ≡ suc (suc (2 * j)) = omega arith in
      rw (e, same_bytes refs bytes (2 * j) (be16 refs (2 * j)) refl, add-one)
      (take-suc refs (suc (2 * j)) 0 (omega arith) ∙ ap (λ (l : List ℕ). l ++ (get_or refs (suc (2 * j)) 0 ∷ [])) (take-suc refs (2 * j) 0 (omega arith)) ∙ append_assoc (take (2 * j) refs) _ _)

  -- the first of them
  pub set_all : (j : ℕ) → j ≤ many refs → at + 2 * j ≤ length s → splice s at (take (2 * j) refs) ≡ apply_all (fixes 4 s (8 * at) (figures_in refs) j) s
  unfolding fixes apply_all
  set_all zero h g = splice-none s at
  set_all (suc j) h g =
      let x : List ℕ = take (2 * j) refs in
      let v : ℕ = be16 refs (2 * j) in
      let l : length x ≡ 2 * j = length-take-le (2 * j) refs (omega arith) in
      let q : at + length x ≡ at + 2 * j = omega arith in
      let t : List ℕ = splice s at x in
      let n : length t ≡ length s = length-splice s at x (omega arith) in
      let w : SamePart t (at + 2 * j) s (at + 2 * j) 2 = splice-after s at x (at + 2 * j) 2 (omega arith) (omega arith) in
      let b : length (bytes16 v) ≡ 2 = length-bytes16 v in
      let f : get_or (figures_in refs) j 0 ≡ v = get_or-twos refs (many refs) j (omega arith) in
      let u = fix-set s small (at + 2 * j) v t (omega arith) w in
      rw (two-more j (omega arith), apply_all_append, ← set_all j (omega arith) (omega arith), place-16 at j, f)
      (sym (splice-next s at (at + 2 * j) x (bytes16 v) q (omega arith)) ∙ u)

-- counts of any width in bytes that are lent from a byte's first on, against figures: those that differ
module _ (o : ℕ) (s : List ℕ) (at C : ℕ) (fs : List ℕ) (e : at % 8 ≡ 0) where
  unlike_one : (m : ℕ) → Row o (at / 8 + C) at (suc m) → ◌≡◌ {A = ℕ} (if unlike_at o (take C (drop (at / 8) s)) fs m then 1 else 0) (length (fix o s (at + 2 ^ o * m) (get_or fs m 0)))
  unfolding unlike_at packed fix
  unlike_one m r =
      let p : 8 * (at / 8) + 2 ^ o * m ≡ at + 2 ^ o * m = omega arith in
      let i = inside-first o C (suc m) m r.few (omega (arith, r.fits)) (omega arith) in
      rw (number-part o C s (at / 8) (2 ^ o * m) i, p) (go (eqb (number (2 ^ o) s (at + 2 ^ o * m)) (get_or fs m 0)))
    where
      go : (t : Bool) → ◌≡◌ {A = ℕ} (if not t then 1 else 0) (length (if t then [] else count (2 ^ o) (at + 2 ^ o * m) (get_or fs m 0) ∷ []))
      go true = refl
      go false = refl

  pub unlike_units : (m : ℕ) → Row o (at / 8 + C) at m → count_that (unlike_at o (take C (drop (at / 8) s)) fs) 0 m ≡ length (fixes o s at fs m)
  unfolding fixes
  unlike_units zero r = refl
  unlike_units (suc m) r =
      let n = rw add-one at (count_next (unlike_at o (take C (drop (at / 8) s)) fs) m) in
      n ∙ rw (length-append, unlike_units m (row-part r m (omega arith)), unlike_one m r) refl

-- m units of which n came before, within the allowance a: none; none that is left to store; all of them
module _ (us : List UnitStore) (s : List ℕ) (n a m : ℕ) (e : m ≡ length us) where
  pub all_right : m ≡ 0 → (n ≡ n + length us) × (s ≡ apply_all (take (a - n) us) s)
  unfolding apply_all
  all_right z = let q : take (a - n) us ≡ [] = go us (omega arith) in (omega arith, rw q)
    where
      go : (vs : List UnitStore) → length vs ≡ 0 → take (a - n) vs ≡ []
      go [] h = take-nil (a - n)
      go (v ∷ vs) h = absurd (omega arith)

  pub all_past : a ≤ n → (n + m ≡ n + length us) × (s ≡ apply_all (take (a - n) us) s)
  unfolding apply_all
  all_past h = let q : a - n ≡ 0 = omega arith in rw (q, e) (refl, refl)

  pub all-stored : (t : List ℕ) → n + m ≤ a → t ≡ apply_all us s → (n + m ≡ n + length us) × (t ≡ apply_all (take (a - n) us) s)
  all-stored t h w = rw (take_all (a - n) us (omega arith), e) (refl, w)
