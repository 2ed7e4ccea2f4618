-- Runs that are stored one after the other.
-- Assumes nothing.
use Rattle.std.specs.Prelude.{if◌then◌else◌, Err, Ok, Result}
use Prim.Native.Nat.{ℕ, zero, suc, ◌+◌, ◌-◌, ◌*◌, ◌/◌, ◌≤◌, ◌<◌}
use native.Mathlib.Nat.{add-zero, sub-zero}
use native.Mathlib.Omega.{arith}
use mathlib.Core.Path.{◌≡◌, refl, sym, ap, ◌∙◌}
use mathlib.Core.Bool.{Bool, true, false, ◌||◌}
use mathlib.Core.List.{List, [], ◌∷◌, ◌++◌}
use borrow.Author.Tests.{ne_eqb, lt-ltb, lt-leb, ltb-true, ltb-false}
use lib.Dec.{eqb, ltb}
use lib.ListN.{length, set, length-append}
use Rattle.power.proofs.Laws.{same_test}
use Rattle.endian.specs.Big.{splice}
use Rattle.endian.proofs.Laws.{length-splice, splice-next, splice-none, splice-more, set-two}
use Rattle.qcow2_spec.specs.Header.{roots}
use Rattle.qcow2_spec.specs.Guest.{located, outside}
use Rattle.qcow2_spec.specs.Runs.{found_code, found_host, run_length, run_row, run_rows, runs_listed, runs_put}
use Rattle.qcow2_spec.specs.Opened.{Opened}
use Rattle.qcow2_spec.specs.declared.Geometry.{Geometry}
use Rattle.qcow2_spec.specs.declared.Found.{Found}
use Rattle.qcow2_spec.proofs.Runs.{run-most}

-- ---- the numbers of a run, and of the runs after it
length-row : (f : Result Found ℕ) (r : ℕ) → length (run_row f r) ≡ 3
unfolding run_row
length-row f r = refl

-- three stores, as one splice
pub row-stored : (l : List ℕ) (at : ℕ) (f : Result Found ℕ) (r : ℕ) → at + 3 ≤ length l → set (set (set l at (found_code f)) (at + 1) (found_host f)) (at + 2) r ≡ splice l at (run_row f r)
unfolding run_row
row-stored l at f r h = rw (set-two l at (found_code f) (found_host f) (omega arith)) (splice-more l at 2 (found_code f ∷ found_host f ∷ []) r refl (omega arith))

rows_none : (s : List ℕ) (root x k : ℕ) → run_rows s root x 0 k ≡ []
unfolding run_rows
rows_none s root x zero = refl
rows_none s root x (suc k) = refl

rows-some : (s : List ℕ) (root x len k : ℕ) → 0 < len
    → run_rows s root x len (suc k) ≡ run_row (located s root x) (run_length s root x len) ++ run_rows s root (x + run_length s root x len) (len - run_length s root x len) k
unfolding run_rows
rows-some s root x len k h = rw (ne_eqb len 0 (λ z. omega arith))

rows-most : (s : List ℕ) (root x len k : ℕ) → length (run_rows s root x len k) ≤ 3 * k
unfolding run_rows
rows-most s root x len zero = omega arith
rows-most s root x len (suc k) =
    go (eqb len 0) (rows-most s root (x + run_length s root x len) (len - run_length s root x len) k)
  where
    rest : List ℕ
    rest = run_rows s root (x + run_length s root x len) (len - run_length s root x len) k

    go : (b : Bool) → length rest ≤ 3 * k → length (if b then [] else run_row (located s root x) (run_length s root x len) ++ rest) ≤ 3 * suc k
    go true h = omega arith
    go false h = omega (arith, length-append (run_row (located s root x) (run_length s root x len)) rest, length-row (located s root x) (run_length s root x len))

-- ---- k of the runs of len bytes from x on are stored in what was o, with room for some; done of the bytes are passed
pub record Listing (s : List ℕ) (root x len room : ℕ) (o : List ℕ) (k done : ℕ) (rows : List ℕ) : Type 0 where
  pub most : k ≤ room
  pub within : done ≤ len
  pub fits : 3 * room ≤ length o
  pub kept : length rows ≡ length o
  pub counted : 3 * k + length (run_rows s root (x + done) (len - done) (room - k)) ≡ length (run_rows s root x len room)
  pub stored : splice rows (3 * k) (run_rows s root (x + done) (len - done) (room - k)) ≡ splice o 0 (run_rows s root x len room)

module _ (s : List ℕ) (root x len room : ℕ) (o : List ℕ) where
  pub listing_first : 3 * room ≤ length o → Listing s root x len room o 0 0 o
  listing_first h =
      let e : run_rows s root (x + 0) (len - 0) (room - 0) ≡ run_rows s root x len room = rw (add-zero, sub-zero, sub-zero) in
      record { most = omega arith; within = omega arith; fits = h; kept = refl; counted = rw e (omega arith); stored = rw e }

  module _ (k done : ℕ) (rows : List ℕ) (u : Listing s root x len room o k done rows) where
    pub listing_next : k < room → done < len → (r : ℕ) → r ≡ run_length s root (x + done) (len - done) → (t : List ℕ)
        → t ≡ splice rows (3 * k) (run_row (located s root (x + done)) r) → Listing s root x len room o (k + 1) (done + r) t
    listing_next h l r e t d =
        let row : List ℕ = run_row (located s root (x + done)) r in
        let rest : List ℕ = run_rows s root (x + (done + r)) (len - (done + r)) (room - (k + 1)) in
        let n : room - k ≡ suc (room - (k + 1)) = omega arith in
        let a : x + done + r ≡ x + (done + r) = omega arith in
        let b : len - done - r ≡ len - (done + r) = omega arith in
        let q : run_rows s root (x + done) (len - done) (room - k) ≡ row ++ rest = rw n (rows-some s root (x + done) (len - done) (room - (k + 1)) (omega arith) ∙ rw (← e, a, b)) in
        let c : 3 * k + length (row ++ rest) ≡ length (run_rows s root x len room) = rw q at u.counted in
        let z : length row ≡ 3 = length-row (located s root (x + done)) r in
        let m : length rest ≤ 3 * (room - (k + 1)) = rows-most s root (x + (done + r)) (len - (done + r)) (room - (k + 1)) in
        let v : splice rows (3 * k) (row ++ rest) ≡ splice o 0 (run_rows s root x len room) = rw q at u.stored in
        record {
          most = omega arith;
          within = omega (arith, run-most s root (x + done) (len - done));
          fits = u.fits;
          kept = ap length d ∙ length-splice rows (3 * k) row (omega (arith, u.fits, u.kept)) ∙ u.kept;
          counted = omega (arith, c, z, length-append row rest);
          stored = rw d (splice-next rows (3 * k) (3 * (k + 1)) row rest (omega arith) (omega (arith, m, u.fits, u.kept)) ∙ v);
        }

    listing_over : run_rows s root (x + done) (len - done) (room - k) ≡ [] → (3 * k ≡ length (run_rows s root x len room)) × (rows ≡ splice o 0 (run_rows s root x len room))
    listing_over e =
        let c : 3 * k + length {A = ℕ} [] ≡ length (run_rows s root x len room) = rw e at u.counted in
        let v : splice rows (3 * k) [] ≡ splice o 0 (run_rows s root x len room) = rw e at u.stored in
        (omega (arith, c), sym (splice-none rows (3 * k)) ∙ v)

    -- no byte is left, or no room
    pub listing_whole : done ≡ len → (3 * k ≡ length (run_rows s root x len room)) × (rows ≡ splice o 0 (run_rows s root x len room))
    listing_whole e = listing_over (let z : len - done ≡ 0 = omega arith in rw z (rows_none s root (x + done) (room - k)))

    pub listing_full : room ≤ k → (3 * k ≡ length (run_rows s root x len room)) × (rows ≡ splice o 0 (run_rows s root x len room))
    unfolding run_rows
    listing_full h = listing_over (let z : room - k ≡ 0 = omega arith in rw z)

-- ---- the answer
past_is : (n x len : ℕ) → (ltb n x || ltb (n - x) len) ≡ ltb n (x + len)
past_is n x len = go (ltb n x) refl
  where
    go : (b : Bool) → ltb n x ≡ b → (b || ltb (n - x) len) ≡ ltb n (x + len)
    go true e = let l : n < x = ltb-true n x e in sym (lt-ltb n (x + len) (omega arith))
    go false e = let l : x ≤ n = ltb-false n x e in same_test (n - x) len n (x + len) (λ h. omega arith) (λ h. omega arith)

module _ (g : Geometry) (s : List ℕ) (o : Opened g s) (x len : ℕ) where
  outside-is : outside s g.root x len ≡ ltb g.size (x + len)
  unfolding outside
  outside-is = rw (lt-leb (roots s) g.root o.there, ← o.is-size) (past_is g.size x len)

  module _ (h : ltb g.size (x + len) ≡ true) (out : List ℕ) where
    pub past-refused : (Err 11 ≡ runs_listed s g.root x len (length out / 3)) × (out ≡ runs_put s g.root x len out)
    unfolding runs_listed runs_put
    past-refused = (rw (outside-is, h), rw (outside-is, h))

  module _ (h : ltb g.size (x + len) ≡ false) (out : List ℕ) where
    pub runs-listed : (k : ℕ) → 3 * k ≡ length (run_rows s g.root x len (length out / 3)) → (t : List ℕ) → t ≡ splice out 0 (run_rows s g.root x len (length out / 3))
        → (Ok k ≡ runs_listed s g.root x len (length out / 3)) × (t ≡ runs_put s g.root x len out)
    unfolding runs_listed runs_put
    runs-listed k e t d =
        let c : k ≡ length (run_rows s g.root x len (length out / 3)) / 3 = omega arith in
        (rw (outside-is, h, ← c), rw (outside-is, h) d)
