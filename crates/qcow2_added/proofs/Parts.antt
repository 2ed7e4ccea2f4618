-- Rows that are put into what is left past the held ones. Assumes nothing.
use Prim.Native.Nat.{ℕ, ◌-◌, ◌*◌, ◌/◌, min}
use native.Mathlib.Omega.{arith}
use mathlib.Core.Path.{◌≡◌, refl, sym, ap, ◌∙◌}
use mathlib.Core.Bool.{Bool, true, false}
use mathlib.Core.List.{List, [], ◌++◌, append-nil}
use lib.Dec.{ltb}
use lib.ListN.{length, take, drop, length-drop}
use lib.Seq.{take_all, drop-length}
use borrow.Author.Tests.{ltb-true, ltb-false}
use Rattle.units.specs.Units.{UnitStore}
use Rattle.qcow2_spec.specs.Steps.{rows_put}
use Rattle.qcow2_rows.specs.Rows.{Puts}
use Rattle.qcow2_ways.proofs.Listings.{put_all}
use Rattle.qcow2_batches.specs.Rows.{rows_in, new_rows, rows_after}
use Rattle.qcow2_phases.specs.Ends.{in_rows, Added}
use Rattle.qcow2_phases.proofs.Held.{in_rows-take, rows_in-few, after_none}

after_is : (k : ℕ) (rows new : List ℕ) → take (4 * k) rows ++ rows_put (drop (4 * k) rows) new ≡ rows_after k rows new
unfolding rows_after
after_is k rows new = refl

module _ (k : ℕ) (out : List ℕ) (h : ℕ) (e : h ≡ min (length out / 4) k) where
  -- as many as there are
  held_in : (p : ℕ) → in_rows p (take (4 * h) out) ≡ rows_in p k out
  held_in p = in_rows-take p h out (omega arith) ∙ go (ltb k (length out / 4)) refl
    where
      go : (t : Bool) → ltb k (length out / 4) ≡ t → rows_in p h out ≡ rows_in p k out
      go true q = let l = ltb-true k (length out / 4) q in let f : h ≡ k = omega arith in ap (λ (n : ℕ). rows_in p n out) f
      go false q = let l = ltb-false k (length out / 4) q in let f : h ≡ length out / 4 = omega arith in ap (λ (n : ℕ). rows_in p n out) f ∙ sym (rows_in-few p k out l)

  after-held : (new : List ℕ) → rows_after h out new ≡ rows_after k out new
  after-held new = go (ltb k (length out / 4)) refl
    where
      go : (t : Bool) → ltb k (length out / 4) ≡ t → rows_after h out new ≡ rows_after k out new
      go true q = let l = ltb-true k (length out / 4) q in let f : h ≡ k = omega arith in ap (λ (n : ℕ). rows_after n out new) f
      go false q = let l = ltb-false k (length out / 4) q in after_none h out new (omega arith) ∙ sym (after_none k out new (omega arith))

-- a: where they end; the rows from there on are lent
module _ (k : ℕ) (out : List ℕ) (a : ℕ) (e : a ≡ 4 * min (length out / 4) k) where
  pub lent_in : (p : ℕ) → in_rows p (take a out) ≡ rows_in p k out
  lent_in p = rw e (held_in k out (min (length out / 4) k) refl p)

  pub added-part : (s : List ℕ) (us : List UnitStore) (new part : List ℕ) (n : ℕ) → new_rows s (rows_in 1 k out) us ≡ new → Puts new (take (length out - a) (drop a out)) 0 part n
      → Added s us k out (take a out ++ (part ++ drop (length out - a) (drop a out))) n
  added-part s us new part n f g =
      let l : length (drop a out) ≡ length out - a = length-drop a out in
      let p = put_all new (drop a out) part n (rw (take_all (length out - a) (drop a out) (omega arith)) at g) in
      let d : drop (length out - a) (drop a out) ≡ [] = ap (λ (m : ℕ). drop m (drop a out)) (sym l) ∙ drop-length (drop a out) in
      record { many = rw f p.many; left = rw (f, d, append-nil) (ap (λ (m : List ℕ). take a out ++ m) p.put ∙ here new) }
    where
      here : (new : List ℕ) → take a out ++ rows_put (drop a out) new ≡ rows_after k out new
      here new = ap (λ (m : ℕ). take m out ++ rows_put (drop m out) new) e ∙ after_is (min (length out / 4) k) out new ∙ after-held k out (min (length out / 4) k) refl new
