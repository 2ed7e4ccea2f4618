-- One portion by itself: what it leaves alone, and how many entries it takes. Assumes nothing.
use Rattle.std.specs.Prelude.{if◌then◌else◌, Err, Ok, None}
use Prim.Native.Nat.{ℕ, zero, suc, ◌*◌, ◌≤◌, ◌<◌}
use native.Mathlib.Omega.{arith}
use mathlib.Core.Path.{◌≡◌, refl, sym, ap}
use mathlib.Core.Logic.{◌⊎◌, inl, inr}
use mathlib.Core.Bool.{true, false}
use mathlib.Core.List.{List, [], ◌∷◌}
use lib.Dec.{ltb}
use lib.ListN.{length, take, drop, length-drop}
use lib.Seq.{drop-nil}
use borrow.Author.Tests.{ne_eqb, ltb-true, ltb-false}
use Rattle.choice.proofs.Tests.{two_ways}
use Rattle.qcow2_spec.specs.Header.{clusters, judge}
use Rattle.qcow2_spec.specs.Check.{check, checked}
use Rattle.qcow2_spec.specs.declared.Verdict.{Verdict}
use Rattle.qcow2_spec.specs.declared.Verdict.TheVariants.{Sound, Refused as RefusedCheck}
use Rattle.qcow2_portions.specs.Rows.{Row, ahead, met, root_after, row_after, started}
use Rattle.qcow2_portions.proofs.Rows.{ahead_after}
use Rattle.qcow2_portion.specs.State.{refused_with, waits, ends, taken_rows, verdict_taken, taken, stepped, scratch_stepped, portioned, scratch_portioned, portion, scratch_portion}
use Rattle.qcow2_portion.specs.Single.{waiting, Untouched, One, Single}
use Rattle.qcow2_portion.specs.declared.CheckState.{CheckState}
use Rattle.qcow2_portion.specs.declared.CheckState.TheVariants.{New, Going, Finished}
use Rattle.qcow2_portion.specs.declared.Portion.{Portion}

none_left : (m : ℕ) (l : List Row) → length l ≤ m → drop m l ≡ []
none_left m [] h = drop-nil m
none_left zero (r ∷ l) h = absurd (omega arith)
none_left (suc m) (r ∷ l) h = none_left m l (omega arith)

-- ---- what a portion of an accepted image with room in the scratch leaves
module _ (s : List ℕ) where
  -- entries are taken: the others wait
  record Takes (rows : List Row) (m : ℕ) (p : Portion) : Type 0 where
    left : waiting s p.state ≡ drop m rows
    some : 1 ≤ m → p.answer ≡ (Ok None) → 0 < length (waiting s p.state)
    numberless : (k : ℕ) → p.answer ≡ Err k → ⊥

  waits-takes : (st : CheckState) → Takes (waiting s st) 0 (waits st)
  waits-takes st = record { left = refl; some = λ l e. absurd (omega arith); numberless = λ k e. let x : ◌≡◌ {A = ℕ} 0 1 = cc in omega arith }

  ends-takes : (rows : List Row) (m : ℕ) (v : Verdict) → length rows ≤ m → Takes rows m (ends v)
  unfolding waiting
  ends-takes rows m v h = record {
    left = sym (none_left m rows h);
    some = λ l e. absurd (let x : ◌≡◌ {A = ℕ} 0 1 = cc in omega arith);
    numberless = λ k e. let x : ◌≡◌ {A = ℕ} 0 1 = cc in omega arith;
  }

  taken-takes : (t i : ℕ) (v : Verdict) (m : ℕ) (z : List ℕ) → Takes (ahead s t i) m (taken s t i v m z)
  unfolding taken taken_rows waiting
  taken-takes t i v m z = go (two_ways (ltb m (length (ahead s t i))))
    where
      go : (ltb m (length (ahead s t i)) ≡ true) ⊎ (ltb m (length (ahead s t i)) ≡ false)
          → Takes (ahead s t i) m
          (if ltb m (length (ahead s t i)) then waits (Going (root_after t (take m (ahead s t i))) (row_after i (take m (ahead s t i))) (met s (take m (ahead s t i)) v)) else ends (verdict_taken s t i v m z))
      go (inl h) =
          let e = ahead_after s m t i (ahead s t i) refl in
          rw h record {
            left = e;
            some = λ l q. omega (arith, ap length e, length-drop m (ahead s t i), ltb-true m (length (ahead s t i)) h);
            numberless = λ k q. let x : ◌≡◌ {A = ℕ} 0 1 = cc in omega arith;
          }
      go (inr h) = rw h (ends-takes (ahead s t i) m (verdict_taken s t i v m z) (ltb-false m (length (ahead s t i)) h))

  stepped-takes : (st : CheckState) (z : List ℕ) (m : ℕ) → Takes (waiting s st) m (stepped s st z m)
  unfolding stepped waiting
  stepped-takes New z zero = waits-takes New
  stepped-takes New z (suc m) = rw (ne_eqb (suc m) 0 (λ e. omega (arith, e))) (taken-takes 0 0 Sound (suc m) (started s))
  stepped-takes (Going t i v) z zero = waits-takes (Going t i v)
  stepped-takes (Going t i v) z (suc m) = rw (ne_eqb (suc m) 0 (λ e. omega (arith, e))) (taken-takes t i v (suc m) (take (2 * clusters s) z))
  stepped-takes (Finished v) z m = ends-takes [] m v (omega arith)

  -- none is taken
  stepped-none : (st : CheckState) (z : List ℕ) → ((stepped s st z 0).state ≡ st) × (scratch_stepped s st z 0 ≡ z)
  unfolding stepped scratch_stepped
  stepped-none New z = (refl, refl)
  stepped-none (Going t i v) z = (refl, refl)
  stepped-none (Finished v) z = (refl, refl)

-- ---- any image, state, run and scratch
module _ (backing s : List ℕ) (st : CheckState) (z : List ℕ) (m : ℕ) where
  -- it is refused
  one-refused : (k : ℕ) → portion backing s st z m ≡ refused_with st k → scratch_portion backing s st z m ≡ z → check backing s (length z) ≡ RefusedCheck k
      → (judge backing s ≡ 0 → 2 * clusters s ≤ length z → ⊥) → One backing s st z m
  one-refused k e f g out =
      let u : Untouched backing s st z m = (ap (λ (p : Portion). p.state) e, f) in
      let a : (portion backing s st z m).answer ≡ Err k = ap (λ (p : Portion). p.answer) e in
      record {
        refused = λ j q. let x : k ≡ j = cc in (rw x at g, u);
        none = λ h. u;
        finished = λ v h. u;
        again = λ v a b h. absurd (out a b);
        takes = λ a b. absurd (out a b);
        more = λ l q. absurd (let x : ◌≡◌ {A = ℕ} 0 1 = cc in omega arith);
      }

  one-accepted : portion backing s st z m ≡ stepped s st z m → scratch_portion backing s st z m ≡ scratch_stepped s st z m → One backing s st z m
  unfolding stepped scratch_stepped
  one-accepted e f =
      let t = stepped-takes s st z m in
      record {
        refused = λ k q. absurd (t.numberless k (rw e at q));
        none = λ h. rw (e, f, h) (stepped-none s st z);
        finished = λ v h. rw (e, f, h) (refl, refl);
        again = λ v a b h. rw (e, h) refl;
        takes = λ a b. rw e t.left;
        more = λ l q. rw e (t.some l (rw e at q));
      }

pub single : Single
unfolding portion portioned scratch_portion scratch_portioned check checked
single backing s st z m = go (judge backing s) refl
  where
    room : judge backing s ≡ 0 → (ltb (length z) (2 * clusters s) ≡ true) ⊎ (ltb (length z) (2 * clusters s) ≡ false) → One backing s st z m
    room f (inl h) = one-refused backing s st z m 15 (rw (f, h) refl) (rw (f, h) refl) (rw (f, h) refl) (λ a b. omega (arith, b, ltb-true (length z) (2 * clusters s) h))
    room f (inr h) = one-accepted backing s st z m (rw (f, h) refl) (rw (f, h) refl)

    go : (k : ℕ) → judge backing s ≡ k → One backing s st z m
    go zero f = room f (two_ways (ltb (length z) (2 * clusters s)))
    go (suc k) f = one-refused backing s st z m (suc k) (rw f refl) (rw f refl) (rw f refl) (λ a b. omega (arith, a, f))
