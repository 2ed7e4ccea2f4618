-- A check cut into portions answers as the check done at once, for any cutting. Assumes nothing.
use Rattle.std.specs.Prelude.{if◌then◌else◌, Err, Ok, None, Some}
use Prim.Native.Nat.{ℕ, zero, suc, ◌+◌, ◌-◌, ◌*◌, ◌≤◌, ◌<◌}
use native.Mathlib.Nat.{sub-zero}
use native.Mathlib.Omega.{arith}
use mathlib.Core.Path.{◌≡◌, refl, sym, ap, ◌∙◌}
use mathlib.Core.Logic.{◌⊎◌, inl, inr}
use mathlib.Core.Bool.{Bool, true, false}
use mathlib.Core.List.{List, [], ◌∷◌, ◌++◌}
use lib.Dec.{leb, ltb, eqb}
use lib.ListN.{length, take, drop, length-append}
use borrow.Author.Tests.{ne_eqb, ltb-true, ltb-false, lt-ltb, le-ltb, leb-true}
use Rattle.choice.specs.Pick.{all}
use Rattle.choice.proofs.Tests.{two_ways, and-true}
use Rattle.tally.specs.Tally.{wide}
use Rattle.tally.proofs.Laws.{length-figures}
use Rattle.packed_twos.proofs.Laws.{length-wide}
use Rattle.qcow2_spec.specs.Header.{clusters, roots, judge}
use Rattle.qcow2_spec.specs.References.{references, most_figure, figures_of, scratch_left, scratch_counted, scratch_after as counted_scratch}
use Rattle.qcow2_spec.specs.Check.{verdict, check, checked}
use Rattle.qcow2_spec.specs.declared.Verdict.{Verdict}
use Rattle.qcow2_spec.specs.declared.Verdict.TheVariants.{Sound, Refused as RefusedCheck}
use Rattle.qcow2_portions.specs.Rows.{tables_rows, ahead, added, met, root_after, row_after, started}
use Rattle.qcow2_portions.proofs.Rows.{ahead-tables}
use Rattle.qcow2_portion.specs.State.{refused_with, waits, ends, taken_rows, verdict_taken, taken, stepped, scratch_stepped, portioned, scratch_portioned, portion, scratch_portion}
use Rattle.qcow2_portion.specs.Cutting.{state_after, scratch_after, Cut, Cutting}
use Rattle.qcow2_portion.specs.declared.CheckState.{CheckState}
use Rattle.qcow2_portion.specs.declared.CheckState.TheVariants.{New, Going, Finished}
use Rattle.qcow2_portion.specs.declared.Portion.{Portion}
use Rattle.qcow2_portion.proofs.Standing.{Stands, rows, fresh, going, over, kept, more, length-held}

-- ---- series
module _ (backing s : List ℕ) where
  scratch_snoc : (ms : List ℕ) (m : ℕ) (st : CheckState) (y : List ℕ)
      → scratch_after backing s (ms ++ m ∷ []) st y ≡ scratch_portion backing s (state_after backing s ms st y) (scratch_after backing s ms st y) m
  unfolding scratch_after state_after
  scratch_snoc [] m st y = refl
  scratch_snoc (n ∷ ms) m st y = scratch_snoc ms m _ _

  -- every portion is refused
  module _ (z : List ℕ) (k : ℕ)
      (no : (st : CheckState) (m : ℕ) → portion backing s st z m ≡ refused_with st k)
      (left : (st : CheckState) (m : ℕ) → scratch_portion backing s st z m ≡ z)
      (same : check backing s (length z) ≡ RefusedCheck k) where
    state_stays : (ms : List ℕ) (st : CheckState) → state_after backing s ms st z ≡ st
    unfolding state_after
    state_stays [] st = refl
    state_stays (m ∷ ms) st = rw (no st m, left st m) (state_stays ms st)

    scratch_stays : (ms : List ℕ) (st : CheckState) → scratch_after backing s ms st z ≡ z
    unfolding scratch_after
    scratch_stays [] st = refl
    scratch_stays (m ∷ ms) st = rw (no st m, left st m) (scratch_stays ms st)

    answer-is : (ms : List ℕ) (m : ℕ) → (portion backing s (state_after backing s ms New z) (scratch_after backing s ms New z) m).answer ≡ Err k
    answer-is ms m = rw (scratch_stays ms New, no (state_after backing s ms New z) m) refl

    all-refused : (ms : List ℕ) (m : ℕ) → Cut backing s z ms m
    all-refused ms m = record {
      told = λ v e. absurd (let a = answer-is ms m in let x : ◌≡◌ {A = ℕ} 0 1 = cc in omega arith);
      refused = λ j e. let a = answer-is ms m in let x : k ≡ j = cc in (rw x at same, scratch_stays (ms ++ m ∷ []) New);
      ended = λ a b c e. let d = answer-is ms m in let x : ◌≡◌ {A = ℕ} 0 1 = cc in omega arith;
    }

-- ---- a verdict and a finished state come together
module _ (v : Verdict) where
  abbrev Tells : Portion → Type 0
  Tells p = p.answer ≡ Ok (Some v) → p.state ≡ Finished v

  waits_tells : (st : CheckState) → Tells (waits st)
  waits_tells st e = absurd (let x : ◌≡◌ {A = ℕ} 0 1 = cc in omega arith)

  ends_tells : (w : Verdict) → Tells (ends w)
  ends_tells w e = cc

  if_tells : (b : Bool) (p q : Portion) → Tells p → Tells q → Tells (if b then p else q)
  if_tells true p q f g = f
  if_tells false p q f g = g

  taken_tells : (s : List ℕ) (t i : ℕ) (u : Verdict) (m : ℕ) (f : List ℕ) → Tells (taken s t i u m f)
  unfolding taken
  taken_tells s t i u m f =
      let rs = taken_rows s t i m in
      if_tells (ltb m (length (ahead s t i))) (waits (Going (root_after t rs) (row_after i rs) (met s rs u))) (ends (verdict_taken s t i u m f))
      (waits_tells (Going (root_after t rs) (row_after i rs) (met s rs u))) (ends_tells (verdict_taken s t i u m f))

  stepped_tells : (s : List ℕ) (st : CheckState) (y : List ℕ) (m : ℕ) → Tells (stepped s st y m)
  unfolding stepped
  stepped_tells s New y m = if_tells (eqb m 0) (waits New) (taken s 0 0 Sound m (started s)) (waits_tells New) (taken_tells s 0 0 Sound m (started s))
  stepped_tells s (Going t i u) y m =
      if_tells (eqb m 0) (waits (Going t i u)) (taken s t i u m (take (2 * clusters s) y)) (waits_tells (Going t i u)) (taken_tells s t i u m (take (2 * clusters s) y))
  stepped_tells s (Finished u) y m = ends_tells u

-- ---- no number comes once image and scratch are accepted
module _ (k : ℕ) where
  if_no : (b : Bool) (p q : Portion) → (p.answer ≡ Err k → ⊥) → (q.answer ≡ Err k → ⊥) → (if b then p else q).answer ≡ Err k → ⊥
  if_no true p q f g = f
  if_no false p q f g = g

  waits_no : (st : CheckState) → (waits st).answer ≡ Err k → ⊥
  waits_no st e = let x : ◌≡◌ {A = ℕ} 0 1 = cc in omega arith

  ends_no : (v : Verdict) → (ends v).answer ≡ Err k → ⊥
  ends_no v e = let x : ◌≡◌ {A = ℕ} 0 1 = cc in omega arith

  taken_no : (s : List ℕ) (t i : ℕ) (u : Verdict) (m : ℕ) (f : List ℕ) → (taken s t i u m f).answer ≡ Err k → ⊥
  unfolding taken
  taken_no s t i u m f =
      let rs = taken_rows s t i m in
      let g = Going (root_after t rs) (row_after i rs) (met s rs u) in
      if_no (ltb m (length (ahead s t i))) (waits g) (ends (verdict_taken s t i u m f)) (waits_no g) (ends_no (verdict_taken s t i u m f))

  stepped_no : (s : List ℕ) (st : CheckState) (y : List ℕ) (m : ℕ) → (stepped s st y m).answer ≡ Err k → ⊥
  unfolding stepped
  stepped_no s New y m = if_no (eqb m 0) (waits New) (taken s 0 0 Sound m (started s)) (waits_no New) (taken_no s 0 0 Sound m (started s))
  stepped_no s (Going t i u) y m =
      if_no (eqb m 0) (waits (Going t i u)) (taken s t i u m (take (2 * clusters s) y)) (waits_no (Going t i u)) (taken_no s t i u m (take (2 * clusters s) y))
  stepped_no s (Finished u) y m = ends_no u

-- ---- an accepted image, and room in the scratch
module _ (backing s z : List ℕ) (fine : judge backing s ≡ 0) (room : 2 * clusters s ≤ length z) where
  held-room : (n : ℕ) (st : CheckState) (y : List ℕ) → Stands s z n st y → 2 * clusters s ≤ length y
  unfolding counted_scratch figures_of
  held-room n st y (fresh a b c) = rw c room
  held-room n st y (going done rest t i v w f p h l b c) = rw c (omega (arith, length-append (added s done (started s)) (drop (2 * clusters s) z), length-held s z done))
  held-room n st y (over b c) =
      rw c (omega (arith, length-append (wide (figures_of s)) (drop (2 * clusters s) z), length-wide (figures_of s), length-figures most_figure (references s) 0 (clusters s)))

  portion-is : (st : CheckState) (y : List ℕ) (m : ℕ) → 2 * clusters s ≤ length y → portion backing s st y m ≡ stepped s st y m
  unfolding portion portioned
  portion-is st y m h = rw (fine, le-ltb (length y) (2 * clusters s) h) refl

  scratch-is : (st : CheckState) (y : List ℕ) (m : ℕ) → 2 * clusters s ≤ length y → scratch_portion backing s st y m ≡ scratch_stepped s st y m
  unfolding scratch_portion scratch_portioned
  scratch-is st y m h = rw (fine, le-ltb (length y) (2 * clusters s) h) refl

  -- how many of the portions may take entries
  several : List ℕ → ℕ → ℕ
  several [] n = n
  several (m ∷ ms) n = several ms (more m n)

  stands-all : (ms : List ℕ) (n : ℕ) (st : CheckState) (y : List ℕ) → Stands s z n st y → Stands s z (several ms n) (state_after backing s ms st y) (scratch_after backing s ms st y)
  unfolding state_after scratch_after several
  stands-all [] n st y h = h
  stands-all (m ∷ ms) n st y h =
      let r = held-room n st y h in
      rw (portion-is st y m r, scratch-is st y m r) (stands-all ms (more m n) _ _ (kept s z n st y h m))

  several_all : (ms : List ℕ) (n : ℕ) → all (leb 1) ms ≡ true → several ms n ≡ length ms + n
  unfolding several
  several_all [] n h = omega arith
  several_all (zero ∷ ms) n h = absurd (omega (arith, leb-true 1 0 (and-true (leb 1 0) (all (leb 1) ms) h).0))
  several_all (suc m ∷ ms) n h = several_all ms (suc n) (and-true (leb 1 (suc m)) (all (leb 1) ms) h).1 ∙ omega arith

  -- a finished state has the check's verdict, and its scratch
  finished : (n : ℕ) (st : CheckState) (y : List ℕ) (v : Verdict) → Stands s z n st y → st ≡ Finished v → (v ≡ verdict s) × (y ≡ counted_scratch s z)
  finished n st y v (fresh a b c) e = absurd (let x : ◌≡◌ {A = ℕ} 0 1 = cc in omega arith)
  finished n st y v (going done rest t i u w f p h l b c) e = absurd (let x : ◌≡◌ {A = ℕ} 0 1 = cc in omega arith)
  finished n st y v (over b c) e = (cc, c)

  check-is : check backing s (length z) ≡ verdict s
  unfolding check checked
  check-is = rw (fine, le-ltb (length z) (2 * clusters s) room) refl

  left_is : scratch_left backing s z ≡ counted_scratch s z
  unfolding scratch_left scratch_counted
  left_is = rw (fine, le-ltb (length z) (2 * clusters s) room) refl

  -- a portion that may take an entry where as many as there are went before is the last one, or comes after it
  not_more : (n : ℕ) (st : CheckState) (y : List ℕ) (m : ℕ) → Stands s z n st y → 1 ≤ m → length (rows s z) ≤ n → (stepped s st y m).answer ≡ (Ok None) → ⊥
  unfolding stepped taken
  not_more n st y m (fresh a b c) l h e =
      let q : ahead s 0 0 ≡ tables_rows s 0 (roots s) = ahead-tables s 0 ∙ ap (tables_rows s 0) (sub-zero (roots s)) in
      let g : ltb m (length (ahead s 0 0)) ≡ false = le-ltb m (length (ahead s 0 0)) (omega (arith, ap length q)) in
      let d = rw (b, ne_eqb m 0 (λ k. omega (arith, k)), g) at e in
      let x : ◌≡◌ {A = ℕ} 0 1 = cc in omega arith
  not_more n st y m (going done rest t i v w f p k l₀ b c) l h e = omega (arith, ap length w, length-append done rest)
  not_more n st y m (over b c) l h e = let d = rw b at e in let x : ◌≡◌ {A = ℕ} 0 1 = cc in omega arith

  cut_room : (ms : List ℕ) (m : ℕ) → Cut backing s z ms m
  cut_room ms m =
      let st = state_after backing s ms New z in
      let y = scratch_after backing s ms New z in
      let h : Stands s z (several ms 0) st y = stands-all ms 0 New z (fresh refl refl refl) in
      let r = held-room (several ms 0) st y h in
      let p = portion-is st y m r in
      let q = scratch_snoc backing s ms m New z ∙ scratch-is st y m r in
      record {
        told = λ v e.
            let a = finished (more m (several ms 0)) (stepped s st y m).state (scratch_stepped s st y m) v (kept s z (several ms 0) st y h m) (stepped_tells v s st y m (rw p at e)) in
            (a.0 ∙ sym check-is, q ∙ a.1 ∙ sym left_is);
        refused = λ k e. absurd (stepped_no k s st y m (rw p at e));
        ended = λ a l c e. not_more (several ms 0) st y m h l (omega (arith, several_all ms 0 a, c)) (rw p at e);
      }

-- ---- any image, run, scratch and cutting
pub cutting : Cutting
unfolding portion portioned scratch_portion scratch_portioned check checked
cutting backing s z ms m = go (judge backing s) refl
  where
    short : judge backing s ≡ 0 → length z < 2 * clusters s → Cut backing s z ms m
    short f l =
        let b = lt-ltb (length z) (2 * clusters s) l in
        all-refused backing s z 15 (λ st n. rw (f, b) refl) (λ st n. rw (f, b) refl) (rw (f, b) refl) ms m

    accepted : judge backing s ≡ 0 → (ltb (length z) (2 * clusters s) ≡ true) ⊎ (ltb (length z) (2 * clusters s) ≡ false) → Cut backing s z ms m
    accepted f (inl h) = short f (ltb-true (length z) (2 * clusters s) h)
    accepted f (inr h) = cut_room backing s z f (ltb-false (length z) (2 * clusters s) h) ms m

    go : (k : ℕ) → judge backing s ≡ k → Cut backing s z ms m
    go zero f = accepted f (two_ways (ltb (length z) (2 * clusters s)))
    go (suc k) f = all-refused backing s z (suc k) (λ st n. rw f refl) (λ st n. rw f refl) (rw f refl) ms m
