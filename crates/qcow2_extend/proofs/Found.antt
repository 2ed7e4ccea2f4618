-- The blocks that are to be made, by what was noted of them. Assumes nothing.
use Rattle.std.specs.Prelude.{if◌then◌else◌, Result}
use Prim.Native.Nat.{ℕ, ◌+◌, ◌-◌, ◌*◌, ◌/◌, ◌≤◌, ◌<◌}
use native.Mathlib.Nat.{mul-le-mul_right, zero-add, div-lt_iff_lt-mul}
use native.Mathlib.Omega.{arith}
use mathlib.Core.Path.{◌≡◌, refl, sym, ◌∙◌}
use mathlib.Core.Logic.{◌⊎◌, inl, inr}
use mathlib.Core.Bool.{Bool, true, false}
use mathlib.Core.List.{List, [], ◌∷◌, ◌++◌, append-nil}
use lib.Dec.{eqb}
use lib.ListN.{length, take, length-append}
use borrow.Author.Tests.{lt-leb}
use Rattle.choice.specs.Pick.{count}
use Rattle.choice.proofs.Searches.{count_same, count_most}
use Rattle.endian.specs.Big.{be64}
use Rattle.units.specs.Units.{UnitStore}
use Rattle.units.specs.Plan.{units, plan_units, ended, outcome, after, Done}
use Rattle.units.specs.declared.Ended.{Ended}
use Rattle.units.proofs.Laws.{take_append}
use Rattle.qcow2_noted.specs.declared.Notes.{Notes}
use Rattle.qcow2_noted.specs.Noting.{unmade, mark_of}
use Rattle.qcow2_extend.specs.declared.making.Layout.{Layout}
use Rattle.qcow2_extend.specs.Making.{made_where, marked, NotedFrom}
use Rattle.qcow2_extend.proofs.Makes.{length-made, made-same, made_split}

-- more units change nothing where the first are all there are, or more than the allowance
pub done_more : (us vs : List UnitStore) (a : ℕ) (s t : List ℕ) (r : Result Ended ℕ) → (vs ≡ []) ⊎ (a < length us) → Done (units us) a s r t → Done (units (us ++ vs)) a s r t
unfolding outcome ended after plan_units
done_more us vs a s t r (inl e) d = rw (e, append-nil) d
done_more us vs a s t r (inr l) d =
    let z : a - length us ≡ 0 = omega arith in
    let k : take a (us ++ vs) ≡ take a us = take_append a us vs ∙ rw z (append-nil (take a us)) in
    let n : a < length (us ++ vs) = rw length-append (omega arith) in
    record { answer = d.answer ∙ rw (lt-leb _ a l, lt-leb _ a n); left = d.left ∙ rw k }

module _ (p : Layout) (s : List ℕ) (start a : ℕ) (ms : List ℕ) (n : Notes) (w : NotedFrom s p start a ms n) (low : start ≤ p.blocks) where
  -- entry i by its place among those noted
  place : (i j : ℕ) → j ≡ start + i → p.table + 8 * start + 8 * i ≡ p.table + 8 * j
  place i j e = omega arith

  -- ---- those that were seen
  pub seen_units : made_where p (marked start ms) start (start + n.seen - start) ≡ made_where p (unmade s p.table) start n.seen
  seen_units =
      let e : start + n.seen - start ≡ n.seen = omega arith in
      rw e (made-same p (marked start ms) (unmade s p.table) start n.seen (λ j l m. same j l m))
    where
      told : (e : ℕ) → eqb (mark_of e) 1 ≡ eqb e 0
      told e = go (eqb e 0)
        where
          go : (b : Bool) → eqb (if b then 1 else 0) 1 ≡ b
          go true = refl
          go false = refl

      same : (j : ℕ) → start ≤ j → j < start + n.seen → marked start ms j ≡ unmade s p.table j
      same j l m =
          rw (w.marks_are (j - start) (omega arith), told (be64 s (p.table + 8 * start + 8 * (j - start))), place (j - start) j (omega arith))

  seen_many : n.missing ≡ count (unmade s p.table) start n.seen
  seen_many =
      w.many
      ∙ count_same (unmade s (p.table + 8 * start)) (unmade s p.table) 0 start n.seen (λ x l. rw (zero-add, place x (start + x) refl))

  -- as many units as blocks noted, each with its entry
  module _ (own : p.own < p.size) where
    pub seen_length : length (made_where p (unmade s p.table) start n.seen) ≡ n.missing * (p.size + 1)
    seen_length = rw seen_many (length-made p own (unmade s p.table) start n.seen)

    pub seen_few : n.missing ≤ p.blocks
    seen_few = omega (arith, seen_many, count_most (unmade s p.table) start n.seen, w.within)

    -- ---- all of them
    abbrev later : List UnitStore
    later = made_where p (unmade s p.table) (start + n.seen) (p.blocks - start - n.seen)

    all-units : made_where p (unmade s p.table) start n.seen ++ later ≡ made_where p (unmade s p.table) start (p.blocks - start)
    all-units =
        let e : n.seen + (p.blocks - start - n.seen) ≡ p.blocks - start = omega (arith, w.within) in
        rw e at (sym (made_split p (unmade s p.table) start n.seen (p.blocks - start - n.seen)))

    -- the later ones are none, or past the allowance
    later_none : (later ≡ []) ⊎ (a < n.missing * (p.size + 1))
    unfolding made_where
    later_none = go w.enough
      where
        go : (n.seen ≡ p.blocks - start) ⊎ (a / (p.size + 1) < n.missing) → (later ≡ []) ⊎ (a < n.missing * (p.size + 1))
        go (inl e) = inl (let z : p.blocks - start - n.seen ≡ 0 = omega arith in rw z)
        go (inr l) = inr (let pos : 0 < p.size + 1 = omega arith in (div-lt_iff_lt-mul pos).0 l)

    -- what storing those that were seen does within what is left of the allowance
    pub done_all : (b : ℕ) (v t : List ℕ) (r : Result Ended ℕ) → b ≤ a → Done (units (made_where p (unmade s p.table) start n.seen)) b v r t
        → Done (units (made_where p (unmade s p.table) start (p.blocks - start))) b v r t
    done_all b v t r h d = rw (← all-units) (done_more _ later b v t r (go later_none) d)
      where
        go : (later ≡ []) ⊎ (a < n.missing * (p.size + 1)) → (later ≡ []) ⊎ (b < length (made_where p (unmade s p.table) start n.seen))
        go (inl e) = inl e
        go (inr l) = inr (rw seen_length (omega arith))

    pub all-some : 1 ≤ n.missing → 0 < length (made_where p (unmade s p.table) start (p.blocks - start))
    all-some g = rw (← all-units, length-append, seen_length) (omega (arith, mul-le-mul_right (p.size + 1) g))

    pub all_none : n.missing ≡ 0 → made_where p (unmade s p.table) start (p.blocks - start) ≡ []
    all_none e = sym all-units ∙ go later_none
      where
        empty : (us : List UnitStore) → length us ≡ 0 → us ≡ []
        empty [] q = refl
        empty (u ∷ us) q = absurd (omega arith)

        go : (later ≡ []) ⊎ (a < n.missing * (p.size + 1)) → made_where p (unmade s p.table) start n.seen ++ later ≡ []
        go (inl z) = rw (z, append-nil) (empty _ (seen_length ∙ rw e (omega arith)))
        go (inr l) = absurd (let z : n.missing * (p.size + 1) ≡ 0 = rw e (omega arith) in omega arith)
