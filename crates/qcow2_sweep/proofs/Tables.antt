-- Laws of groups of entries of an L2 table and of what they refer to.
-- Assumes nothing.
use Rattle.std.proofs.Common.{◌≡◌, ℕ, zero, suc, ◌+◌, ◌-◌, ◌*◌, ◌<◌, ◌≤◌, Bool, true, false, ◌&&◌, eqb, List, [], ◌∷◌, ◌++◌, length, take, drop, sym, refl, ap, ◌∙◌, append_assoc, zero-add, arith, length-drop, drop-drop, eq-eqb, ne_eqb, eqb-true, if◌then◌else◌}
use mathlib.Core.Bool.{and_assoc, and-true}
use borrow.Author.Tests.{eqb-false}
use Rattle.choice.specs.Pick.{all}
use Rattle.choice.proofs.Tests.{and-true as all_true}
use Rattle.endian.specs.Big.{be64, entries}
use Rattle.endian.proofs.Entries.{length-entries, entries_turn, entries_none}
use Rattle.blank.proofs.Zeros.{is_zero, entries-zeros}
use Rattle.tally.specs.Tally.{joined}
use Rattle.window.specs.Window.{Board, visit_all_in}
use Rattle.window.proofs.Steps.{visit_all_in_append, visit_all_in-none}
use Rattle.qcow2_spec.specs.References.{l2_refs}
use Rattle.qcow2_groups.specs.Walks.{fore, fronted}
use Rattle.qcow2_groups.proofs.Fores.{fore-most}
use Rattle.qcow2_sweep.specs.Sweeps.{passes_by, group}
use Rattle.qcow2_sweep.proofs.Entries.{zero-passes, zero_refs}

-- ---- entry by entry, of those from i up to end
pub group-first : (i : ℕ) (t : List ℕ) → entries (i + 64 - i) (drop (8 * i) t) ≡ group t i
group-first i t = let e : i + 64 - i ≡ 64 = omega arith in rw e

module _ (p : ℕ → Bool) (k j : ℕ) (t : List ℕ) where
  pub all_turn : (a g : Bool) → j < k → g ≡ p (be64 t (8 * j))
      → ((a && g) && all p (entries (k - (j + 1)) (drop (8 * (j + 1)) t))) ≡ (a && all p (entries (k - j) (drop (8 * j) t)))
  all_turn a g h e = rw (entries_turn k j t h, e) (and_assoc a (p (be64 t (8 * j))) _)

  pub all_end : (a : Bool) → k ≤ j → (a && all p (entries (k - j) (drop (8 * j) t))) ≡ a
  all_end a h = rw (entries_none k j t h) (and-true a)

-- ---- fronts
pub fore-full : (p : ℕ → Bool) (es : List ℕ) → all p es ≡ true → fore p es ≡ length es
unfolding fore
fore-full p [] h = refl
fore-full p (e ∷ es) h = let a = all_true (p e) (all p es) h in rw (a.0, fore-full p es a.1)

-- entries of a group, and those behind it
fore_append : (p : ℕ → Bool) (a b : List ℕ) → fore p (a ++ b) ≡ (if eqb (fore p a) (length a) then length a + fore p b else fore p a)
unfolding fore
fore_append p [] b = sym (zero-add (fore p b))
fore_append p (e ∷ a) b = go (p e) (fore_append p a b)
  where
    more : (t : Bool) → eqb (fore p a) (length a) ≡ t → suc (if t then length a + fore p b else fore p a) ≡ (if eqb (suc (fore p a)) (suc (length a)) then suc (length a) + fore p b else suc (fore p a))
    more true q = rw (eq-eqb (suc (fore p a)) (suc (length a)) (ap suc (eqb-true _ _ q))) (omega arith)
    more false q = let c = eqb-false (fore p a) (length a) q in rw (ne_eqb (suc (fore p a)) (suc (length a)) (λ z. c (omega arith)))

    go : (t : Bool) → fore p (a ++ b) ≡ (if eqb (fore p a) (length a) then length a + fore p b else fore p a)
        → (if t then suc (fore p (a ++ b)) else 0) ≡ (if eqb (if t then suc (fore p a) else 0) (suc (length a)) then suc (length a) + fore p b else if t then suc (fore p a) else 0)
    go true r = ap suc r ∙ more (eqb (fore p a) (length a)) refl
    go false r = rw (ne_eqb 0 (suc (length a)) (λ z. omega arith))

-- a group more, behind j entries of which r pass at the front
pub group-front : (p : ℕ → Bool) (r r' j k : ℕ) (a b : List ℕ) → r ≤ j → length a ≡ k → r' ≡ (if eqb r j then j + fore p a else r)
    → (fronted p r' (j + k) b ≡ fronted p r j (a ++ b)) × (r' ≤ j + k)
unfolding fronted
group-front p r r' j k a b h l g = go (eqb r j) refl
  where
    F : ℕ
    F = fore p a

    whole_or : (u : Bool) → eqb F (length a) ≡ u → r' ≡ j + F → (if eqb r' (j + k) then j + k + fore p b else r') ≡ j + (if u then length a + fore p b else F)
    whole_or true q d = let z : F ≡ length a = eqb-true _ _ q in rw (eq-eqb r' (j + k) (omega arith)) (omega arith)
    whole_or false q d = let z : F ≡ length a → ⊥ = eqb-false _ _ q in rw (ne_eqb r' (j + k) (λ y. z (omega arith))) d

    go : (t : Bool) → eqb r j ≡ t → ((if eqb r' (j + k) then j + k + fore p b else r') ≡ (if t then j + fore p (a ++ b) else r)) × (r' ≤ j + k)
    go true q =
        let d : r' ≡ j + F = g ∙ rw q in
        (whole_or (eqb F (length a)) refl d ∙ rw (fore_append p a b), omega (arith, fore-most p a))
    go false q =
        let d : r' ≡ r = g ∙ rw q in
        let c : r ≡ j → ⊥ = eqb-false r j q in
        (rw (ne_eqb r' (j + k) (λ z. c (omega arith))) d, omega arith)

-- ---- groups of a table
entries_append : (a b : ℕ) (t : List ℕ) → entries (a + b) t ≡ entries a t ++ entries b (drop (8 * a) t)
unfolding entries
entries_append zero b t = rw zero-add
entries_append (suc a) b t =
    let e : suc a + b ≡ suc (a + b) = omega arith in
    let d : 8 * suc a ≡ 8 + 8 * a = omega arith in
    rw (e, d, ← drop-drop (8 * a) 8 t) (ap (λ (l : List ℕ). be64 t 0 ∷ l) (entries_append a b (drop 8 t)))

joined_append : (f : ℕ → List ℕ) (a b : List ℕ) → joined f (a ++ b) ≡ joined f a ++ joined f b
joined_append f [] b = refl
joined_append f (x ∷ a) b = rw (joined_append f a b) (sym (append_assoc (f x) (joined f a) (joined f b)))

module _ (k j : ℕ) (t : List ℕ) (h : j + 64 ≤ k) where
  group-rest : entries (k - j) (drop (8 * j) t) ≡ group t j ++ entries (k - (j + 64)) (drop (8 * (j + 64)) t)
  group-rest =
      let e : k - j ≡ 64 + (k - (j + 64)) = omega arith in
      let d : 8 * (j + 64) ≡ 8 * j + 8 * 64 = omega arith in
      rw (e, d, ← drop-drop (8 * 64) (8 * j) t) (entries_append 64 (k - (j + 64)) (drop (8 * j) t))

  pub group_visits : (kind b : ℕ) (f : ℕ → List ℕ) (w : Board)
      → visit_all_in kind b (joined f (entries (k - j) (drop (8 * j) t))) w
      ≡ visit_all_in kind b (joined f (entries (k - (j + 64)) (drop (8 * (j + 64)) t))) (visit_all_in kind b (joined f (group t j)) w)
  group_visits kind b f w =
      let r : List ℕ = entries (k - (j + 64)) (drop (8 * (j + 64)) t) in
      rw (group-rest, joined_append f (group t j) r) (visit_all_in_append kind b (joined f (group t j)) (joined f r) w)

  pub group-fronted : (p : ℕ → Bool) (r r' : ℕ) → r ≤ j → r' ≡ (if eqb r j then j + fore p (group t j) else r)
      → (fronted p r' (j + 64) (entries (k - (j + 64)) (drop (8 * (j + 64)) t)) ≡ fronted p r j (entries (k - j) (drop (8 * j) t))) × (r' ≤ j + 64)
  group-fronted p r r' l e = rw group-rest (group-front p r r' j 64 (group t j) _ l (length-entries 64 (drop (8 * j) t)) e)

-- at the end of a table, and at its beginning
module _ (p : ℕ → Bool) where
  pub fronted_end : (r k j : ℕ) (t : List ℕ) → k ≤ j → fronted p r j (entries (k - j) (drop (8 * j) t)) ≡ r
  unfolding fronted fore
  fronted_end r k j t h = rw (entries_none k j t h) (go (eqb r j) refl)
    where
      go : (u : Bool) → eqb r j ≡ u → (if u then j + 0 else r) ≡ r
      go true q = let c : r ≡ j = eqb-true r j q in omega arith
      go false q = refl

  pub fronted-first : (es : List ℕ) → fronted p 0 0 es ≡ fore p es
  unfolding fronted
  fronted-first es = zero-add (fore p es)

-- ---- zeros
module _ (kind v C n : ℕ) where
  zeros_pass : (es : List ℕ) → all is_zero es ≡ true → (all (passes_by kind v C n) es ≡ true) × (joined (l2_refs v C n) es ≡ [])
  zeros_pass [] h = (refl, refl)
  zeros_pass (e ∷ es) h =
      let a = all_true (is_zero e) (all is_zero es) h in
      let z : e ≡ 0 = eqb-true e 0 a.0 in
      let r = zeros_pass es a.1 in
      (rw (z, zero-passes kind v C n, r.0), rw (z, zero_refs v C n, r.1))

  pub group-zeros : (t : List ℕ) (i : ℕ) → 8 * i + 512 ≤ length t → all is_zero (take 512 (drop (8 * i) t)) ≡ true
      → (true ≡ all (passes_by kind v C n) (group t i)) × ((b : ℕ) (w : Board) → w ≡ visit_all_in kind b (joined (l2_refs v C n) (group t i)) w)
  group-zeros t i h z =
      let a : all is_zero (group t i) ≡ true = sym (entries-zeros 64 (drop (8 * i) t) (simp length-drop (omega arith))) ∙ z in
      let r = zeros_pass (group t i) a in
      (sym r.0, λ b w. rw r.1 (visit_all_in-none kind b w))
