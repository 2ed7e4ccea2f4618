-- A walk over entries: what is visited, and how many pass at the front.
-- Assumes nothing.
use Rattle.std.specs.Prelude.{◌≡◌, ℕ, suc, ◌+◌, ◌-◌, ◌*◌, ◌/◌, ◌^◌, ◌≤◌, Bool, not, ◌&&◌, List, [], ◌∷◌, length, drop, ◌==◌, if◌then◌else◌}
use Rattle.endian.specs.Big.{entries}
use Rattle.tally.specs.Tally.{joined}
use Rattle.tally.specs.States.{visit_all}
use Rattle.qcow2_spec.specs.Header.{most_bits, most_length}
use Rattle.qcow2_spec.specs.Entries.{common, good_l2}
use Rattle.qcow2_spec.specs.References.{l2_refs}

-- the scratch has two bytes for each cluster of an image of n bytes
pub record Room (scratch : List ℕ) (bits n : ℕ) : Type 0 where
  pub low : 9 ≤ bits
  pub high : bits ≤ most_bits
  pub some : 1 ≤ n
  pub small : n ≤ most_length
  pub clusters : ℕ
  pub holds : length scratch ≡ 2 * clusters
  pub fits : n ≡ clusters * 2 ^ bits

-- an L2 entry passes a walk of some kind: it is good and, where references are counted alone (kind 0), no place of it is common
unfoldable pub passes : (kind version C n e : ℕ) → Bool
passes kind v C n e = good_l2 v C n e && not (kind == 0 && common e)

-- how many entries at the front of a list pass the test
unfoldable pub fore : (ℕ → Bool) → List ℕ → ℕ
fore p [] = 0
fore p (e ∷ es) = if p e then suc (fore p es) else 0

-- how many pass at the front in all, where j are behind, r of them at the front pass, and es are left
unfoldable pub fronted : (ℕ → Bool) → (r j : ℕ) → List ℕ → ℕ
fronted p r j es = if r == j then j + fore p es else r

-- a walk of some kind from one state to another: the entries left, the scratch, how many passed at the front, how many are behind
pub record Walking (kind : ℕ) (f : ℕ → List ℕ) (p : ℕ → Bool) (es₀ s₀ : List ℕ) (r₀ j₀ : ℕ) (es s : List ℕ) (r j : ℕ) : Type 0 where
  pub counted : visit_all kind (joined f es) s ≡ visit_all kind (joined f es₀) s₀
  pub tested : fronted p r j es ≡ fronted p r₀ j₀ es₀

-- what such a walk holds at its end
pub record Passed (kind : ℕ) (f : ℕ → List ℕ) (p : ℕ → Bool) (es before after : List ℕ) (r : ℕ) : Type 0 where
  pub tested : r ≡ fore p es
  pub counted : after ≡ visit_all kind (joined f es) before

-- the entries of a table that is lent whole, and those from index j on
abbrev pub whole : List ℕ → List ℕ
whole t = entries (length t / 8) t

abbrev pub on_from : ℕ → List ℕ → List ℕ
on_from j t = entries (length t / 8 - j) (drop (8 * j) t)

-- a walk over the entries i to j of an L2 table, all of which passed
abbrev pub AllGood : (kind v bits n : ℕ) (t : List ℕ) (i : ℕ) (before : List ℕ) (j : ℕ) (after : List ℕ) → Type 0
AllGood kind v bits n t i before j after =
    Walking kind (l2_refs v (2 ^ bits) n) (passes kind v (2 ^ bits) n) (on_from i t) before i i (on_from j t) after j j
