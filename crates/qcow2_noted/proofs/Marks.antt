-- Marks and their number, one entry after another. Assumes nothing.
use Rattle.std.specs.Prelude.{if◌then◌else◌}
use Prim.Native.Nat.{ℕ, ◌+◌, ◌≤◌, ◌<◌}
use native.Mathlib.Nat.{sub-zero, zero-add}
use native.Mathlib.Decide.{ℕ_discrete}
use native.Mathlib.Omega.{arith}
use mathlib.Core.Path.{◌≡◌, ◌∙◌}
use mathlib.Core.Bool.{Bool}
use mathlib.Core.List.{List}
use lib.Dec.{eqb}
use lib.ListN.{length, get_or, set}
use lib.Seq.{get_or-set_same, get_or-set_other}
use Rattle.choice.specs.Pick.{count}
use Rattle.choice.proofs.Tests.{if_elim}
use Rattle.choice.proofs.Searches.{count_turn, count_turns, count_none}
use Rattle.qcow2_noted.specs.Noting.{mark_of}

pub mark_next : (f : ℕ → ℕ) (ms : List ℕ) (i m : ℕ) → i < length ms → m ≡ f i → ((j : ℕ) → j < i → get_or ms j 0 ≡ f j)
    → (j : ℕ) → j < i + 1 → get_or (set ms i m) j 0 ≡ f j
mark_next f ms i m h e r j g = go (ℕ_discrete j i)
  where
    go : Dec (j ≡ i) → get_or (set ms i m) j 0 ≡ f j
    go (yes q) = rw q (get_or-set_same ms i m 0 h ∙ e)
    go (no q) = get_or-set_other ms i j m 0 q ∙ r j (omega arith)

pub mark_most : (e : ℕ) → mark_of e ≤ 1
mark_most e = if_elim (λ (x : ℕ). x ≤ 1) (eqb e 0) 1 0 (λ q. omega arith) (λ q. omega arith)

-- one more that is counted
pub count_next : (t : ℕ → Bool) (k missing m : ℕ) → m ≡ (if t k then 1 else 0) → missing ≡ count t 0 k → missing + m ≡ count t 0 (k + 1)
count_next t k missing m e q =
    let a = rw (sub-zero, zero-add) at (count_turns t 0 k (k + 1) (omega arith)) in
    omega (arith, a, count_turn t k (k + 1) (omega arith), count_none t (k + 1) (k + 1) (omega arith))
