-- One portion of a check: the next state, the answer and the scratch, for every state. Paper 02, T-12.
-- Assumes nothing.
use Rattle.std.specs.Prelude.{ℕ, ◌*◌, List, ◌++◌, ltb, eqb, length, take, drop, if◌then◌else◌, Err, Ok, None, Some}
use Rattle.choice.specs.Pick.{unless}
use Rattle.tally.specs.States.{twos}
use Rattle.qcow2_spec.specs.Header.{clusters, judge}
use Rattle.qcow2_spec.specs.Check.{or_else}
use Rattle.qcow2_spec.specs.declared.Verdict.{Verdict}
use Rattle.qcow2_spec.specs.declared.Verdict.TheVariants.{Sound}
use Rattle.qcow2_portions.specs.Rows.{Row, ahead, added, met, root_after, row_after, started}
use Rattle.qcow2_portions.specs.Last.{last_verdict}
use Rattle.qcow2_portion.specs.declared.CheckState.{CheckState}
use Rattle.qcow2_portion.specs.declared.CheckState.TheVariants.{New, Going, Finished}
use Rattle.qcow2_portion.specs.declared.Portion.{Portion}

-- the state as it was, and a number
abbrev pub refused_with : CheckState → ℕ → Portion
refused_with st k = record { state = st; answer = Err k }

-- nothing is done, and the check is not finished
abbrev pub waits : CheckState → Portion
waits st = record { state = st; answer = (Ok None) }

-- the verdict is known
abbrev pub ends : Verdict → Portion
ends v = record { state = Finished v; answer = Ok (Some v) }

-- ---- entries are taken from index i of L1 table t on, as many as may be, where v is the first bad entry met so far and z are the figures
-- those that are taken
unfoldable pub taken_rows : List ℕ → (t i may : ℕ) → List Row
taken_rows s t i may = take may (ahead s t i)

-- the figures after them
unfoldable pub figures_taken : List ℕ → (t i may : ℕ) → List ℕ → List ℕ
figures_taken s t i may z = added s (taken_rows s t i may) z

-- the first bad entry met, or what the last portion judges
unfoldable pub verdict_taken : List ℕ → (t i : ℕ) → Verdict → (may : ℕ) → List ℕ → Verdict
verdict_taken s t i v may z = or_else (met s (taken_rows s t i may) v) (last_verdict s (twos (figures_taken s t i may z) 0 (clusters s)))

-- where some are left the check goes on after the last one taken; else this was the last portion
unfoldable pub taken : List ℕ → (t i : ℕ) → Verdict → (may : ℕ) → List ℕ → Portion
taken s t i v may z =
    let rs = taken_rows s t i may in
    if ltb may (length (ahead s t i)) then waits (Going (root_after t rs) (row_after i rs) (met s rs v)) else
    ends (verdict_taken s t i v may z)

-- ---- a portion of an accepted image, with room for its figures in the scratch
-- one that may take none, or gets a finished state, changes nothing
unfoldable pub stepped : List ℕ → CheckState → (scratch : List ℕ) → (may : ℕ) → Portion
stepped s New z may = if eqb may 0 then waits New else taken s 0 0 Sound may (started s)
stepped s (Going t i v) z may = if eqb may 0 then waits (Going t i v) else taken s t i v may (take (2 * clusters s) z)
stepped s (Finished v) z may = ends v

unfoldable pub scratch_stepped : List ℕ → CheckState → (scratch : List ℕ) → (may : ℕ) → List ℕ
scratch_stepped s New z may = if eqb may 0 then z else figures_taken s 0 0 may (started s) ++ drop (2 * clusters s) z
scratch_stepped s (Going t i v) z may = if eqb may 0 then z else figures_taken s t i may (take (2 * clusters s) z) ++ drop (2 * clusters s) z
scratch_stepped s (Finished v) z may = z

-- ---- a portion of an accepted image
unfoldable pub portioned : List ℕ → CheckState → (scratch : List ℕ) → (may : ℕ) → Portion
portioned s st z may = if ltb (length z) (2 * clusters s) then refused_with st 15 else stepped s st z may

unfoldable pub scratch_portioned : List ℕ → CheckState → (scratch : List ℕ) → (may : ℕ) → List ℕ
scratch_portioned s st z may = if ltb (length z) (2 * clusters s) then z else scratch_stepped s st z may

-- ---- a portion of any image
unfoldable pub portion : (backing s : List ℕ) → CheckState → (scratch : List ℕ) → (may : ℕ) → Portion
portion backing s st z may = unless (judge backing s) (refused_with st) (portioned s st z may)

-- the scratch that it leaves: a refused one leaves it as it was
unfoldable pub scratch_portion : (backing s : List ℕ) → CheckState → (scratch : List ℕ) → (may : ℕ) → List ℕ
scratch_portion backing s st z may = unless (judge backing s) (λ k. z) (scratch_portioned s st z may)
