-- One portion by itself, of any state, image, run and scratch: what it leaves alone, and how many entries it takes. Paper 02, T-12.
-- Assumes nothing.
use Rattle.std.specs.Prelude.{ℕ, ◌*◌, ◌≤◌, ◌<◌, ◌≡◌, List, [], length, drop, Err, Ok, None, Some}
use Rattle.qcow2_spec.specs.Header.{clusters, judge}
use Rattle.qcow2_spec.specs.Check.{check}
use Rattle.qcow2_spec.specs.declared.Verdict.{Verdict}
use Rattle.qcow2_spec.specs.declared.Verdict.TheVariants.{Refused as RefusedCheck}
use Rattle.qcow2_portions.specs.Rows.{Row, ahead}
use Rattle.qcow2_portion.specs.State.{portion, scratch_portion}
use Rattle.qcow2_portion.specs.declared.CheckState.{CheckState}
use Rattle.qcow2_portion.specs.declared.CheckState.TheVariants.{New, Going, Finished}

-- the entries that a state has ahead of it
unfoldable pub waiting : List ℕ → CheckState → List Row
waiting s New = ahead s 0 0
waiting s (Going t i v) = ahead s t i
waiting s (Finished v) = []

-- state and scratch come back as they were
abbrev pub Untouched : (backing s : List ℕ) → CheckState → (scratch : List ℕ) → (may : ℕ) → Type 0
Untouched backing s st z m = ((portion backing s st z m).state ≡ st) × (scratch_portion backing s st z m ≡ z)

pub record One (backing s : List ℕ) (st : CheckState) (z : List ℕ) (m : ℕ) : Type 0 where
  -- a refused portion changes nothing, and its number is the check's
  pub refused : (k : ℕ) → (portion backing s st z m).answer ≡ Err k → (check backing s (length z) ≡ RefusedCheck k) × Untouched backing s st z m
  -- one that may take none changes nothing
  pub none : m ≡ 0 → Untouched backing s st z m
  -- nor does one that gets a finished state, which answers as before
  pub finished : (v : Verdict) → st ≡ Finished v → Untouched backing s st z m
  pub again : (v : Verdict) → judge backing s ≡ 0 → 2 * clusters s ≤ length z → st ≡ Finished v → (portion backing s st z m).answer ≡ Ok (Some v)
  -- one that is accepted takes as many entries as it may while some are left
  pub takes : judge backing s ≡ 0 → 2 * clusters s ≤ length z → waiting s (portion backing s st z m).state ≡ drop m (waiting s st)
  -- and where none is left the check is finished
  pub more : 1 ≤ m → (portion backing s st z m).answer ≡ (Ok None) → 0 < length (waiting s (portion backing s st z m).state)

abbrev pub Single : Type 0
Single = (backing s : List ℕ) (st : CheckState) (z : List ℕ) (m : ℕ) → One backing s st z m
