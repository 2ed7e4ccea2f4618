-- Guest bytes that go on alike, as runs: all zeros by mark, all not allocated, all refused with one number, or at host offsets that
-- go on one by one. Paper 01, "Reading".
-- Assumes nothing.
use Rattle.std.specs.Prelude.{ℕ, zero, suc, ◌+◌, ◌-◌, ◌/◌, Bool, not, ◌&&◌, List, [], ◌∷◌, ◌++◌, eqb, length, if◌then◌else◌, Err, Ok, Result}
use Rattle.choice.specs.Pick.{unless, first}
use Rattle.endian.specs.Big.{splice}
use Rattle.qcow2_spec.specs.Header.{judge}
use Rattle.qcow2_spec.specs.Guest.{located, outside}
use Rattle.qcow2_spec.specs.declared.Found.{Found}
use Rattle.qcow2_spec.specs.declared.Found.TheVariants.{Host, Zeros, Absent}

-- a translation as a number: 0 with a host offset, zeros, not allocated, or its own number
abbrev pub found_code : Result Found ℕ → ℕ
found_code (Ok (Host h)) = 0
found_code (Ok Zeros) = 1002
found_code (Ok Absent) = 1003
found_code (Err k) = k

-- its host offset; 0 where it has none
abbrev pub found_host : Result Found ℕ → ℕ
found_host (Ok (Host h)) = h
found_host (Ok Zeros) = 0
found_host (Ok Absent) = 0
found_host (Err k) = 0

-- what lies i bytes on where a run goes on
abbrev pub moved : Result Found ℕ → ℕ → Result Found ℕ
moved (Ok (Host h)) i = Ok (Host (h + i))
moved (Ok Zeros) i = Ok Zeros
moved (Ok Absent) i = Ok Absent
moved (Err k) i = Err k

-- which of the four a translation is, and the number in it
abbrev pub found_kind : Result Found ℕ → ℕ
found_kind (Ok (Host h)) = 0
found_kind (Ok Zeros) = 1
found_kind (Ok Absent) = 2
found_kind (Err k) = 3

abbrev pub found_number : Result Found ℕ → ℕ
found_number (Ok (Host h)) = h
found_number (Ok Zeros) = 0
found_number (Ok Absent) = 0
found_number (Err k) = k

-- two translations are the same
unfoldable pub same_found : Result Found ℕ → Result Found ℕ → Bool
same_found a b = eqb (found_kind a) (found_kind b) && eqb (found_number a) (found_number b)

-- byte x + i goes on alike from x
unfoldable pub goes_on : List ℕ → (t x i : ℕ) → Bool
goes_on s t x i = same_found (located s t (x + i)) (moved (located s t x) i)

-- how many of the len bytes from x on go on alike
unfoldable pub run_length : List ℕ → (t x len : ℕ) → ℕ
run_length s t x len = first (λ i. not (goes_on s t x i)) 0 len

-- a run as three numbers: its kind, its host offset and its length
unfoldable pub run_row : Result Found ℕ → ℕ → List ℕ
run_row f r = found_code f ∷ found_host f ∷ r ∷ []

-- the runs of the len bytes from x on, one after the other, at most k of them
unfoldable pub run_rows : List ℕ → (t x len k : ℕ) → List ℕ
run_rows s t x len zero = []
run_rows s t x len (suc k) =
    if eqb len 0 then [] else
    run_row (located s t x) (run_length s t x len) ++ run_rows s t (x + run_length s t x len) (len - run_length s t x len) k

-- the answer once the image is accepted: 11, or how many runs were listed. A bad entry is a run of its own and no refusal
unfoldable pub runs_listed : List ℕ → (t x len k : ℕ) → Result ℕ ℕ
runs_listed s t x len k = if outside s t x len then Err 11 else Ok (length (run_rows s t x len k) / 3)

-- and what is left in the output, three numbers a run: the runs, then what was there; refused: nothing changes
unfoldable pub runs_put : List ℕ → (t x len : ℕ) → List ℕ → List ℕ
runs_put s t x len out = if outside s t x len then out else splice out 0 (run_rows s t x len (length out / 3))

-- the answer: a number, or how many runs were listed
unfoldable pub list_runs : (backing s : List ℕ) → (t x len k : ℕ) → Result ℕ ℕ
list_runs backing s t x len k = unless (judge backing s) Err (runs_listed s t x len k)

-- what a listing leaves in its output
unfoldable pub runs_into : (backing s : List ℕ) → (t x len : ℕ) → List ℕ → List ℕ
runs_into backing s t x len out = unless (judge backing s) (λ k. out) (runs_put s t x len out)
