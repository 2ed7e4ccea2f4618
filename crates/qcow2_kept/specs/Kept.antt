-- The state of a check as bytes that a caller keeps, any bytes: seven big-endian numbers of 8 bytes; and a portion's answer as numbers for C.
-- Assumes nothing.
use Rattle.std.specs.Prelude.{ℕ, ◌%◌, ◌^◌, ◌<◌, ◌≡◌, Bool, true, false, ◌||◌, List, ◌++◌, eqb, if◌then◌else◌, Err, Ok, Result, is_err, None, Option, Some}
use Rattle.endian.specs.Big.{be64, bytes64}
use Rattle.qcow2_spec.specs.declared.Verdict.{Verdict}
use Rattle.qcow2_spec.specs.declared.Verdict.TheVariants.{Sound, Leaks, BadL1, BadL2, Shared, Short, MarkL1, MarkL2, Refused as NotChecked}
use Rattle.qcow2_portion.specs.declared.CheckState.{CheckState}
use Rattle.qcow2_portion.specs.declared.CheckState.TheVariants.{New, Going, Finished}
use Rattle.qcow2_portion.specs.declared.Portion.{Portion}
use Rattle.qcow2_portion.specs.State.{portion}
use Rattle.qcow2_codes.specs.Codes.{verdict_code, verdict_first, verdict_second, verdict_third}
use Rattle.qcow2_kept.specs.declared.Numbers.{Numbers}

-- a verdict as four numbers: its kind, and what it names
abbrev pub four : (kind a b c : ℕ) → Numbers
four kind a b c = record { kind = kind; a = a; b = b; c = c }

abbrev pub numbers_of : Verdict → Numbers
numbers_of Sound = four 0 0 0 0
numbers_of (Leaks n) = four 1 n 0 0
numbers_of (BadL1 t i) = four 2 t i 0
numbers_of (BadL2 t i j) = four 3 t i j
numbers_of (Shared k) = four 4 k 0 0
numbers_of (Short k) = four 5 k 0 0
numbers_of (MarkL1 i) = four 6 i 0 0
numbers_of (MarkL2 i j) = four 7 i j 0
numbers_of (NotChecked k) = four 8 k 0 0

-- the verdict of any four numbers
unfoldable pub verdict_of : Numbers → Verdict
verdict_of n =
    if eqb n.kind 0 then Sound else
    if eqb n.kind 1 then Leaks n.a else
    if eqb n.kind 2 then BadL1 n.a n.b else
    if eqb n.kind 3 then BadL2 n.a n.b n.c else
    if eqb n.kind 4 then Shared n.a else
    if eqb n.kind 5 then Short n.a else
    if eqb n.kind 6 then MarkL1 n.a else
    if eqb n.kind 7 then MarkL2 n.a n.b else
    NotChecked (n.a % 256)

-- the last four of the seven numbers
abbrev pub numbers_at : List ℕ → Numbers
numbers_at l = four (be64 l 24) (be64 l 32) (be64 l 40) (be64 l 48)

-- the state that any bytes hold: a new one where the first number is 0
unfoldable pub state_of : List ℕ → CheckState
state_of l =
    if eqb (be64 l 0) 0 then New else
    if eqb (be64 l 0) 1 then Going (be64 l 8) (be64 l 16) (verdict_of (numbers_at l)) else
    Finished (verdict_of (numbers_at l))

-- the bytes of seven numbers
unfoldable pub seven_bytes : (stage root row : ℕ) → Numbers → List ℕ
seven_bytes stage root row n =
    (bytes64 stage ++ bytes64 root ++ bytes64 row) ++ (bytes64 n.kind ++ bytes64 n.a ++ bytes64 n.b ++ bytes64 n.c)

-- the bytes of a state
unfoldable pub state_bytes : CheckState → List ℕ
state_bytes New = seven_bytes 0 0 0 (four 0 0 0 0)
state_bytes (Going t i v) = seven_bytes 1 t i (numbers_of v)
state_bytes (Finished v) = seven_bytes 2 0 0 (numbers_of v)

-- the check is finished
abbrev pub is_finished : CheckState → Bool
is_finished New = false
is_finished (Going t i v) = false
is_finished (Finished v) = true

-- the answer is a number
abbrev pub is_refused : Result (Option Verdict) ℕ → Bool
is_refused r = is_err r

-- the bytes after a portion: only one that was accepted, may take entries and gets an unfinished state changes them
unfoldable pub kept_after : List ℕ → CheckState → (may : ℕ) → Portion → List ℕ
kept_after l st may p = if is_refused p.answer || (eqb may 0 || is_finished st) then l else state_bytes p.state

-- a portion by the state that any bytes hold
abbrev pub portion_of : (backing s state scratch : List ℕ) → (may : ℕ) → Portion
portion_of backing s state scratch may = portion backing s (state_of state) scratch may

-- the answer as a number, and the values beside it
abbrev pub answer_code : Result (Option Verdict) ℕ → ℕ
answer_code (Err k) = k
answer_code (Ok None) = 1013
answer_code (Ok (Some v)) = verdict_code v

abbrev pub answer_first : Result (Option Verdict) ℕ → ℕ
answer_first (Err k) = 0
answer_first (Ok None) = 0
answer_first (Ok (Some v)) = verdict_first v

abbrev pub answer_second : Result (Option Verdict) ℕ → ℕ
answer_second (Err k) = 0
answer_second (Ok None) = 0
answer_second (Ok (Some v)) = verdict_second v

abbrev pub answer_third : Result (Option Verdict) ℕ → ℕ
answer_third (Err k) = 0
answer_third (Ok None) = 0
answer_third (Ok (Some v)) = verdict_third v

-- the numbers of a verdict, and of a state, are what the code's types hold
abbrev pub FitsVerdict : Verdict → Type 0
FitsVerdict Sound = Unit {0}
FitsVerdict (Leaks n) = n < 2 ^ 64
FitsVerdict (BadL1 t i) = (t < 2 ^ 64) × (i < 2 ^ 64)
FitsVerdict (BadL2 t i j) = (t < 2 ^ 64) × ((i < 2 ^ 64) × (j < 2 ^ 64))
FitsVerdict (Shared k) = k < 2 ^ 64
FitsVerdict (Short k) = k < 2 ^ 64
FitsVerdict (MarkL1 i) = i < 2 ^ 64
FitsVerdict (MarkL2 i j) = (i < 2 ^ 64) × (j < 2 ^ 64)
FitsVerdict (NotChecked k) = k < 256

abbrev pub Fits : CheckState → Type 0
Fits New = Unit {0}
Fits (Going t i v) = ((t < 2 ^ 64) × (i < 2 ^ 64)) × FitsVerdict v
Fits (Finished v) = FitsVerdict v

-- a state that is kept as bytes comes back as it was
abbrev pub StateBack : Type 0
StateBack = (st : CheckState) → Fits st → state_of (state_bytes st) ≡ st
