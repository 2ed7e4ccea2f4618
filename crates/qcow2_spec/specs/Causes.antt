-- The number of each cause for which a call is refused. Paper 01, "Numbers the desk gives back"; paper 02, T-02, T-05 and T-11.
-- Assumes nothing.
use Rattle.std.specs.Prelude.{ℕ, zero, suc, ◌≡◌, eqb, Result, Ok, Err, if◌then◌else◌}
use Rattle.std.proofs.Common.{refl, ap}
use Rattle.qcow2_spec.specs.declared.refusal.Cause.{Cause}
use Rattle.qcow2_spec.specs.declared.refusal.Cause.TheVariants.{TooShort, Magic, Version, ClusterBits, Length, Unsupported, Features, DiskSize, Tables, TableEntry, Range, Entry, Compressed, NoRoom, Scratch, Uncounted, Damaged, Sectors, Backing, NoMark, Snapshots, Common}
use Rattle.qcow2_spec.specs.declared.refusal.Refusal.TheInside.{Inside}

-- the number of a cause
abbrev pub number : Cause → ℕ
number TooShort = 1
number Magic = 2
number Version = 3
number ClusterBits = 4
number Length = 5
number Unsupported = 6
number Features = 7
number DiskSize = 8
number Tables = 9
number TableEntry = 10
number Range = 11
number Entry = 12
number Compressed = 13
number NoRoom = 14
number Scratch = 15
number Uncounted = 16
number Damaged = 17
number Sectors = 18
number Backing = 19
number NoMark = 20
number Snapshots = 21
number Common = 22

-- the cause that a number has; the last one for a number that none has
abbrev pub cause_of : ℕ → Cause
cause_of n =
    if eqb n 1 then TooShort else
    if eqb n 2 then Magic else
    if eqb n 3 then Version else
    if eqb n 4 then ClusterBits else
    if eqb n 5 then Length else
    if eqb n 6 then Unsupported else
    if eqb n 7 then Features else
    if eqb n 8 then DiskSize else
    if eqb n 9 then Tables else
    if eqb n 10 then TableEntry else
    if eqb n 11 then Range else
    if eqb n 12 then Entry else
    if eqb n 13 then Compressed else
    if eqb n 14 then NoRoom else
    if eqb n 15 then Scratch else
    if eqb n 16 then Uncounted else
    if eqb n 17 then Damaged else
    if eqb n 18 then Sectors else
    if eqb n 19 then Backing else
    if eqb n 20 then NoMark else
    if eqb n 21 then Snapshots else
    Common

-- a cause is that of its number
cause-number : (c : Cause) → cause_of (number c) ≡ c
cause-number TooShort = refl
cause-number Magic = refl
cause-number Version = refl
cause-number ClusterBits = refl
cause-number Length = refl
cause-number Unsupported = refl
cause-number Features = refl
cause-number DiskSize = refl
cause-number Tables = refl
cause-number TableEntry = refl
cause-number Range = refl
cause-number Entry = refl
cause-number Compressed = refl
cause-number NoRoom = refl
cause-number Scratch = refl
cause-number Uncounted = refl
cause-number Damaged = refl
cause-number Sectors = refl
cause-number Backing = refl
cause-number NoMark = refl
cause-number Snapshots = refl
cause-number Common = refl

pub cause_back : (a : Inside) → record { cause = cause_of (number a.cause) } ≡ a
cause_back a = ap (λ c. record { cause = c }) (cause-number a.cause)

-- an answer that tells nothing but a refusal: that of a number, where it is not 0
abbrev pub answer : ℕ → Result (Unit {0}) ℕ
answer zero = Ok tt
answer (suc n) = Err (suc n)
