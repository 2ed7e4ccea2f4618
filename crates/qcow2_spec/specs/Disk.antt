-- The calls of a series, and the plain disk that they are fed to. Paper 01, "The plain disk and the series".
-- Assumes nothing.
use Rattle.std.specs.Prelude.{ℕ, ◌+◌, ◌-◌, ◌/◌, ◌<◌, ◌≡◌, ◌⊎◌, Bool, true, false, ◌&&◌, List, leb, ltb, eqb, length, get_or, if◌then◌else◌, Err, Ok, Result}
use Rattle.units.specs.Plan.{Plan}
use Rattle.units.specs.declared.Ended.{Ended}
use Rattle.units.specs.declared.Ended.TheVariants.{Finished, Stopped}
use Rattle.qcow2_spec.specs.Store.{write_plan, discard_plan}
use Rattle.qcow2_spec.specs.Check.{repair_plan}

-- a write of the bytes at guest offset x, a discard of guest cluster g, or a repair with a scratch of that length
pub data Request : Type 0 where
  write : (x : ℕ) → (bytes : List ℕ) → Request
  discard : (g : ℕ) → Request
  repair : (scratch : ℕ) → Request

-- the plan of a request; backing: the bytes of the backing file, which are lent
unfoldable pub plan_of : (backing s : List ℕ) → Request → Plan
plan_of backing s (write x d) = write_plan backing s x d
plan_of backing s (discard g) = discard_plan backing s g
plan_of backing s (repair n) = repair_plan backing s n

-- the byte at y once the request is finished, with clusters of C bytes; outside the request it is the old one
unfoldable pub finished : (C : ℕ) → Request → (disk : ℕ → ℕ) → ℕ → ℕ
finished C (write x d) disk y = if leb x y && ltb y (x + length d) then get_or d (y - x) 0 else disk y
finished C (discard g) disk y = if eqb (y / C) g then 0 else disk y
finished C (repair n) disk y = disk y

-- the bytes below size are the same
unfoldable pub SameDisk : (size : ℕ) (a b : ℕ → ℕ) → Type 0
SameDisk size a b = (y : ℕ) → y < size → a y ≡ b y

-- each byte below size is that of a or that of b
unfoldable pub Mixed : (size : ℕ) (now a b : ℕ → ℕ) → Type 0
Mixed size now a b = (y : ℕ) → y < size → (now y ≡ a y) ⊎ (now y ≡ b y)

-- a call finds the disk `old` and leaves it `now`, and `new` is what finishing gives
unfoldable pub Fed : Result Ended ℕ → (stores : Bool) → (size : ℕ) (old new now : ℕ → ℕ) → Type 0
Fed (Err k) stores size old new now = SameDisk size now old
Fed (Ok (Finished u)) stores size old new now = SameDisk size now new
Fed (Ok (Stopped u)) true size old new now = SameDisk size now old ⊎ SameDisk size now new
Fed (Ok (Stopped u)) false size old new now = Mixed size now old new
