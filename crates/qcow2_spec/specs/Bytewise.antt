-- A read byte by byte, by where the tables have each of its bytes. `read_number` goes by guest clusters and is refused as this is
-- (proofs/Bytewise.antt), a translation is the read of one byte, and a lookup gives the same bytes (proofs/Lookup.antt).
-- Assumes nothing.
use Rattle.std.specs.Prelude.{ℕ, zero, suc, ◌+◌, ◌≡◌, List, [], ◌∷◌, leb, ltb, eqb, length, if◌then◌else◌, Err, Ok, Result}
use Rattle.choice.specs.Pick.{unless, each}
use Rattle.qcow2_spec.specs.Header.{roots, judge}
use Rattle.qcow2_spec.specs.Guest.{located, translate, found_byte, reach, read_number, read_into, in_place}
use Rattle.qcow2_spec.specs.declared.Found.{Found}
use Rattle.qcow2_spec.specs.declared.Found.TheVariants.{Host, Zeros, Absent}

-- the number of a refused translation; 0 where it is not refused
unfoldable pub refusal : Result Found ℕ → ℕ
refusal (Ok (Host h)) = 0
refusal (Ok Zeros) = 0
refusal (Ok Absent) = 0
refusal (Err k) = k

-- the first refusal among the len bytes from x on of the disk of L1 table t, rising; 0 where none is refused
unfoldable pub bytes_number : List ℕ → (t x len : ℕ) → ℕ
bytes_number s t x zero = 0
bytes_number s t x (suc l) = unless (refusal (located s t x)) (λ k. k) (bytes_number s t (suc x) l)

-- a read's number: the image's own, then 11 where there is no such table or the range runs past what it reaches, then the first refusal of a byte
unfoldable pub bytewise : (backing s : List ℕ) → (t x len : ℕ) → ℕ
bytewise backing s t x len =
    unless (judge backing s) (λ k. k)
    (if leb (roots s) t then 11 else
    if ltb (reach s t) (x + len) then 11 else
    bytes_number s t x len)

-- what such a read leaves in its output: what each byte reads or, refused, what was there
unfoldable pub bytewise_into : (backing s : List ℕ) → (t x : ℕ) → List ℕ → List ℕ
bytewise_into backing s t x out =
    if eqb (bytewise backing s t x (length out)) 0 then each (λ y. found_byte backing s y (located s t y)) x (length out) else out

-- the law: every read is refused, and fills its output, as its bytes say; a translation is refused as the read of its byte is, and reads
-- as that does
abbrev pub Bytewise : Type 0
Bytewise =
    (backing s : List ℕ) (x : ℕ)
    → ((t len : ℕ) → read_number backing s t x len ≡ bytewise backing s t x len)
    × ((t : ℕ) (out : List ℕ) → read_into backing s t x out ≡ bytewise_into backing s t x out)
    × (refusal (translate backing s x) ≡ read_number backing s 0 x 1)
    × (read_into backing s 0 x (0 ∷ []) ≡ found_byte backing s x (translate backing s x) ∷ [])

-- the law: a lookup gives what the translation of each byte from x on reads
abbrev pub Lookups : Type 0
Lookups =
    (backing s : List ℕ) (x : ℕ)
    → in_place backing s x ≡ each (λ y. found_byte backing s y (translate backing s y)) x (length (in_place backing s x))
