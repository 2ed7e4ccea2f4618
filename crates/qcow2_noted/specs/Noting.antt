-- Entries of a table that are still 0, and their marks.
-- Assumes nothing.
use Rattle.std.specs.Prelude.{ℕ, ◌+◌, ◌*◌, ◌≤◌, ◌<◌, ◌≡◌, ◌⊎◌, Bool, List, eqb, get_or, if◌then◌else◌}
use Rattle.choice.specs.Pick.{count}
use Rattle.endian.specs.Big.{be64}
use Rattle.qcow2_noted.specs.declared.Notes.{Notes}

-- entry i of the table is 0
abbrev pub unmade : List ℕ → (table i : ℕ) → Bool
unmade s table i = eqb (be64 s (table + 8 * i)) 0

-- the mark of an entry
abbrev pub mark_of : (e : ℕ) → ℕ
mark_of e = if eqb e 0 then 1 else 0

-- of the len entries at a place those that were seen are marked and counted: all of them, or more than `most` are 0
pub record Noted (s : List ℕ) (at len most : ℕ) (marks : List ℕ) (n : Notes) : Type 0 where
  pub within : n.seen ≤ len
  pub marks_are : (i : ℕ) → i < n.seen → get_or marks i 0 ≡ mark_of (be64 s (at + 8 * i))
  pub many : n.missing ≡ count (unmade s at) 0 n.seen
  pub enough : (n.seen ≡ len) ⊎ (most < n.missing)
