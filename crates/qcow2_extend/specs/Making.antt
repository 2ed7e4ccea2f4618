-- The units of new blocks by the places that the code works out, and what storing them is told.
-- Assumes nothing.
use Rattle.std.specs.Prelude.{ℕ, zero, suc, ◌+◌, ◌-◌, ◌*◌, ◌/◌, ◌^◌, ◌≤◌, ◌<◌, ◌≡◌, Bool, List, [], ◌∷◌, ◌++◌, eqb, length, get_or, if◌then◌else◌}
use Rattle.units.specs.Units.{UnitStore, entry, fill, cluster}
use Rattle.qcow2_spec.specs.Header.{most_bits, most_length, version}
use Rattle.qcow2_spec.specs.declared.Geometry.{Geometry}
use Rattle.qcow2_noted.specs.declared.Notes.{Notes}
use Rattle.qcow2_noted.specs.Noting.{Noted}
use Rattle.qcow2_extend.specs.declared.making.Layout.{Layout}

-- the last byte of the first count of 2 ^ order bits in a block
abbrev pub own_byte : (order : ℕ) → ℕ
own_byte order = 2 ^ (order - 3) - 1

-- what the header gives
pub record LaidOut (g : Geometry) (p : Layout) : Type 0 where
  pub is-table : p.table ≡ g.tableat
  pub is-span : p.span ≡ 2 ^ (g.bits + 3 - g.order) * 2 ^ g.bits
  pub is-size : p.size ≡ 2 ^ g.bits
  pub is-own : p.own ≡ own_byte g.order
  pub is-blocks : p.blocks ≡ g.blocks

-- the table and the places of new blocks lie in n bytes
pub record Fits (n : ℕ) (p : Layout) : Type 0 where
  pub inside : (i : ℕ) → i < p.blocks → i * p.span + p.size ≤ n
  pub entered : p.table + 8 * p.blocks ≤ n
  pub owned : p.own < p.size
  pub small : p.size ≤ 2 ^ most_bits
  pub short : n ≤ most_length

-- ---- the units
-- new block i: its bytes, then its table entry
unfoldable pub new_units : Layout → (i : ℕ) → List UnitStore
new_units p i = fill (i * p.span) (cluster p.size p.own (1 ∷ [])) ++ entry (p.table + 8 * i) (i * p.span) ∷ []

-- none unless its mark is 1
unfoldable pub marked_units : Layout → (i mark : ℕ) → List UnitStore
marked_units p i mark = if eqb mark 1 then new_units p i else []

-- of those among the k blocks from i on that pass the test
unfoldable pub made_where : Layout → (ℕ → Bool) → (i k : ℕ) → List UnitStore
made_where p t i zero = []
made_where p t i (suc k) = (if t i then new_units p i else []) ++ made_where p t (suc i) k

-- block i is marked, by marks that begin at block `start`
abbrev pub marked : (start : ℕ) → (marks : List ℕ) → (i : ℕ) → Bool
marked start marks i = eqb (get_or marks (i - start) 0) 1

-- what was noted of the blocks from `start` on, with an allowance of a units
abbrev pub NotedFrom : (s : List ℕ) → Layout → (start a : ℕ) → (marks : List ℕ) → Notes → Type 0
NotedFrom s p start a marks n = Noted s (p.table + 8 * start) (p.blocks - start) (a / (p.size + 1)) marks n

-- s can be extended, with the new blocks from `from` on
pub record Ready (s : List ℕ) (p : Layout) (v from : ℕ) : Type 0 where
  pub fits : Fits (length s) p
  pub long : 512 ≤ length s
  pub is-version : v ≡ version s
  pub earlier : from ≤ p.blocks
  pub few : p.blocks ≤ 32768
