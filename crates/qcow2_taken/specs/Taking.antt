-- What is asked of an image to which clusters were appended, and what the tests before have shown.
-- Assumes nothing.
use Rattle.std.specs.Prelude.{ℕ, ◌-◌, ◌*◌, ◌%◌, ◌^◌, ◌≤◌, Bool, true, not, ◌&&◌, ◌||◌, List, ltb, eqb, length, take, drop}
use Rattle.choice.specs.Pick.{unless, all}
use Rattle.endian.specs.Big.{be64, entries}
use Rattle.tally.specs.Tally.{run}
use Rattle.qcow2_spec.specs.Header.{least_length, most_bits, most_order, cluster_size, blocks, table, good_block, backing_number, snapshot_number}
use Rattle.qcow2_spec.specs.declared.Geometry.{Geometry}
use Rattle.qcow2_longer.specs.Extend.{good_new}
use Rattle.qcow2_header.specs.Chain.{Placed}

-- ---- tests that the definitions leave without a name
-- 10, of the old length alone
unfoldable pub bad_length : (C n old : ℕ) → Bool
bad_length C n old = ltb old least_length || ltb n old || not (eqb (old % C) 0)

-- the entry e of a new block whose place is p
abbrev pub names_new : (e p : ℕ) → Bool
names_new e p = eqb e 0 || eqb e p

-- entry i of the table t, with new blocks `span` bytes apart
abbrev pub new_at : (t : List ℕ) → (span i : ℕ) → Bool
new_at t span i = names_new (be64 t (8 * i)) (i * span)

-- all entries of a table that has `count`
unfoldable pub good_entries : (C n from blocks span count : ℕ) → (t : List ℕ) → Bool
good_entries C n from blocks span count t =
    all (good_block C n) (take from (entries count t))
    && all (new_at t span) (run from (blocks - from))
    && all (λ e. eqb e 0) (drop blocks (entries count t))

-- 10, of the entries alone, with the earlier blocks up to `from`
unfoldable pub bad_from : List ℕ → (from : ℕ) → Bool
bad_from s from =
    not
    (all (good_block (cluster_size s) (length s)) (take from (table s))
    && all (good_new s) (run from (blocks s - from))
    && all (λ e. eqb e 0) (drop (blocks s) (table s)))

-- the numbers after 10
unfoldable pub later_number : List ℕ → ℕ
later_number s = unless (backing_number true s) (λ k. k) (snapshot_number s)

-- ---- what is known
-- the places of blocks below `end` are numbers of 64 bits
abbrev pub Spaced : (end span : ℕ) → Type 0
Spaced end span = end * span ≤ 2 ^ 62

-- a table of m bytes with `count` entries
pub record Entries (m count from blocks n bits span : ℕ) : Type 0 where
  pub low : 9 ≤ bits
  pub high : bits ≤ most_bits
  pub room : 2 ^ bits ≤ n
  pub earlier : from ≤ blocks
  pub enough : blocks ≤ count
  pub fits : 8 * count ≤ m
  pub spaced : Spaced blocks span

-- what the tests 1 to 9 show
pub record Held (g : Geometry) (s : List ℕ) : Type 0 where
  pub placed : Placed g s
  pub narrow : g.order ≤ most_order
