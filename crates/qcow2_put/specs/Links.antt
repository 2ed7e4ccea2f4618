-- What storing new clusters and their entries is told: places that lie in the image, though not apart from each other.
-- Assumes nothing.
use Rattle.std.specs.Prelude.{ℕ, ◌+◌, ◌*◌, ◌%◌, ◌^◌, ◌≤◌, List, [], ◌∷◌, ◌++◌, length, replicate}
use Rattle.widths.specs.Width.{Inside}
use Rattle.units.specs.Units.{UnitStore, count, entry, fill}
use Rattle.qcow2_spec.specs.Header.{most_length, cluster_size, count_order, per_table}
use Rattle.qcow2_spec.specs.Entries.{new_entry}
use Rattle.qcow2_spec.specs.Counts.{count_at}
use Rattle.qcow2_spec.specs.Guest.{l1_entry_at}
use Rattle.qcow2_put.specs.declared.linking.Cell.{Cell}
use Rattle.qcow2_put.specs.declared.linking.Cell.TheVariants.{Count, Entry}
use Rattle.qcow2_put.specs.declared.linking.Places.{Places}

-- the unit of a cell, and that it lies in an image of n bytes
abbrev pub unit_of : Cell → UnitStore
unit_of (Count o at x) = count (2 ^ o) at x
unit_of (Entry at x) = entry at x

abbrev pub CellIn : ℕ → Cell → Type 0
CellIn n (Count o at x) = Inside o n at
CellIn n (Entry at x) = at + 8 ≤ n

-- in an image of n bytes, a cluster of c bytes at p with the data d from o on, over the bytes of base and zeros, and its entry at a
pub record Filled (n a p c o : ℕ) (base d : List ℕ) : Type 0 where
  pub entered : a + 8 ≤ n
  pub inside : p + c ≤ n
  pub fits : o + length d ≤ c
  pub under : length base ≤ c
  pub short : n ≤ most_length

-- the places of a write into the active table that takes cluster t as an L2 table and cluster k for the data
unfoldable pub places : List ℕ → (g t k : ℕ) → Places
places s g t k =
    record {
      order = count_order s;
      tablecount = count_at s t;
      table = t * cluster_size s;
      datacount = count_at s k;
      place = k * cluster_size s;
      slot = t * cluster_size s + 8 * (g % per_table s);
      link = l1_entry_at s 0 g;
    }

-- each of them lies in an image of n bytes
pub record Linked (n : ℕ) (p : Places) (c : ℕ) : Type 0 where
  pub tablecounted : Inside p.order n p.tablecount
  pub tabled : p.table + c ≤ n
  pub counted : Inside p.order n p.datacount
  pub inside : p.place + c ≤ n
  pub entered : p.slot + 8 ≤ n
  pub linked : p.link + 8 ≤ n
  pub short : n ≤ most_length

-- the table of c bytes and the new cluster, which holds bs
unfoldable pub table_units : Places → (c : ℕ) → (bs : List ℕ) → List UnitStore
table_units p c bs =
    (count (2 ^ p.order) p.tablecount 1 ∷ fill p.table (replicate c 0))
    ++ (count (2 ^ p.order) p.datacount 1 ∷ fill p.place bs)
    ++ entry p.slot (new_entry p.place)
    ∷ entry p.link (new_entry p.table)
    ∷ []
