-- Guest bytes that have one entry of L1 table r: the L2 table through which their ways lead.
-- Assumes nothing.
use Rattle.std.specs.Prelude.{ℕ, ◌+◌, ◌-◌, ◌*◌, ◌/◌, ◌%◌, ◌≤◌, ◌<◌, ◌≡◌, List, length, if◌then◌else◌}
use Rattle.endian.specs.Big.{be64}
use Rattle.qcow2_spec.specs.Header.{version, cluster_size, per_table}
use Rattle.qcow2_spec.specs.Entries.{place, good_l1}
use Rattle.qcow2_spec.specs.Guest.{l2_way, way, located}
use Rattle.qcow2_found.specs.Entry.{entry_found}

-- the ways to the n bytes of the disk from x on all lead through the L2 table at t
pub record Below (s : List ℕ) (r t x n : ℕ) : Type 0 where
  pub inside : t + cluster_size s ≤ length s
  pub ways : (i : ℕ) → i < n → way s r ((x + i) / cluster_size s) ≡ l2_way s t ((x + i) / cluster_size s % per_table s)

-- the n bytes of the disk from x on lie where the entries of the lent L2 table l say
pub record Lent (s : List ℕ) (r : ℕ) (l : List ℕ) (x n : ℕ) : Type 0 where
  pub whole : length l ≡ cluster_size s
  pub finds : (i : ℕ) → i < n
      → located s r (x + i) ≡ entry_found (version s) (cluster_size s) (length s) (be64 l (8 * ((x + i) / cluster_size s % per_table s))) ((x + i) % cluster_size s)

-- the place of the L2 table that L1 entry e names; 0 where it names none
unfoldable pub table_of : (C n e : ℕ) → ℕ
table_of C n e = if good_l1 C n e then place e else 0

-- the bytes from x on that have its L1 entry, where tables have E entries
unfoldable pub row_left : (C E x : ℕ) → ℕ
row_left C E x = (E - x / C % E) * C - x % C
