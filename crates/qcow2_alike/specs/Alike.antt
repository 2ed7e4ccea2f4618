-- Entries of an L2 table that go on alike.
-- Assumes nothing.
use Rattle.std.specs.Prelude.{ℕ, ◌-◌, ◌*◌, ◌^◌, ◌≤◌, Bool, not, List, length, Result}
use Rattle.choice.specs.Pick.{first}
use Rattle.endian.specs.Big.{be64}
use Rattle.qcow2_spec.specs.Header.{most_bits, most_length}
use Rattle.qcow2_spec.specs.Runs.{moved, same_found}
use Rattle.qcow2_spec.specs.declared.Found.{Found}
use Rattle.qcow2_found.specs.Entry.{entry_found}

-- entries of an L2 table l, of an image of n bytes
pub record Entries (bits n from end : ℕ) (l : List ℕ) : Type 0 where
  pub low : 9 ≤ bits
  pub high : bits ≤ most_bits
  pub least : 2 ^ bits ≤ n
  pub most : n ≤ most_length
  pub order : from ≤ end
  pub inside : 8 * end ≤ length l

-- entry k goes on where f lies at the start of the guest cluster of an earlier one
unfoldable pub entry_goes : (version C n : ℕ) → List ℕ → Result Found ℕ → (from k : ℕ) → Bool
entry_goes version C n l f from k = same_found (entry_found version C n (be64 l (8 * k)) 0) (moved f ((k - from) * C))

-- the first entry from k to an end that does not
unfoldable pub entries_end : (version C n : ℕ) → List ℕ → Result Found ℕ → (from k end : ℕ) → ℕ
entries_end version C n l f from k end = first (λ j. not (entry_goes version C n l f from j)) k (end - k)
