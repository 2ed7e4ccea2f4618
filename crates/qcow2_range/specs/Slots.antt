-- The ways that end in one L2 table, by their numbers.
-- Assumes nothing.
use Rattle.std.specs.Prelude.{ℕ, zero, suc, ◌+◌, ◌*◌, List, Result}
use Rattle.choice.specs.Pick.{unless}
use Rattle.endian.specs.Big.{be64}
use Rattle.qcow2_spec.specs.Header.{version}
use Rattle.qcow2_spec.specs.Guest.{entry_way, way_number}
use Rattle.qcow2_spec.specs.declared.Way.{Way}

-- the way that ends at entry i of the L2 table l, which stands at a place
unfoldable pub slot : (version C n at : ℕ) → List ℕ → ℕ → Result Way ℕ
slot version C n at l i = entry_way version C n (at + 8 * i) (be64 l (8 * i))

-- the number of the first bad way among the k from i on; 0 where all are good
unfoldable pub numbers : (ℕ → Result Way ℕ) → (i k : ℕ) → ℕ
numbers f i zero = 0
numbers f i (suc k) = unless (way_number (f i)) (λ n. n) (numbers f (suc i) k)
