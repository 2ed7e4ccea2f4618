-- An entry of the snapshot table by its place.
-- Assumes nothing.
use Rattle.std.specs.Prelude.{ℕ, ◌+◌, ◌*◌, ◌%◌, Bool, not, ◌||◌, List, ltb, eqb, length}
use Rattle.endian.specs.Big.{be32, be64}
use Rattle.qcow2_spec.specs.Header.{most_l1, entry_end}

-- the L1 table of the entry at p is too long, misplaced or running past n
unfoldable pub bad_root : (C : ℕ) → List ℕ → (p : ℕ) → Bool
bad_root C s p =
    ltb most_l1 (be32 s (p + 8)) || (not (eqb (be64 s p % C) 0) || ltb (length s) (be64 s p + 8 * be32 s (p + 8)))

-- the entry at p runs past n, or its L1 table is bad
unfoldable pub bad_entry : (C : ℕ) → List ℕ → (p : ℕ) → Bool
bad_entry C s p = ltb (length s) (entry_end s p) || bad_root C s p
