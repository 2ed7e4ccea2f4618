-- The test 9, of what the header gives.
-- Assumes nothing.
use Rattle.std.specs.Prelude.{ℕ, ◌+◌, ◌*◌, ◌/◌, ◌%◌, ◌^◌, Bool, not, ◌||◌, ltb, eqb}
use Rattle.qcow2_spec.specs.declared.Geometry.{Geometry}

-- a table of len bytes that starts inside a cluster, or runs past n
unfoldable pub misplaced : (C n at len : ℕ) → Bool
misplaced C n at len = not (eqb (at % C) 0) || ltb n (at + len)

unfoldable pub misplaced_tables : Geometry → ℕ → Bool
misplaced_tables g n =
    misplaced (2 ^ g.bits) n g.l1at (8 * g.l1size)
    || (misplaced (2 ^ g.bits) n g.tableat (g.tableclusters * 2 ^ g.bits) || ltb (g.tableclusters * (2 ^ g.bits / 8)) g.blocks)
