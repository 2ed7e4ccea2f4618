-- The usual entries: plain, which is a place and bit 63 or nothing, and marked.
-- Assumes nothing.
use Rattle.std.specs.Prelude.{ℕ, ◌+◌, ◌-◌, ◌%◌, ◌^◌, Bool, ◌&&◌, ◌||◌, ◌==◌, nat_le, nat_lt}

-- an entry but for bit 63
unfoldable pub bare : ℕ → ℕ
bare e = e % 2 ^ 63

-- an entry that names a cluster of an image of n bytes and has no mark: it is good in both tables and every version, and no other
-- good entry gives a host offset
unfoldable pub plain : (C n e : ℕ) → Bool
plain C n e = nat_lt 0 (bare e) && nat_le (bare e + C) n && bare e % C == 0

-- the zero mark where it is allowed: alone or beside a plain place
unfoldable pub marked : (version C n e : ℕ) → Bool
marked version C n e = version == 3 && (e == 1 || plain C n (e - 1))
