-- What a cluster holds before data are laid over it.
-- Assumes nothing.
use Rattle.std.specs.Prelude.{ℕ, ◌-◌, List, ◌++◌, length, replicate}

-- the bytes of base, at most c of them, and zeros up to c
unfoldable pub padded : (c : ℕ) → (base : List ℕ) → List ℕ
padded c base = base ++ replicate (c - length base) 0
