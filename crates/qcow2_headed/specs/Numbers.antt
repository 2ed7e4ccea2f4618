-- The header's number in pieces, each where no number before it applies.
-- Assumes nothing.
use Rattle.std.specs.Prelude.{ℕ, List, if◌then◌else◌}
use Rattle.qcow2_spec.specs.Header.{unsupported, too_big, odd_size, bad_tables}
use Rattle.qcow2_limits.specs.Limits.{odd_length}
use Rattle.qcow2_fields.specs.Fields.{features}

-- 8, 18 and 9
unfoldable pub place_number : List ℕ → ℕ
place_number s = if too_big s then 8 else if odd_size s then 18 else if bad_tables s then 9 else 0

-- 5, 6 and 7, and those
unfoldable pub form_number : List ℕ → ℕ
form_number s = if odd_length s then 5 else if unsupported s then 6 else if features s then 7 else place_number s
