-- What an L2 entry gives.
-- Assumes nothing.
use Rattle.std.specs.Prelude.{ℕ, not, if◌then◌else◌, Err, Ok, Result}
use Rattle.qcow2_spec.specs.Entries.{good_l2, compressed}
use Rattle.qcow2_spec.specs.Guest.{entry_gives}
use Rattle.qcow2_spec.specs.declared.Found.{Found}

-- what an L2 entry gives for byte o of its cluster, by its way
unfoldable pub entry_found : (version C n e o : ℕ) → Result Found ℕ
entry_found version C n e o =
    if compressed e then Err 13 else
    if not (good_l2 version C n e) then Err 12 else
    Ok (entry_gives e o)
