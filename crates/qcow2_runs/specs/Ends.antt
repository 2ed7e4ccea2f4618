-- A run of guest bytes by what is known of its front.
-- Assumes nothing.
use Rattle.std.specs.Prelude.{ℕ, not, List}
use Rattle.choice.specs.Pick.{first}
use Rattle.qcow2_spec.specs.Runs.{goes_on}

-- where the run from x ends, of whose bytes i are known and n are left
unfoldable pub run_from : List ℕ → (root x i n : ℕ) → ℕ
run_from s root x i n = first (λ j. not (goes_on s root x j)) i n
