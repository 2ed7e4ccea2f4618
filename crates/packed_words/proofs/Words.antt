-- Whether a number of 32 bits is 0. Assumes nothing.
use Prim.Native.Nat.{ℕ, ◌*◌}
use native.Mathlib.Nat.{zero-mul}
use native.Mathlib.Omega.{arith}
use mathlib.Core.Path.{◌≡◌, sym, ap, ◌∙◌}
use mathlib.Core.Bool.{not}
use mathlib.Core.List.{List}
use lib.Dec.{eqb}
use Rattle.widths.specs.Width.{be}
use Rattle.widths.proofs.Cells.{Small}
use Rattle.packed.specs.Packed.{zero_at}
use Rattle.packed.specs.Lanes.{lanes, bytes_at}
use Rattle.packed.proofs.Laws.{eqb_same}
use Rattle.packed.proofs.Turned.{same32, whole32}
use Rattle.packed_filled.specs.Filled.{filled_at}

-- number j against 0
pub filled-told : (l : List ℕ) → Small l → (j : ℕ) → filled_at 5 l j ≡ not (eqb (lanes 4 (bytes_at l (4 * j))) 0)
unfolding filled_at zero_at
filled-told l b j =
    let z : 0 * 16777216 ≡ 0 = zero-mul 16777216 in
    let s = same32 l b (4 * j) 0 (omega arith) in
    rw (whole32 l b j) (ap not (eqb_same (be 4 l (4 * j)) 0 (lanes 4 (bytes_at l (4 * j))) 0 (λ e. s.0 e ∙ z) (λ e. s.1 (e ∙ sym z))))
