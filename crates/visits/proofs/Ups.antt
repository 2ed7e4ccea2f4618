-- One reference more where the lower byte is not full. Assumes nothing.
use Prim.Native.Nat.{ℕ, suc, ◌+◌, ◌*◌, ◌/◌, ◌%◌, ◌<◌}
use native.Mathlib.Omega.{arith}
use mathlib.Core.Path.{◌≡◌, sym, ap, ◌∙◌}
use mathlib.Core.List.{List}
use lib.ListN.{get_or, set}
use lib.Seq.{set-get_or}
use Rattle.endian.specs.Big.{be16, bytes16}
use Rattle.tally.specs.States.{step, visited}
use Rattle.tally.proofs.Steps.{step_count}

pub visited-low : (l : List ℕ) (c x : ℕ) → get_or l (2 * c) 0 < 256 → x < 255 → x ≡ get_or l (2 * c + 1) 0 → set l (2 * c + 1) (x + 1) ≡ visited 0 l c
unfolding visited bytes16 be16
visited-low l c x h k g =
    let y : ℕ = step 0 (be16 l (2 * c)) in
    let e : y ≡ get_or l (2 * c) 0 * 256 + get_or l (2 * c + 1) 0 + 1 = step_count (be16 l (2 * c)) ∙ omega (arith, h, k, g) in
    let high : y / 256 % 256 ≡ get_or l (2 * c) 0 = omega (arith, e, h, k, g) in
    let low : y % 256 ≡ x + 1 = omega (arith, e, h, k, g) in
    let s : suc (2 * c) ≡ 2 * c + 1 = omega arith in
    sym (ap (λ (z : ℕ). set (set l (2 * c) z) (suc (2 * c)) (y % 256)) high ∙ ap (λ (t : List ℕ). set t (suc (2 * c)) (y % 256)) (set-get_or l (2 * c) 0) ∙ ap (set l (suc (2 * c))) low ∙ ap (λ (i : ℕ). set l i (x + 1)) s)
