-- Laws of one visit.
-- Assumes nothing.
use Rattle.std.specs.Prelude.{if◌then◌else◌}
use Prim.Native.Nat.{ℕ, ◌+◌, ◌*◌, ◌/◌, ◌%◌, ◌≤◌, ◌<◌, min}
use mathlib.Core.Path.{◌≡◌, refl, sym, ap, ◌∙◌}
use mathlib.Core.Logic.{◌≢◌}
use mathlib.Core.Bool.{Bool, true, false, not, ◌&&◌}
use mathlib.Core.List.{List}
use native.Mathlib.Omega.{arith}
use lib.Dec.{eqb, ltb}
use borrow.Author.Tests.{eq-eqb, ne_eqb, lt-ltb, le-ltb, ltb-true}
use lib.ListN.{length}
use lib.Seq.{sets}
use Rattle.endian.specs.Big.{be16, bytes16, splice}
use Rattle.endian.proofs.Laws.{sets_splice}
use Rattle.tally.specs.States.{step, visited}

pub step_count : (x : ℕ) → step 0 x ≡ min 65535 (x + 1)
unfolding step
step_count x = refl

module _ (kind : ℕ) (d : kind ≢ 0) where
  pub step-first : step kind 0 ≡ kind + 512
  unfolding step
  step-first = rw (ne_eqb kind 0 d) refl

  module _ (x : ℕ) (n : x ≢ 0) where
    pub step_role : x % 4 ≢ kind % 4 → step kind x ≡ 4
    unfolding step
    step_role r = rw (ne_eqb kind 0 d, ne_eqb x 0 n, ne_eqb (x % 4) (kind % 4) r) refl

    pub step-again : x % 4 ≡ kind % 4 → x / 4 % 128 ≡ kind / 4 → step kind x ≡ 4
    unfolding step
    step-again r t = rw (ne_eqb kind 0 d, ne_eqb x 0 n, eq-eqb (x % 4) (kind % 4) r, eq-eqb (x / 4 % 128) (kind / 4) t) refl

    pub step-full : x % 4 ≡ kind % 4 → x / 4 % 128 ≢ kind / 4 → 65024 ≤ x → step kind x ≡ 4
    unfolding step
    step-full r t h = rw (ne_eqb kind 0 d, ne_eqb x 0 n, eq-eqb (x % 4) (kind % 4) r, ne_eqb (x / 4 % 128) (kind / 4) t, le-ltb x 65024 h) refl

    pub step-next : x % 4 ≡ kind % 4 → x / 4 % 128 ≢ kind / 4 → x < 65024 → step kind x ≡ kind + 512 * (x / 512 + 1)
    unfolding step
    step-next r t h = rw (ne_eqb kind 0 d, ne_eqb x 0 n, eq-eqb (x % 4) (kind % 4) r, ne_eqb (x / 4 % 128) (kind / 4) t, lt-ltb x 65024 h) refl

-- what a load, a step and a store leave
pub visited-stored : (kind : ℕ) (l t : List ℕ) (c x y : ℕ) → 2 * c + 2 ≤ length l → x ≡ be16 l (2 * c) → y ≡ step kind x → t ≡ splice l (2 * c) (bytes16 y) → t ≡ visited kind l c
unfolding visited bytes16
visited-stored kind l t c x y h e f g = g ∙ sym (sets_splice l (2 * c) (bytes16 y) h) ∙ ap (λ (n : ℕ). sets l (2 * c) (bytes16 n)) (f ∙ ap (step kind) e)

pub step_small : (kind x : ℕ) → kind < 512 → step kind x < 65536
unfolding step
step_small kind x h = go (eqb kind 0) (eqb x 0) (eqb (x % 4) (kind % 4) && not (eqb (x / 4 % 128) (kind / 4))) (ltb x 65024) refl
  where
    go : (a b c d : Bool) → ltb x 65024 ≡ d → (if a then min 65535 (x + 1) else if b then kind + 512 else if c && d then kind + 512 * (x / 512 + 1) else 4) < 65536
    go true b c d e = omega arith
    go false true c d e = omega arith
    go false false true true e = omega (arith, ltb-true x 65024 e)
    go false false true false e = omega arith
    go false false false d e = omega arith
