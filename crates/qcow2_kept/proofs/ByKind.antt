-- A verdict by the kind of its numbers.
-- Assumes nothing.
use Prim.Native.Nat.{◌%◌, ◌≤◌}
use native.Mathlib.Omega.{arith}
use mathlib.Core.Path.{◌≡◌, refl}
use borrow.Author.Tests.{ne_eqb}
use Rattle.qcow2_spec.specs.declared.Verdict.TheVariants.{Sound, Leaks, BadL1, BadL2, Shared, Short, MarkL1, MarkL2, Refused as NotChecked}
use Rattle.qcow2_kept.specs.declared.Numbers.{Numbers}
use Rattle.qcow2_kept.specs.Kept.{verdict_of}

module _ (n : Numbers) where
  pub kind_0 : n.kind ≡ 0 → Sound ≡ verdict_of n
  unfolding verdict_of
  kind_0 e = rw e refl

  pub kind_1 : n.kind ≡ 1 → Leaks n.a ≡ verdict_of n
  unfolding verdict_of
  kind_1 e = rw e refl

  pub kind_2 : n.kind ≡ 2 → BadL1 n.a n.b ≡ verdict_of n
  unfolding verdict_of
  kind_2 e = rw e refl

  pub kind_3 : n.kind ≡ 3 → BadL2 n.a n.b n.c ≡ verdict_of n
  unfolding verdict_of
  kind_3 e = rw e refl

  pub kind_4 : n.kind ≡ 4 → Shared n.a ≡ verdict_of n
  unfolding verdict_of
  kind_4 e = rw e refl

  pub kind_5 : n.kind ≡ 5 → Short n.a ≡ verdict_of n
  unfolding verdict_of
  kind_5 e = rw e refl

  pub kind_6 : n.kind ≡ 6 → MarkL1 n.a ≡ verdict_of n
  unfolding verdict_of
  kind_6 e = rw e refl

  pub kind_7 : n.kind ≡ 7 → MarkL2 n.a n.b ≡ verdict_of n
  unfolding verdict_of
  kind_7 e = rw e refl

  pub kind_more : 8 ≤ n.kind → NotChecked (n.a % 256) ≡ verdict_of n
  unfolding verdict_of
  kind_more l =
      rw (
        ne_eqb n.kind 0 (λ e. omega (arith, e)),
        ne_eqb n.kind 1 (λ e. omega (arith, e)),
        ne_eqb n.kind 2 (λ e. omega (arith, e)),
        ne_eqb n.kind 3 (λ e. omega (arith, e)),
        ne_eqb n.kind 4 (λ e. omega (arith, e)),
        ne_eqb n.kind 5 (λ e. omega (arith, e)),
        ne_eqb n.kind 6 (λ e. omega (arith, e)),
        ne_eqb n.kind 7 (λ e. omega (arith, e)),
      )
      refl
