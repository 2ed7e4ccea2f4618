-- A state that is kept as bytes comes back as it was.
-- Assumes nothing.
use Prim.Native.Nat.{ℕ, ◌%◌, ◌^◌, ◌≤◌, ◌<◌}
use native.Mathlib.Omega.{arith}
use mathlib.Core.Path.{◌≡◌, refl, sym, ap, ◌∙◌}
use mathlib.Core.List.{[]}
use lib.Dec.{lit<, lit≤}
use Rattle.endian.specs.Big.{be16, be32, be64, bytes16, bytes32, bytes64}
use Rattle.endian.proofs.Laws.{be64-bytes}
use Rattle.qcow2_spec.specs.declared.Verdict.{Verdict}
use Rattle.qcow2_spec.specs.declared.Verdict.TheVariants.{Sound, Leaks, BadL1, BadL2, Shared, Short, MarkL1, MarkL2, Refused as NotChecked}
use Rattle.qcow2_portion.specs.declared.CheckState.TheVariants.{New, Going, Finished}
use Rattle.qcow2_kept.specs.declared.Numbers.{Numbers}
use Rattle.qcow2_kept.specs.Kept.{numbers_of, verdict_of, numbers_at, seven_bytes, state_bytes, FitsVerdict, StateBack}
use Rattle.qcow2_kept.proofs.ByKind.{kind_0, kind_1, kind_2, kind_3, kind_4, kind_5, kind_6, kind_7, kind_more}
use Rattle.qcow2_kept.proofs.Bytes.{state_new, state_going, state_finished}

pub verdict_back : (v : Verdict) → FitsVerdict v → verdict_of (numbers_of v) ≡ v
verdict_back Sound h = sym (kind_0 (numbers_of Sound) refl)
verdict_back (Leaks n) h = sym (kind_1 (numbers_of (Leaks n)) refl)
verdict_back (BadL1 t i) h = sym (kind_2 (numbers_of (BadL1 t i)) refl)
verdict_back (BadL2 t i j) h = sym (kind_3 (numbers_of (BadL2 t i j)) refl)
verdict_back (Shared k) h = sym (kind_4 (numbers_of (Shared k)) refl)
verdict_back (Short k) h = sym (kind_5 (numbers_of (Short k)) refl)
verdict_back (MarkL1 i) h = sym (kind_6 (numbers_of (MarkL1 i)) refl)
verdict_back (MarkL2 i j) h = sym (kind_7 (numbers_of (MarkL2 i j)) refl)
verdict_back (NotChecked k) h = let e : k % 256 ≡ k = omega arith in sym (kind_more (numbers_of (NotChecked k)) (lit≤ tt)) ∙ ap NotChecked e

-- each of the seven numbers is read where it was stored
module _ (stage root row : ℕ) (n : Numbers) where
  stage_at : stage < 2 ^ 64 → be64 (seven_bytes stage root row n) 0 ≡ stage
  unfolding seven_bytes be64 be32 be16 bytes64 bytes32 bytes16
  stage_at h = be64-bytes stage [] h

  root-at : root < 2 ^ 64 → be64 (seven_bytes stage root row n) 8 ≡ root
  unfolding seven_bytes be64 be32 be16 bytes64 bytes32 bytes16
  root-at h = be64-bytes root [] h

  row-at : row < 2 ^ 64 → be64 (seven_bytes stage root row n) 16 ≡ row
  unfolding seven_bytes be64 be32 be16 bytes64 bytes32 bytes16
  row-at h = be64-bytes row [] h

  kind_at : n.kind < 2 ^ 64 → be64 (seven_bytes stage root row n) 24 ≡ n.kind
  unfolding seven_bytes be64 be32 be16 bytes64 bytes32 bytes16
  kind_at h = be64-bytes n.kind [] h

  a_at : n.a < 2 ^ 64 → be64 (seven_bytes stage root row n) 32 ≡ n.a
  unfolding seven_bytes be64 be32 be16 bytes64 bytes32 bytes16
  a_at h = be64-bytes n.a [] h

  b_at : n.b < 2 ^ 64 → be64 (seven_bytes stage root row n) 40 ≡ n.b
  unfolding seven_bytes be64 be32 be16 bytes64 bytes32 bytes16
  b_at h = be64-bytes n.b [] h

  c_at : n.c < 2 ^ 64 → be64 (seven_bytes stage root row n) 48 ≡ n.c
  unfolding seven_bytes be64 be32 be16 bytes64 bytes32 bytes16
  c_at h = be64-bytes n.c [] h

-- the numbers of a verdict that fits
abbrev Small : Numbers → Type 0
Small n = ((n.kind < 2 ^ 64) × (n.a < 2 ^ 64)) × ((n.b < 2 ^ 64) × (n.c < 2 ^ 64))

small : (kind a b c : ℕ) → kind < 2 ^ 64 → a < 2 ^ 64 → b < 2 ^ 64 → c < 2 ^ 64 → Small (record { kind = kind; a = a; b = b; c = c })
small kind a b c p q r s = ((p, q), (r, s))

numbers-small : (v : Verdict) → FitsVerdict v → Small (numbers_of v)
numbers-small Sound h = small 0 0 0 0 (lit< tt) (lit< tt) (lit< tt) (lit< tt)
numbers-small (Leaks n) h = small 1 n 0 0 (lit< tt) h (lit< tt) (lit< tt)
numbers-small (BadL1 t i) h = small 2 t i 0 (lit< tt) h.0 h.1 (lit< tt)
numbers-small (BadL2 t i j) h = small 3 t i j (lit< tt) h.0 h.1.0 h.1.1
numbers-small (Shared k) h = small 4 k 0 0 (lit< tt) h (lit< tt) (lit< tt)
numbers-small (Short k) h = small 5 k 0 0 (lit< tt) h (lit< tt) (lit< tt)
numbers-small (MarkL1 i) h = small 6 i 0 0 (lit< tt) h (lit< tt) (lit< tt)
numbers-small (MarkL2 i j) h = small 7 i j 0 (lit< tt) h.0 h.1 (lit< tt)
numbers-small (NotChecked k) h = small 8 k 0 0 (lit< tt) (omega arith) (lit< tt) (lit< tt)

numbers_back : (stage root row : ℕ) (n : Numbers) → Small n → numbers_at (seven_bytes stage root row n) ≡ n
numbers_back stage root row n h =
    rw (kind_at stage root row n h.0.0, a_at stage root row n h.0.1, b_at stage root row n h.1.0, c_at stage root row n h.1.1) refl

-- the verdict that stands behind any three numbers
kept-verdict : (stage root row : ℕ) (v : Verdict) → FitsVerdict v → v ≡ verdict_of (numbers_at (seven_bytes stage root row (numbers_of v)))
kept-verdict stage root row v h = sym (ap verdict_of (numbers_back stage root row (numbers_of v) (numbers-small v h)) ∙ verdict_back v h)

pub state_back : StateBack
unfolding state_bytes
state_back New h = sym (state_new _ (stage_at 0 0 0 _ (lit< tt)))
state_back (Going t i v) h =
    let n : Numbers = numbers_of v in
    sym (state_going (seven_bytes 1 t i n) (stage_at 1 t i n (lit< tt)) t i v (sym (root-at 1 t i n h.0.0)) (sym (row-at 1 t i n h.0.1)) (kept-verdict 1 t i v h.1))
state_back (Finished v) h =
    let n : Numbers = numbers_of v in
    let e : be64 (seven_bytes 2 0 0 n) 0 ≡ 2 = stage_at 2 0 0 n (lit< tt) in
    sym (state_finished (seven_bytes 2 0 0 n) (λ z. omega (arith, e, z)) (λ z. omega (arith, e, z)) v (kept-verdict 2 0 0 v h))
