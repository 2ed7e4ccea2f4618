use borrow.Author.Tests.{lt-ltb, le-ltb, eq-eqb, ne_eqb}
use native.Mathlib.Omega.{arith}
use Prim.Native.Nat.{ℕ, ◌+◌, ◌%◌, ◌^◌, ◌≤◌, ◌<◌}
use mathlib.Core.Path.{◌≡◌, ap, ◌∙◌}
use Rattle.endian.specs.Big.{be32, be64}
use Rattle.qcow2_spec.specs.Header.{most_l1}
use Rattle.qcow2_snapshots.specs.Entry.{bad_root}
use Rattle.qcow2_snapshots.proofs.entry.bad_root.Goals as goal

pub returns-then-size-gt-MOST_L1 : goal.returns-then-size-gt-MOST_L1
unfolding bad_root
returns-then-size-gt-MOST_L1 c =
    let a = c.args in
    let s = a.image.now in
    let h : most_l1 < be32 s (a.at + 8) = omega (arith, c.load32-size.ensures) in
    rw (lt-ltb most_l1 _ h)

pub returns-then-rest-ne0 : goal.returns-then-rest-ne0
unfolding bad_root
returns-then-rest-ne0 c =
    let a = c.args in
    let s = a.image.now in
    let h : be32 s (a.at + 8) ≤ most_l1 = omega (arith, c.load32-size.ensures) in
    let v : c.rest.result ≡ be64 s a.at % 2 ^ a.bits = c.rest.ensures.0 ∙ ap (λ (x : ℕ). x % 2 ^ a.bits) c.load64-root.ensures in
    rw (le-ltb most_l1 _ h, ne_eqb (be64 s a.at % 2 ^ a.bits) 0 (λ e. omega arith))

pub returns : goal.returns
unfolding bad_root
returns c =
    let a = c.args in
    let s = a.image.now in
    let h : be32 s (a.at + 8) ≤ most_l1 = omega (arith, c.load32-size.ensures) in
    let v : c.rest.result ≡ be64 s a.at % 2 ^ a.bits = c.rest.ensures.0 ∙ ap (λ (x : ℕ). x % 2 ^ a.bits) c.load64-root.ensures in
    rw (le-ltb most_l1 _ h, eq-eqb (be64 s a.at % 2 ^ a.bits) 0 (omega arith), ← c.load64-root.ensures, ← c.load32-size.ensures) c.past.ensures
