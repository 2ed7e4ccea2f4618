use native.Mathlib.Omega.{arith}
use Prim.Native.Nat.{◌/◌, ◌%◌, ◌^◌}
use mathlib.Core.Path.{◌≡◌}
use mathlib.Core.Bool.{true, false, not, ◌||◌}
use borrow.Author.Tests.{eq-eqb, ne_eqb}
use lib.Dec.{eqb}
use Rattle.qcow2_spec.specs.Entries.{good_l2, compressed, zero_mark}
use Rattle.qcow2_entry.proofs.good_l2.Goals as goal

pub returns-then-is_compressed : goal.returns-then-is_compressed
unfolding good_l2
returns-then-is_compressed c =
    let t : compressed c.args.e ≡ true = cc in
    rw t

pub returns-then-e-ne0 : goal.returns-then-e-ne0
unfolding good_l2
returns-then-e-ne0 c =
    let a = c.args in
    let t : compressed a.e ≡ false = cc in
    rw (t, ne_eqb (a.e % 512 / 2) 0 (λ e. omega arith))

pub returns-then-e-ne0-2 : goal.returns-then-e-ne0-2
unfolding good_l2
returns-then-e-ne0-2 c =
    let a = c.args in
    let t : compressed a.e ≡ false = cc in
    rw (t, eq-eqb (a.e % 512 / 2) 0 (omega arith), ne_eqb (a.e / 2 ^ 56 % 64) 0 (λ e. omega arith))

pub returns-then-good_mark : goal.returns-then-good_mark
unfolding good_l2
returns-then-good_mark c =
    let a = c.args in
    let t : compressed a.e ≡ false = cc in
    let m : (not (zero_mark a.e) || eqb a.version 3) ≡ true = cc in
    rw (t, eq-eqb (a.e % 512 / 2) 0 (omega arith), eq-eqb (a.e / 2 ^ 56 % 64) 0 (omega arith), m) c.good_place.ensures

pub returns : goal.returns
unfolding good_l2
returns c =
    let a = c.args in
    let t : compressed a.e ≡ false = cc in
    let m : (not (zero_mark a.e) || eqb a.version 3) ≡ false = cc in
    rw (t, eq-eqb (a.e % 512 / 2) 0 (omega arith), eq-eqb (a.e / 2 ^ 56 % 64) 0 (omega arith), m)
