use native.Mathlib.Omega.{arith}
use Prim.Native.Nat.{◌/◌, ◌%◌, ◌^◌}
use borrow.Author.Tests.{eq-eqb, ne_eqb}
use Rattle.qcow2_spec.specs.Entries.{good_l1}
use Rattle.qcow2_entry.proofs.good_l1.Goals as goal

pub returns-then-e-ne0 : goal.returns-then-e-ne0
unfolding good_l1
returns-then-e-ne0 c = rw (ne_eqb (c.args.e % 512) 0 (λ e. omega arith))

pub returns-then-e-ne0-2 : goal.returns-then-e-ne0-2
unfolding good_l1
returns-then-e-ne0-2 c =
    let a = c.args in
    rw (eq-eqb (a.e % 512) 0 (omega arith), ne_eqb (a.e / 2 ^ 56 % 128) 0 (λ e. omega arith))

pub returns : goal.returns
unfolding good_l1
returns c =
    let a = c.args in
    rw (eq-eqb (a.e % 512) 0 (omega arith), eq-eqb (a.e / 2 ^ 56 % 128) 0 (omega arith)) c.good_place.ensures
