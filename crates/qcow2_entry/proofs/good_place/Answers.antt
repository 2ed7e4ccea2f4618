use native.Mathlib.Omega.{arith}
use Prim.Native.Nat.{◌+◌, ◌^◌, ◌%◌}
use mathlib.Core.Path.{◌≡◌, sym}
use mathlib.Core.Bool.{true, false}
use borrow.Author.Tests.{ltb-true, ltb-false}
use lib.Dec.{ltb}
use Rattle.qcow2_spec.specs.Entries.{place}
use Rattle.qcow2_entry.proofs.Laws.{place_none, place-odd, place-past, place_in}
use Rattle.qcow2_entry.proofs.good_place.Goals as goal

pub returns-then-p-eq0 : goal.returns-then-p-eq0
returns-then-p-eq0 c = sym (place_none _ _ _ (omega arith))

pub returns-then-rest-ne0 : goal.returns-then-rest-ne0
returns-then-rest-ne0 c =
    let a = c.args in
    let v : place a.e ≡ c.place_of-p.result = cc in
    let r : place a.e % 2 ^ a.bits ≡ c.rest.result = cc in
    sym (place-odd _ _ _ (λ h. omega arith) (λ h. omega arith))

pub returns-then-past : goal.returns-then-past
returns-then-past c =
    let a = c.args in
    let v : place a.e ≡ c.place_of-p.result = cc in
    let r : place a.e % 2 ^ a.bits ≡ c.rest.result = cc in
    let t : ltb a.n (place a.e + 2 ^ a.bits) ≡ true = cc in
    sym (place-past _ _ _ (λ h. omega arith) (omega arith) (ltb-true _ _ t))

pub returns : goal.returns
returns c =
    let a = c.args in
    let v : place a.e ≡ c.place_of-p.result = cc in
    let r : place a.e % 2 ^ a.bits ≡ c.rest.result = cc in
    let t : ltb a.n (place a.e + 2 ^ a.bits) ≡ false = cc in
    sym (place_in _ _ _ (λ h. omega arith) (omega arith) (ltb-false _ _ t))
