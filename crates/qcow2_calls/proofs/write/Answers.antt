use Rattle.std.specs.Prelude.{ℕ, Result, Ok, Err}
use Rattle.units.specs.declared.Ended.{Ended}
use Rattle.std.proofs.lemmas.Grind.{common_steps}
use Prim.Native.Nat.{◌/◌, ◌<◌}
use native.Mathlib.Omega.{arith}
use mathlib.Core.Path.{◌≡◌, refl, sym, ◌∙◌}
use lib.ListN.{length}
use Rattle.units.proofs.Steps.{refusal, nothing}
use Rattle.qcow2_spec.specs.Header.{per_table, root_size}
use Rattle.qcow2_own.proofs.Ready.{found-ready}
use Rattle.qcow2_own.proofs.Requests.{fits, starts, has_row, write-past, write-none, write-some, write-refused}
use Rattle.qcow2_calls.proofs.write.Goals as goal

pub past_write-requires : goal.past_write-requires
past_write-requires c = c.requires.0.high

pub returns-then-past_write : goal.returns-then-past_write
returns-then-past_write c =
    let a = c.args in
    let d = a.src.now in
    rw (c.into.ensures, write-past a.g a.image.now c.requires a.x (length d) a.backing.now d refl (sym c.past_write.ensures ∙ c.if-past_write.true)) (refusal 11 a.allowance a.image.now _ refl)

pub returns-then-len-eq0 : goal.returns-then-len-eq0
returns-then-len-eq0 c =
    let a = c.args in
    let d = a.src.now in
    rw (write-none a.g a.image.now c.requires a.x (length d) a.backing.now d refl (sym c.past_write.ensures ∙ c.if-past_write.false) c.if-len-eq0.true) (nothing a.allowance a.image.now _ c.end_of.ensures)

pub quotient-guest-requires : goal.quotient-guest-requires
quotient-guest-requires c = omega (arith, c.requires.0.high)

pub own_way-requires : goal.own_way-requires
own_way-requires c =
    let a = c.args in
    let s = a.image.now in
    (c.requires, rw (c.quotient-guest.ensures.0, c.requires.0.is-cluster) (has_row a.g s c.requires a.x (length a.src.now) (sym c.past_write.ensures ∙ c.if-past_write.false) c.if-len-eq0.false))

pub rest-o-requires : goal.rest-o-requires
rest-o-requires c = omega (arith, c.requires.0.high)

pub write_way-requires : goal.write_way-requires
write_way-requires c =
    let a = c.args in
    let s = a.image.now in
    let n = length a.src.now in
    let q = sym c.past_write.ensures ∙ c.if-past_write.false in
    let y = c.quotient-guest.result in
    let h : y / per_table s < root_size s 0 = rw (c.quotient-guest.ensures.0, c.requires.0.is-cluster) (has_row a.g s c.requires a.x n q c.if-len-eq0.false) in
    (((c.requires, found-ready a.g s y _ c.in_ok-way.ensures c.requires h), rw c.quotient-guest.ensures.0 (starts a.g s c.requires a.x n q c.if-len-eq0.false)), (rw c.rest-o.ensures.0 (fits a.g s c.requires a.x n q), omega (arith, c.if-len-eq0.false)))

pub returns-in_err-way : goal.returns-in_err-way
returns-in_err-way c =
    let a = c.args in
    let s = a.image.now in
    let k = c.in_err-way.field-0.0 in
    let r : ◌≡◌ {A = Result Ended ℕ} c.from_residual.result (Err k) = grind (arith, common_steps) in
    rw (write-refused a.g s c.requires a.x (length a.src.now) a.backing.now a.src.now refl c.quotient-guest.result k (sym c.past_write.ensures ∙ c.if-past_write.false) c.if-len-eq0.false c.quotient-guest.ensures.0 c.in_err-way.ensures) (refusal k a.allowance s _ r)

pub returns : goal.returns
returns c =
    let a = c.args in
    let d = a.src.now in
    rw (write-some a.g a.image.now c.requires a.x (length d) a.backing.now d refl c.quotient-guest.result c.rest-o.result (Ok c.in_ok-way.way) (sym c.past_write.ensures ∙ c.if-past_write.false) c.if-len-eq0.false c.quotient-guest.ensures.0 c.rest-o.ensures.0 c.in_ok-way.ensures)
    c.write_way.ensures
