use Rattle.std.specs.Prelude.{ℕ, Result, Ok, Err}
use Rattle.std.proofs.lemmas.Grind.{common_steps}
use Prim.Native.Nat.{◌/◌, ◌<◌}
use native.Mathlib.Omega.{arith}
use mathlib.Core.Path.{◌≡◌, sym, ◌∙◌}
use Rattle.qcow2_spec.specs.Header.{per_table, root_size}
use Rattle.qcow2_own.proofs.Ready.{found-ready}
use Rattle.qcow2_own.proofs.Requests.{fits, has_row, write-past, write-none, write-some, write-refused}
use Rattle.qcow2_ways.proofs.Listings.{list_refused, list_none}
use Rattle.qcow2_steps.proofs.write_in.Goals as goal

pub past_write-requires : goal.past_write-requires
past_write-requires c = c.requires.0.high

pub returns-then-past_write : goal.returns-then-past_write
returns-then-past_write c u d e =
    let a = c.args in
    let s = a.image.now in
    rw c.into.ensures (list_refused s _ a.rows.now 11 (write-past a.g s c.requires a.x a.len u d e (sym c.past_write.ensures ∙ c.if-past_write.true)))

pub returns-then-len-eq0 : goal.returns-then-len-eq0
returns-then-len-eq0 c u d e =
    let a = c.args in
    let s = a.image.now in
    list_none s _ a.rows.now (write-none a.g s c.requires a.x a.len u d e (sym c.past_write.ensures ∙ c.if-past_write.false) c.if-len-eq0.true)

pub quotient-guest-requires : goal.quotient-guest-requires
quotient-guest-requires c = omega (arith, c.requires.0.high)

pub own_way-requires : goal.own_way-requires
own_way-requires c =
    let a = c.args in
    (c.requires, rw (c.quotient-guest.ensures.0, c.requires.0.is-cluster) (has_row a.g a.image.now c.requires a.x a.len (sym c.past_write.ensures ∙ c.if-past_write.false) c.if-len-eq0.false))

pub rest-o-requires : goal.rest-o-requires
rest-o-requires c = omega (arith, c.requires.0.high)

pub write_way-requires : goal.write_way-requires
write_way-requires c =
    let a = c.args in
    let s = a.image.now in
    let q = sym c.past_write.ensures ∙ c.if-past_write.false in
    let y = c.quotient-guest.result in
    let h : y / per_table s < root_size s 0 = rw (c.quotient-guest.ensures.0, c.requires.0.is-cluster) (has_row a.g s c.requires a.x a.len q c.if-len-eq0.false) in
    ((c.requires, found-ready a.g s y _ c.in_ok-way.ensures c.requires h), (rw c.rest-o.ensures.0 (fits a.g s c.requires a.x a.len q), omega (arith, c.if-len-eq0.false)))

pub returns-in_err-way : goal.returns-in_err-way
returns-in_err-way c u d e =
    let a = c.args in
    let s = a.image.now in
    let k = c.in_err-way.field-0.0 in
    let r : ◌≡◌ {A = Result ℕ ℕ} c.from_residual.result (Err k) = grind (arith, common_steps) in
    rw r (list_refused s _ a.rows.now k (write-refused a.g s c.requires a.x a.len u d e c.quotient-guest.result k (sym c.past_write.ensures ∙ c.if-past_write.false) c.if-len-eq0.false c.quotient-guest.ensures.0 c.in_err-way.ensures))

pub returns : goal.returns
returns c u d e =
    let a = c.args in
    rw (write-some a.g a.image.now c.requires a.x a.len u d e c.quotient-guest.result c.rest-o.result (Ok c.in_ok-way.way) (sym c.past_write.ensures ∙ c.if-past_write.false) c.if-len-eq0.false c.quotient-guest.ensures.0 c.rest-o.ensures.0 c.in_ok-way.ensures)
    (c.write_way.ensures u d e)
