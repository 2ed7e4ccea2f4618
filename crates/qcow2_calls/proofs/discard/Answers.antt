use Rattle.std.specs.Prelude.{ℕ, Result, Ok, Err}
use Rattle.units.specs.declared.Ended.{Ended}
use native.Mathlib.Omega.{arith}
use Rattle.std.proofs.lemmas.Grind.{common_steps}
use mathlib.Core.Path.{◌≡◌, refl}
use Rattle.units.proofs.Steps.{refusal}
use Rattle.qcow2_own.proofs.Ready.{found-ready}
use Rattle.qcow2_own.proofs.Requests.{discard-past, has_row-cluster, discard-some, discard-refused}
use Rattle.qcow2_calls.proofs.discard.Goals as goal

pub disk_clusters-requires : goal.disk_clusters-requires
disk_clusters-requires c = let o = c.requires.0 in (o.high, o.far)

pub returns-then-disk_clusters-guest : goal.returns-then-disk_clusters-guest
returns-then-disk_clusters-guest c =
    let a = c.args in
    rw (c.into.ensures, discard-past a.g a.image.now c.requires a.guest (rw c.disk_clusters.ensures at c.if-disk_clusters-guest.true)) (refusal 11 a.allowance a.image.now _ refl)

pub own_way-requires : goal.own_way-requires
own_way-requires c =
    let a = c.args in
    (c.requires, has_row-cluster a.g a.image.now c.requires a.guest (rw c.disk_clusters.ensures at c.if-disk_clusters-guest.false))

pub discard_way-requires : goal.discard_way-requires
discard_way-requires c =
    let a = c.args in
    let s = a.image.now in
    let l = rw c.disk_clusters.ensures at c.if-disk_clusters-guest.false in
    (c.requires.0, found-ready a.g s a.guest _ c.in_ok-way.ensures c.requires (has_row-cluster a.g s c.requires a.guest l))

pub returns-in_err-way : goal.returns-in_err-way
returns-in_err-way c =
    let a = c.args in
    let s = a.image.now in
    let k = c.in_err-way.field-0.0 in
    let r : ◌≡◌ {A = Result Ended ℕ} c.from_residual.result (Err k) = grind (arith, common_steps) in
    rw (discard-refused a.g s c.requires a.guest (rw c.disk_clusters.ensures at c.if-disk_clusters-guest.false) k c.in_err-way.ensures) (refusal k a.allowance s _ r)

pub returns : goal.returns
returns c =
    let a = c.args in
    let l = rw c.disk_clusters.ensures at c.if-disk_clusters-guest.false in
    rw (discard-some a.g a.image.now c.requires a.guest l (Ok c.in_ok-way.way) c.in_ok-way.ensures) c.discard_way.ensures
