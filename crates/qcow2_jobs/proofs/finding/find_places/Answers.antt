use native.Mathlib.Omega.{arith}
use Prim.Native.Nat.{◌^◌}
use mathlib.Core.Path.{refl, sym, subst}
use lib.ListN.{length}
use Rattle.qcow2_put.specs.Links.{Linked}
use Rattle.qcow2_put.specs.declared.linking.Places.{Places}
use Rattle.qcow2_counts.proofs.Sizes.{inside-at}
use Rattle.qcow2_jobs.proofs.Links.{link_is, places_are, places_in}
use Rattle.qcow2_jobs.proofs.finding.find_places.Goals as goal

pub overflow_mul-table : goal.overflow_mul-table
overflow_mul-table c =
    let a = c.args in
    let h = inside-at a.g a.image.now c.requires.0.0.0 a.t c.bytes_of-c.result c.requires.1.0 c.bytes_of-c.ensures.0 in
    omega (arith, c.requires.0.0.0.short)

pub count_at-requires : goal.count_at-requires
count_at-requires c = (c.requires.0.0.0, c.requires.1.0)

pub count_at-requires-2 : goal.count_at-requires-2
count_at-requires-2 c = (c.requires.0.0.0, c.requires.1.1)

pub overflow_mul-result : goal.overflow_mul-result
overflow_mul-result c =
    let a = c.args in
    let h = inside-at a.g a.image.now c.requires.0.0.0 a.k c.bytes_of-c.result c.requires.1.1 c.bytes_of-c.ensures.0 in
    omega (arith, c.requires.0.0.0.short)

pub overflow_add-result : goal.overflow_add-result
overflow_add-result c =
    let a = c.args in
    let h = inside-at a.g a.image.now c.requires.0.0.0 a.t c.bytes_of-c.result c.requires.1.0 c.bytes_of-c.ensures.0 in
    omega (arith, c.requires.0.0.0.short)

pub overflow_mul-result-3 : goal.overflow_mul-result-3
overflow_mul-result-3 c =
    let a = c.args in
    let h = link_is a.g a.image.now c.requires.0.0.0 a.guest c.requires.0.0.1 c.quotient.result c.quotient.ensures.0 in
    omega (arith, c.requires.0.0.0.short)

pub overflow_add-result-2 : goal.overflow_add-result-2
overflow_add-result-2 c =
    let a = c.args in
    let h = link_is a.g a.image.now c.requires.0.0.0 a.guest c.requires.0.0.1 c.quotient.result c.quotient.ensures.0 in
    omega (arith, c.requires.0.0.0.short)

pub returns : goal.returns
returns c =
    let a = c.args in
    let l = a.image.now in
    let o = c.requires.0.0.0 in
    let m = link_is a.g l o a.guest c.requires.0.0.1 c.quotient.result c.quotient.ensures.0 in
    let e = places_are a.g l o a.guest a.t a.k a.g.order _ _ c.bytes_of-c.result _ _ refl c.bytes_of-c.ensures.0 c.count_at.ensures.0 c.count_at-2.ensures.0 c.rest.ensures.0 m in
    (e, subst (λ (q : Places). Linked (length l) q (2 ^ a.g.bits)) (sym e) (places_in a.g l o a.guest a.t a.k c.requires.0.1 c.requires.1.0 c.requires.1.1))
