use borrow.Author.Rules.{rules}
use native.Mathlib.Omega.{arith}
use Prim.Native.Nat.{ℕ, ◌+◌, ◌/◌, ◌^◌}
use mathlib.Core.Path.{◌≡◌, sym, ap, ◌∙◌}
use lib.ListN.{length}
use Rattle.qcow2_spec.specs.Entries.{place}
use Rattle.qcow2_marks.proofs.Fairs.{cluster_of, right-none, right-some}
use Rattle.qcow2_marks.proofs.mark_right.Goals as goal
use Rattle.qcow2_marks.proofs.mark_right.Goals.{After-quotient-c}

-- the cluster of the place
found : (c : After-quotient-c) → c.quotient-c.result ≡ place c.args.e / 2 ^ c.args.bits
found c =
    let a = c.args in
    c.quotient-c.ensures.0 ∙ ap (λ (x : ℕ). x / 2 ^ (a.bits + 1)) c.twice.ensures
    ∙ cluster_of a.bits (length a.scratch.now / 2) a.e c.requires.0.0 c.requires.1

pub returns-then-c-eq0 : goal.returns-then-c-eq0
returns-then-c-eq0 c =
    let a = c.args in
    right-none a.bits (length a.scratch.now / 2) a.e a.scratch.now c.requires.1 (sym (found (goal.at.returns-then-c-eq0 c).After-quotient-c) ∙ c.if-c-eq0.true)

pub overflow_mul-c : goal.overflow_mul-c
overflow_mul-c c =
    omega (arith, found (goal.at.overflow_mul-c c).After-quotient-c, c.requires.1.inside)

pub load16-requires : goal.load16-requires
load16-requires c =
    omega (arith, found (goal.at.load16-requires c).After-quotient-c, c.requires.1.inside)

pub returns : goal.returns
returns c =
    let a = c.args in
    rw (c.mark_of.ensures, c.load16.ensures, found (goal.at.returns c).After-quotient-c)
    (right-some a.bits a.e a.scratch.now (search rules) (λ z. c.if-c-eq0.false (found (goal.at.returns c).After-quotient-c ∙ z)))
