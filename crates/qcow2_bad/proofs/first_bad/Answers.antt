use borrow.Author.Rules.{rules}
use native.Mathlib.Omega.{arith}
use Prim.Native.Nat.{◌+◌, ◌-◌, ◌<◌}
use mathlib.Core.Path.{sym, ◌∙◌}
use Rattle.qcow2_spec.specs.Header.{roots}
use Rattle.qcow2_bad.proofs.Tables.{sound-is, tables-first, tables_miss, tables_hit, tables-none, tables_later, tables-many, spot-first}
use Rattle.qcow2_bad.proofs.first_bad.Goals as goal
use Rattle.qcow2_bad.proofs.first_bad.Goals.{In-loop-t}

pub overflow_add-count : goal.overflow_add-count
overflow_add-count c = omega (arith, (tables-many c.args.g c.args.image.now c.requires.0.0).1)

pub loop-t-init : goal.loop-t-init
loop-t-init c =
    let p = c.requires.1 in
    (tables_later c.args.image.now c.args.root p.few p.tables, p.spot)

-- inside the loop there is a table
there : (c : In-loop-t) → c.loop-t.t < roots c.args.image.now
there c =
    omega (arith, c.loop-t-test.true, (tables-many c.args.g c.args.image.now c.requires.0.0).0)

pub table_bad-v-requires : goal.table_bad-v-requires
table_bad-v-requires c =
    ((c.requires.0, there (goal.at.table_bad-v-requires c).In-loop-t), c.loop-t.invariant.1 (there (goal.at.table_bad-v-requires c).In-loop-t))

pub loop-t-preserved : goal.loop-t-preserved
loop-t-preserved c =
    let t = c.loop-t.t in
    let s = c.args.image.now in
    let e = sound-is c.table_bad-v.result (sym c.is_sound.ensures ∙ c.if-not-is_sound.false) in
    (sym (tables_miss s t (there (goal.at.loop-t-preserved c).In-loop-t) (sym c.table_bad-v.ensures ∙ e)) ∙ c.loop-t.invariant.0, λ h. spot-first s (t + 1))

pub returns-then-not-is_sound : goal.returns-then-not-is_sound
returns-then-not-is_sound c =
    let t = c.loop-t.t in
    let s = c.args.image.now in
    sym (tables_hit s t c.table_bad-v.result (there (goal.at.returns-then-not-is_sound c).In-loop-t) c.table_bad-v.ensures (sym c.is_sound.ensures ∙ c.if-not-is_sound.true)) ∙ c.loop-t.invariant.0 ∙ tables-first s

pub returns : goal.returns
returns c =
    let s = c.args.image.now in
    sym (tables-none s c.loop-t.t (omega (arith, c.loop-t-test.false, (tables-many c.args.g s c.requires.0.0).0))) ∙ c.loop-t.invariant.0 ∙ tables-first s
