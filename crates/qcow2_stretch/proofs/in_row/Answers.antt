use Rattle.std.specs.Prelude.{Some, None, Ok}
use borrow.Author.Rules.{rules}
use mathlib.Core.Path.{◌≡◌, sym, ◌∙◌}
use Prim.Native.Nat.{◌+◌}
use Rattle.qcow2_stretch.proofs.Levels.{bad-found, empty-found, table_below, absent_still, refused_still, whole_row}
use Rattle.qcow2_stretch.proofs.in_row.Goals as goal

pub in_table-requires : goal.in_table-requires
in_table-requires c =
    let a = c.args in
    let p = c.requires.1.0 in
    let e : a.w ≡ Ok (Some c.in-Ok-Some.t) = search rules in
    (c.requires.0, (p, table_below a.g a.image.now c.requires.0.0 (a.x + a.i) a.left p.row _ (sym e ∙ c.requires.1.1) p.some))

pub returns-in-Err : goal.returns-in-Err
returns-in-Err c =
    let a = c.args in
    whole_row a.image.now a.g.root a.x a.i a.left a.f.now _ c.requires.0.1
    (bad-found a.g a.image.now c.requires.0.0 (a.x + a.i) a.left c.requires.1.0.row _ (sym c.in-Err.is ∙ c.requires.1.1)) (refused_still _ a.f.now) _ _ c.same.ensures c.all_if.ensures

pub returns-in-Ok-None : goal.returns-in-Ok-None
returns-in-Ok-None c =
    let a = c.args in
    let e : a.w ≡ Ok None = search rules in
    whole_row a.image.now a.g.root a.x a.i a.left a.f.now _ c.requires.0.1
    (empty-found a.g a.image.now c.requires.0.0 (a.x + a.i) a.left c.requires.1.0.row (sym e ∙ c.requires.1.1)) (absent_still a.f.now) _ _ c.same-in-Ok-None.ensures c.all_if-in-Ok-None.ensures

pub returns-in-Ok-Some : goal.returns-in-Ok-Some
returns-in-Ok-Some c = c.in_table.ensures
