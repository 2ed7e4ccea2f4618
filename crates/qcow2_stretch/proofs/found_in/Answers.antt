use native.Mathlib.Omega.{arith}
use native.Mathlib.Nat.{add-zero}
use Prim.Native.Nat.{ℕ, ◌-◌, ◌^◌, ◌≤◌}
use Rattle.std.specs.Prelude.{Some, None, Ok}
use borrow.Author.Rules.{rules}
use Rattle.std.proofs.lemmas.Grind.{common_steps}
use mathlib.Core.Path.{◌≡◌, sym, ◌∙◌}
use lib.Pow.{pow_pos}
use Rattle.qcow2_spec.specs.declared.Geometry.{Geometry}
use Rattle.qcow2_guest.specs.Rows.{row_left}
use Rattle.qcow2_guest.proofs.Bytes.{row-left-some}
use Rattle.qcow2_stretch.proofs.Levels.{bad-found, empty-found, table_below}
use Rattle.qcow2_stretch.proofs.found_in.Goals as goal

one : (g : Geometry) (x : ℕ) → 1 ≤ row_left (2 ^ g.bits) (2 ^ (g.bits - 3)) x
one g x = omega (arith, row-left-some (2 ^ g.bits) (2 ^ (g.bits - 3)) x (pow_pos g.bits) (pow_pos (g.bits - 3)))

pub found_below-requires : goal.found_below-requires
found_below-requires c =
    let a = c.args in
    let e : a.w ≡ Ok (Some c.in-Some.t) = search rules in
    (c.requires.0, table_below a.g a.image.now c.requires.0 a.x 1 (one a.g a.x) _ (sym e ∙ c.requires.1) (omega arith))

pub returns-in_err-w : goal.returns-in_err-w
returns-in_err-w c =
    let a = c.args in
    let h = sym (rw add-zero at (bad-found a.g a.image.now c.requires.0 a.x 1 (one a.g a.x) _ (sym c.in_err-w.was ∙ c.requires.1) 0 (omega arith))) in
    grind (arith, common_steps, h)

pub returns-in-None : goal.returns-in-None
returns-in-None c =
    let a = c.args in
    let e : a.w ≡ Ok None = search rules in
    sym (rw add-zero at (empty-found a.g a.image.now c.requires.0 a.x 1 (one a.g a.x) (sym e ∙ c.requires.1) 0 (omega arith)))

pub returns-in-Some : goal.returns-in-Some
returns-in-Some c = c.found_below.ensures
