use native.Mathlib.Omega.{arith}
use Prim.Native.Nat.{ℕ}
use mathlib.Core.Path.{◌≡◌, sym, subst}
use mathlib.Core.List.{List}
use Rattle.qcow2_spec.specs.declared.Geometry.{Geometry}
use Rattle.qcow2_marks.specs.Marks.{GoodTo}
use Rattle.qcow2_bad.proofs.first_mark.Goals as goal

-- the active table's entries are good
active : (g : Geometry) (s : List ℕ) → g.root ≡ 0 → GoodTo s 0 g.l1size → GoodTo s g.root g.l1size
active g s e h = subst (λ (t : ℕ). GoodTo s t g.l1size) (sym e) h

pub rows_right-from-requires : goal.rows_right-from-requires
rows_right-from-requires c =
    ((c.requires.0.0.0, c.requires.0.1), active c.args.g c.args.image.now c.requires.0.0.1 c.requires.1)

pub search-requires : goal.search-requires
search-requires c =
    let r = c.rows_right-from.ensures in
    ((c.requires.0.0.0, λ e. (c.requires.0.1, active c.args.g c.args.image.now c.requires.0.0.1 c.requires.1)), (r.0, (r.1, λ k l. absurd (omega arith))))

pub returns : goal.returns
returns c =
    rw c.requires.0.0.1 at c.search.ensures
