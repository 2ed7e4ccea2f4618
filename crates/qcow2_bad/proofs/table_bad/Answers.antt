use mathlib.Core.Path.{sym}
use mathlib.Core.Bool.{true≢false}
use Rattle.qcow2_bad.proofs.Tables.{spot_known}
use Rattle.qcow2_bad.proofs.table_bad.Goals as goal

pub root_at-root-requires : goal.root_at-root-requires
root_at-root-requires c = c.requires.0

pub search-requires : goal.search-requires
search-requires c =
    let a = c.args in
    let r = c.root_at-root.ensures in
    let p = c.requires.1 in
    ((r.0, λ e. absurd (true≢false (sym e))), (rw (r.0.is_l1size, r.1) p.few, spot_known a.image.now a.t c.root_at-root.result.root a.i a.j r.1 p))

pub returns : goal.returns
returns c = rw c.root_at-root.ensures.1 at c.search.ensures
