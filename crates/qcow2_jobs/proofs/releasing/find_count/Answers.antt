use mathlib.Core.Path.{◌≡◌, sym, ◌∙◌}
use lib.ListN.{length}
use Rattle.qcow2_spec.specs.Counts.{count_of}
use Rattle.qcow2_jobs.proofs.Discards.{uncounted, falls}
use Rattle.qcow2_jobs.proofs.releasing.find_count.Goals as goal

pub count_at-count_at-requires : goal.count_at-count_at-requires
count_at-count_at-requires c = (c.requires.0, c.requires.1.1)

pub returns-then-n-eq0 : goal.returns-then-n-eq0
unfolding count_of
returns-then-n-eq0 c =
    let a = c.args in
    let l = a.image.now in
    let z : count_of l a.k ≡ 0 = rw (c.count_at-count_at.ensures.0, c.requires.0.is-width) at (sym c.load-n.ensures ∙ c.if-n-eq0.true) in
    rw c.into.ensures (uncounted l (length l) a.at a.value a.k z)

pub returns : goal.returns
unfolding count_of
returns c =
    let a = c.args in
    let l = a.image.now in
    let p = c.count_at-count_at in
    let n = c.load-n in
    let m : n.result ≡ count_of l a.k = rw (p.ensures.0, c.requires.0.is-width) at n.ensures in
    falls l (length l) a.at a.value a.k a.g.order p.result n.result c.requires.0.is-width p.ensures.0 m c.if-n-eq0.false c.requires.1.0 p.ensures.1
