use mathlib.Core.Path.{refl}
use mathlib.Core.List.{[], ◌∷◌}
use Rattle.units.proofs.Steps.{two}
use Rattle.qcow2_put.specs.Links.{unit_of}
use Rattle.qcow2_put.proofs.linking.put_two.Goals as goal

pub returns : goal.returns
returns c =
    let a = c.args in
    let p = c.put-rest in
    let q = c.put in
    two (unit_of a.u ∷ []) (unit_of a.v ∷ []) a.image.now p.new.image q.new.image a.left p.result 1 refl p.ensures.0 p.ensures.1 q.ensures.1

pub put-rest-requires : goal.put-rest-requires
put-rest-requires c = c.requires.0

pub put-requires : goal.put-requires
put-requires c = rw c.put-rest.auto.image c.requires.1
