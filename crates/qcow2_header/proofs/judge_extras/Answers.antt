use mathlib.Core.Path.{◌≡◌, sym, ◌∙◌}
use mathlib.Core.Bool.{true}
use Rattle.qcow2_spec.specs.Header.{unsupported}
use Rattle.qcow2_spec.proofs.Facts.{order_small}
use Rattle.qcow2_header.specs.Chain.{from6}
use Rattle.qcow2_header.proofs.judge_extras.Goals as goal

pub returns-then-has_extras : goal.returns-then-has_extras
unfolding from6
returns-then-has_extras c = let e : unsupported c.args.image.now ≡ true = cc in rw e cc

pub returns : goal.returns
unfolding from6
returns c = rw (← c.has_extras.ensures, c.if-has_extras.false) c.judge_features.ensures

pub judge_features-requires : goal.judge_features-requires
judge_features-requires c =
    record { sized = c.requires; narrow = order_small c.args.image.now (sym c.has_extras.ensures ∙ c.if-has_extras.false) }
