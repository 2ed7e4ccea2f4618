use Rattle.endian.specs.Big.{bytes16}
use Rattle.endian.proofs.Laws.{put_mid-splice, length-bytes16}
use Rattle.endian.proofs.store16.Goals as goal

pub returns : goal.returns
unfolding bytes16
returns c = put_mid-splice _ _ _ _ _ (cc) (length-bytes16 c.args.x)
