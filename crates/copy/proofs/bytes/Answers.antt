use lib.Seq.{length-take-le}
use Rattle.endian.proofs.Laws.{put_mid-splice}
use Rattle.copy.proofs.bytes.Goals as goal

pub returns : goal.returns
returns c = put_mid-splice _ _ _ _ _ c.copy_from_slice.ensures.after (length-take-le _ _ c.requires.1)
