use mathlib.Core.Path.{◌∙◌}
use Rattle.endian.proofs.Laws.{put_mid-splice, length-bytes64, word64}
use Rattle.endian.proofs.store64.Goals as goal

pub returns : goal.returns
returns c =
    let x = c.args.x in
    put_mid-splice _ _ _ _ _ (c.copy_from_slice.ensures.after ∙ c.to_be_bytes.ensures ∙ word64 x) (length-bytes64 x)
