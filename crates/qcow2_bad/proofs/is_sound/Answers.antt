use Rattle.qcow2_bad.proofs.Tables.{unsound}
use Rattle.qcow2_bad.proofs.is_sound.Goals as goal

pub returns-in_default : goal.returns-in_default
returns-in_default c = unsound c.args.v c.in_default.not-Sound
