-- `key_is_answered`: what is read of the bytes of a whole sequence (`Readings`).
use Rattle.keys.proofs.Readings.{key-read}
use Rattle.keys.proofs.laws.key_is_answered.Goals as goal

pub returns : goal.returns
returns c = key-read
