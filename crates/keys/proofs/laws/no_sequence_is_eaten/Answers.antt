-- `no_sequence_is_eaten`: what begins with an escape is read whatever was pending (`Resuming`).
use Rattle.keys.proofs.Resuming.{key-resumes}
use Rattle.keys.proofs.laws.no_sequence_is_eaten.Goals as goal

pub returns : goal.returns
returns c = key-resumes
