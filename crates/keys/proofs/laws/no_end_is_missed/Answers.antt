-- `no_end_is_missed`: what begins with an escape is read whatever was pending (`Resuming`).
use Rattle.keys.proofs.Resuming.{paste-delays, paste-ends}
use Rattle.keys.proofs.laws.no_end_is_missed.Goals as goal

pub returns-clause-ends : goal.returns-clause-ends
returns-clause-ends c = paste-ends

pub returns-clause-delays : goal.returns-clause-delays
returns-clause-delays c = paste-delays
