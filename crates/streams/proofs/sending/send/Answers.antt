-- `send`: texts that are sent one after another (`Sends`).
use Rattle.streams.specs.{arith, common_steps, take_rest, ne_eqb}
use Rattle.streams.proofs.Sends.{IsPartlySent-more}
use Rattle.streams.proofs.sending.send.Goals as goal

pub loop-rest-preserved : goal.loop-rest-preserved
loop-rest-preserved g c = grind (arith, take_rest, IsPartlySent-more, ne_eqb)

-- search takes seconds to fail at these two
pub returns-in-Ok-eq0-clause-sends : goal.returns-in-Ok-eq0-clause-sends
returns-in-Ok-eq0-clause-sends g c = grind (arith, common_steps)

pub returns-in-Err-clause-sends : goal.returns-in-Err-clause-sends
returns-in-Err-clause-sends g c = grind (arith, common_steps)
