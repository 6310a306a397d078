-- `finish`: what is handed on last needn't be a full outbox (`Gathering`).
use Rattle.paint.proofs.Gathering.{finished}
use Rattle.paint.proofs.outbox.Outbox.finish.Goals as goal

pub returns-clause-few : goal.returns-clause-few
returns-clause-few g c = λ start text h. finished h c.hand_on.ensures.once
