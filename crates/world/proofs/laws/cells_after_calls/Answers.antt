use Rattle.world.proofs.CellLaws.{call-keeps, call-leads, call-takes}
use Rattle.world.proofs.laws.cells_after_calls.Goals as goal

pub returns-clause-written : goal.returns-clause-written
returns-clause-written c = call-takes

pub returns-clause-kept : goal.returns-clause-kept
returns-clause-kept c = λ world call u v z sound accepted. call-keeps world call sound accepted u v z

pub returns-clause-leads : goal.returns-clause-leads
returns-clause-leads c = λ world call u v z sound accepted. call-leads world call sound accepted u v z
