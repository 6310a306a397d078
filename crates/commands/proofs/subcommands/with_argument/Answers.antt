-- `with_argument`: the argument is added, and isn't global (`JobLemmas`).
use Rattle.commands.specs.{IfOk-weaker}
use Rattle.commands.proofs.JobLemmas.{still_local}
use Rattle.commands.proofs.subcommands.with_argument.Goals as goal

pub returns-clause-app : goal.returns-clause-app
returns-clause-app c = IfOk-weaker c.arg.result _ _ (λ r h. h.shape c.requires) c.arg.ensures

pub returns-clause-local : goal.returns-clause-local
returns-clause-local c = IfOk-weaker c.arg.result _ _ (λ r h. still_local _ _ _ h.globals c.requires) c.arg.ensures
