use Rattle.windows.specs.{◌∙◌, arith, windows}
use Rattle.windows.proofs.States.{set-all}
use Rattle.windows.proofs.state.set_settings.Goals as goal

pub returns-clause-set : goal.returns-clause-set
returns-clause-set c = c.set_settings.ensures.set ∙ set-all (windows c.args.table.now) c.args.win.0 c.args.settings (grind arith)
