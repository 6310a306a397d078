-- `matches_of`: what clap says of this program's command line (`JobLemmas`).
use Rattle.commands.specs.{map, IfOk-weaker}
use Rattle.commands.proofs.JobLemmas.{fails_by_curspan, subcommand_of_curspan}
use Rattle.commands.proofs.command.matches_of.Goals as goal

pub returns-clause-subcommand : goal.returns-clause-subcommand
returns-clause-subcommand g c =
    let words = map g.S.AsStr.text c.args.words.now in
    IfOk-weaker c.try_get_matches_from.result _ _ (λ m h. subcommand_of_curspan _ words m c.in_ok-command.ensures h) c.try_get_matches_from.ensures.matches

pub returns-clause-faults : goal.returns-clause-faults
returns-clause-faults g c =
    fails_by_curspan _ (map g.S.AsStr.text c.args.words.now) c.try_get_matches_from.result c.in_ok-command.ensures c.try_get_matches_from.ensures.kinds
