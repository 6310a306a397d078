-- `invocation`: the first text of an argument (`JobLemmas`).
use Rattle.commands.specs.{codes, found_of}
use Rattle.commands.proofs.JobLemmas.{text_read}
use Rattle.commands.proofs.command.invocation.Goals as goal

pub returns-clause-asked : goal.returns-clause-asked
returns-clause-asked c = record {
  request = c.in_ok-request.ensures.request;
  script = c.script_of.ensures;
  log = text_read (found_of c.args.found.now) (codes "log") _ c.get_str.ensures;
  quiet = c.is_quiet.ensures;
}
