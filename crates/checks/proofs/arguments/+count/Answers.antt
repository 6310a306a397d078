use Rattle.checks.specs.{ap, length, sym, ◌∙◌, arguments, pieces_of}
use Rattle.script.proofs.ArgumentLemmas.{arguments_none}
use Rattle.checks.proofs.arguments.+count.Goals as goal

pub returns-in_default-clause-count : goal.returns-in_default-clause-count
returns-in_default-clause-count t c =
    sym (ap (λ text. length (arguments c.args.forms.now (pieces_of text))) c.in_default.is ∙ ap length (arguments_none c.args.forms.now))
