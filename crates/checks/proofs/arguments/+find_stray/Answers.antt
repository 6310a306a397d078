use Rattle.checks.specs.{ap, sym, ◌∙◌, pieces_of, arguments, find_stray}
use Rattle.script.proofs.ArgumentLemmas.{arguments_none}
use Rattle.checks.proofs.arguments.+find_stray.Goals as goal

pub returns-in_default : goal.returns-in_default
returns-in_default t c =
    sym (ap (λ text. find_stray c.args.column (arguments c.args.forms.now (pieces_of text))) c.in_default.is ∙ ap (find_stray c.args.column) (arguments_none c.args.forms.now))
