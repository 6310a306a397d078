-- `size_of`: the first text of an argument (`JobLemmas`).
use Rattle.commands.specs.{Option, subst, MatchResult, option_or, Text, found_of, GivesSize, text_of, HasNoSize}
use Rattle.commands.proofs.JobLemmas.{text_read}
use Rattle.commands.proofs.sizes.size_of.Goals as goal

pub returns : goal.returns
returns c =
    let variable = text_of c.args.variable in
    subst (λ (o : Option Text). MatchResult c.size_by.result (GivesSize (option_or o variable)) (HasNoSize (option_or o variable)))
    (text_read (found_of c.args.found.now) c.args.option.now _ c.get_str.ensures) c.size_by.ensures
