-- `is_quiet`: the first text of an argument (`JobLemmas`).
use Rattle.commands.specs.{Option, ap, codes, false, sym, ◌∙◌, option_map_or, bytes_eq, Text, found_of, text_of}
use Rattle.commands.proofs.JobLemmas.{text_read}
use Rattle.commands.proofs.command.is_quiet.Goals as goal

pub returns-in-Some : goal.returns-in-Some
returns-in-Some c =
    let text = ap text_of (sym c.in-Some.is) ∙ text_read (found_of c.args.found.now) (codes "quiet") _ c.get_str.ensures in
    c.eq.ensures ∙ ap (λ (o : Option Text). option_map_or (λ t. bytes_eq t (codes "true")) o false) text

pub returns-in-None : goal.returns-in-None
returns-in-None c =
    let text = ap text_of (sym c.in-None.is) ∙ text_read (found_of c.args.found.now) (codes "quiet") _ c.get_str.ensures in
    ap (λ (o : Option Text). option_map_or (λ t. bytes_eq t (codes "true")) o false) text
