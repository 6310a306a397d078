-- `script_of`: the first text of an argument (`JobLemmas`).
use Rattle.std.specs.Prelude.{◌≡◌}
use Rattle.commands.specs.{Bool, List, None, Option, Some, ap, codes, cond, false, sym, true, ◌∙◌, option_and_then, bytes_eq, Row, Text, first_of, found_of, rows_of, script_by, text_of}
use Rattle.commands.proofs.JobLemmas.{text_read}
use Rattle.commands.proofs.command.script_of.Goals as goal

-- the name of the script, by the first text
abbrev named : Option Text → Option Text
named = option_and_then (λ name. cond (bytes_eq name (codes "-")) None (Some name))

by_first : (rows : List Row) (o : Option Text) → o ≡ first_of (codes "file") rows → named o ≡ script_by rows
by_first rows o e = ap named e

chosen : (b : Bool) (name : Text) → bytes_eq name (codes "-") ≡ b → named (Some name) ≡ cond b None (Some name)
chosen b name e = ap (λ (t : Bool). cond t None (Some name)) e

pub returns-in_err-name : goal.returns-in_err-name
returns-in_err-name c =
    let found = found_of c.args.found.now in
    ap text_of c.from_residual.ensures ∙ by_first (rows_of found) None (text_read found (codes "file") None c.in_err-name.ensures)

pub returns-then-eq : goal.returns-then-eq
returns-then-eq c =
    let found = found_of c.args.found.now in
    let name = c.in_ok-name.name in
    sym (chosen true name.now (sym c.eq.ensures ∙ c.if-eq.true)) ∙ by_first (rows_of found) (Some name.now) (text_read found (codes "file") (Some name) c.in_ok-name.ensures)

pub returns-else-eq : goal.returns-else-eq
returns-else-eq c =
    let found = found_of c.args.found.now in
    let name = c.in_ok-name.name in
    sym (chosen false name.now (sym c.eq.ensures ∙ c.if-eq.false)) ∙ by_first (rows_of found) (Some name.now) (text_read found (codes "file") (Some name) c.in_ok-name.ensures)
