-- `append_colour`: the code has two digits, of which the last is the number of the colour (`Lengths`).
use Rattle.std.specs.Prelude.{◌≡◌, ◌+◌, ◌++◌, ◌/◌, ◌∷◌}
use Rattle.ecma.specs.{ℕ, List, [], ◌∙◌, length, take, ap, code_of_colour, selection}
use Rattle.ecma.proofs.Lengths.{colour-code}
use Rattle.ecma.proofs.spelling.append_colour.Goals as goal

code-of : (c : goal.After-append) → 59 ∷ (48 + c.args.first / 10) ∷ (48 + c.number.result) ∷ [] ≡ selection (code_of_colour c.args.first c.args.colour)
code-of c = rw (c.in-Some.is, c.number.ensures.value) (colour-code c.args.first c.in-Some.colour c.requires.digits c.requires.few c.requires.last c.number.ensures.sound)

pub returns-in-Some-clause-end : goal.returns-in-Some-clause-end
returns-in-Some-clause-end c = c.append.ensures.end ∙ ap (λ (piece : List ℕ). c.args.at + length piece) (code-of c)

pub returns-in-Some-clause-text : goal.returns-in-Some-clause-text
returns-in-Some-clause-text c = c.append.ensures.text ∙ ap (λ (piece : List ℕ). take c.args.at c.args.out.now ++ piece) (code-of c)
