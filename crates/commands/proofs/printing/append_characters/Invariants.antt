use Rattle.std.specs.Prelude.{◌≡◌, ◌∷◌, ◌++◌}
use Rattle.commands.specs.{map, take, Shown}
use Rattle.commands.proofs.printing.append_characters.Given as goal

abbrev pub invariant-loop-cell : goal.invariant-loop-cell
invariant-loop-cell l = l.text.items ≡ l.fn.text.items ++ 124 ∷ map (λ (cell : Shown). cell.character) (take l.cell-index l.row)
