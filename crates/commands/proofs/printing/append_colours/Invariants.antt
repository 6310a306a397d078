use Rattle.std.specs.Prelude.{◌≡◌, ◌≤◌, ◌+◌, ◌*◌, ◌∷◌, ◌++◌}
use Rattle.commands.specs.{length, take, flat_map, Shown, signs}
use Rattle.commands.proofs.printing.append_colours.Given as goal

abbrev pub invariant-loop-cell : goal.invariant-loop-cell
invariant-loop-cell l = record {
  text : l.text.items ≡ l.fn.text.items ++ 37 ∷ flat_map (λ (cell : Shown). signs cell.rendition) (take l.cell-index l.row);
  short : length l.text.items ≤ length l.fn.text.items + 1 + 2 * l.cell-index;
}
