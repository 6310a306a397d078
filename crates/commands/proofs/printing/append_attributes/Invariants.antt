use Rattle.std.specs.Prelude.{◌≡◌, ◌≤◌, ◌+◌, ◌*◌, ◌∷◌, ◌++◌}
use Rattle.commands.specs.{length, take, flat_map, hex_digits, Shown}
use Rattle.commands.proofs.printing.append_attributes.Given as goal

abbrev pub invariant-loop-cell : goal.invariant-loop-cell
invariant-loop-cell l = record {
  text : l.text.items ≡ l.fn.text.items ++ 58 ∷ flat_map (λ (cell : Shown). hex_digits cell.rendition.attributes) (take l.cell-index l.row);
  short : length l.text.items ≤ length l.fn.text.items + 1 + 2 * l.cell-index;
}
