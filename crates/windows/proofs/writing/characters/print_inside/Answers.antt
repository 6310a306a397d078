-- `print_inside`: a character written at the cursor of a window of a known state (`Typing`).
use Rattle.windows.specs.{rules}
use Rattle.windows.proofs.Typing.{printed_inside, printed_inside_frame}
use Rattle.windows.proofs.writing.characters.print_inside.Goals as goal

pub returns : goal.returns
returns c = record {
  written = printed_inside _ _ _ c.requires.state c.args.ch _ c.requires.inside (rw c.written_cell.ensures at c.type_cell.ensures.written);
  frame = search (rules, printed_inside_frame);
  sound = c.type_cell.ensures.sound;
}
