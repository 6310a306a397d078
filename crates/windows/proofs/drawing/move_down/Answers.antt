-- The lines that stay in the region are copied, and those above them are cleared.
use Rattle.windows.specs.{rules}
use Rattle.windows.proofs.States.{state-written}
use Rattle.windows.proofs.Drawings.{moved_down}
use Rattle.windows.proofs.drawing.move_down.Goals as goal

pub clear_lines-requires-clause-state : goal.clear_lines-requires-clause-state
clear_lines-requires-clause-state c = search (rules, state-written)

pub returns : goal.returns
returns c = record {
  written = moved_down _ _ _ c.requires.state _ _ _ _ _ _ _ c.requires.ordered c.requires.lines c.min-cleared.ensures c.copy_rectangle.ensures.copied.written c.clear_lines.ensures.written;
  state = c.clear_lines.ensures.state;
}
