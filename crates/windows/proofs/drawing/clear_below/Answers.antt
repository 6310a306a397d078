-- The rest of the line and the lines below are two writes.
use Rattle.windows.proofs.Drawings.{bottom_cleared}
use Rattle.windows.proofs.drawing.clear_below.Goals as goal

pub returns : goal.returns
returns c = record {
  written = bottom_cleared _ _ _ c.requires.state _ _ c.args.y c.args.left _ c.clear_rest.ensures.written c.clear_lines.ensures.written;
  state = c.clear_lines.ensures.state;
}
