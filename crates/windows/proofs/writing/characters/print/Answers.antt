-- `print`: a character written at the cursor of a window of a known state (`Typing`).
use Rattle.windows.proofs.Typing.{printed_at_end, printed_at_end_frame}
use Rattle.windows.proofs.writing.characters.print.Goals as goal

pub returns : goal.returns
returns c =
    let drawn = rw c.written_cell.ensures at c.set_cell.ensures.written in
    record {
      written = printed_at_end _ _ _ c.requires.state c.args.ch _ _ c.if-x-state.false drawn c.to_next_line.ensures.written;
      frame = printed_at_end_frame _ _ _ c.requires.state c.args.ch _ _ _ _ c.if-x-state.false drawn c.place.ensures c.to_next_line.ensures.frame c.frame_of_two.ensures;
      sound = c.to_next_line.ensures.sound;
    }
