-- `print_run`: characters that are printed in one line, before its last column, are one write of that line (`CharacterRuns`).
use Rattle.windows.specs.{refl}
use Rattle.windows.proofs.CharacterRuns.{run_printed, run_frame}
use Rattle.windows.proofs.writing.characters.print_run.Goals as goal

pub returns : goal.returns
returns c = record {
  written = run_printed _ _ _ c.requires.state _ c.requires.printable c.requires.inside _ _ _ _ c.written_cell.ensures refl refl c.print.ensures.written;
  frame = run_frame _ _ _ c.requires.state _ c.requires.printable c.requires.inside c.requires.some _ refl;
  sound = c.print.ensures.sound;
}
