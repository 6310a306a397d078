-- `end_line`: a character written at the cursor of a window of a known state (`Typing`).
use Rattle.windows.specs.{rules}
use Rattle.windows.proofs.Typing.{ended, ended_frame}
use Rattle.windows.proofs.writing.characters.end_line.Goals as goal

pub returns : goal.returns
returns c = search (rules, ended, ended_frame)
