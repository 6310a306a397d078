-- A printed character is typed (`CharacterRuns`), in a window of a known state (`Typing`); any other is a text of one.
use Rattle.windows.specs.{rules, and_parts}
use Rattle.windows.proofs.Calls.{drew}
use Rattle.windows.proofs.CharacterRuns.{drawing-printed, typed-printed}
use Rattle.windows.proofs.TextFrames.{frame-one}
use Rattle.windows.proofs.Typing.{added, added_frame}
use Rattle.windows.proofs.table.Windows.waddch.Goals as goal

pub returns-then-is_printed_inside : goal.returns-then-is_printed_inside
returns-then-is_printed_inside c = search (rules, and_parts, drew, added, typed-printed, frame-one, added_frame, drawing-printed)
