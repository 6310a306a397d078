-- `type_first`: characters that are printed in one line, before its last column, are one write of that line (`CharacterRuns`); a character written at the
-- cursor of a window of a known state (`Typing`).
use Rattle.windows.specs.{get_or, take, windows}
use Rattle.windows.proofs.Typing.{added, added_frame}
use Rattle.windows.proofs.CharacterRuns.{one_written, one_covered, text_keeps}
use Rattle.windows.proofs.writing.characters.type_first.Goals as goal

pub returns-then-count-eq0-clause-typed : goal.returns-then-count-eq0-clause-typed
returns-then-count-eq0-clause-typed c =
    let before = windows c.args.table.now in
    let text = c.args.text.now in
    record {
      written = one_written before _ c.args.win.0 text c.requires.some (added before _ _ c.in-Ok.ensures.state _ (get_or text 0 0) c.type_character.ensures.written);
      frame = one_covered before c.args.win.0 text _ c.requires.some (added_frame before _ _ c.in-Ok.ensures.state _ (get_or text 0 0) c.type_character.ensures.frame);
      sound = c.type_character.ensures.sound;
    }

pub returns-then-count-eq0-clause-there : goal.returns-then-count-eq0-clause-there
returns-then-count-eq0-clause-there c =
    text_keeps (windows c.args.table.now) _ c.args.win.0 (take 1 c.args.text.now) c.requires.there (returns-then-count-eq0-clause-typed c).written

pub returns-clause-there : goal.returns-clause-there
returns-clause-there c = text_keeps (windows c.args.table.now) _ c.args.win.0 (take c.run_length-count.result c.args.text.now) c.requires.there c.print_run.ensures.written
