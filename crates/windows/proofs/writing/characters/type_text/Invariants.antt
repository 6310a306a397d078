use Rattle.std.specs.Prelude.{◌≡◌}
use Rattle.windows.specs.{IsSome, false, length, list_any, AreSoundWindows, frame_of_two, after_text, is_bad_character, windows}
use Rattle.windows.proofs.TextFrames.{text_frame}
use Rattle.windows.proofs.writing.characters.type_text.Given as goal

-- what is left is to be written, and then all is
abbrev pub invariant-loop-rest : goal.invariant-loop-rest
invariant-loop-rest l = record {
  written : after_text (windows l.table) l.win.0 l.rest ≡ after_text (windows l.fn.table) l.win.0 l.text;
  frame : frame_of_two l.frame (text_frame (windows l.table) l.win.0 l.rest) ≡ text_frame (windows l.fn.table) l.win.0 l.text;
  accepted : list_any is_bad_character l.rest ≡ false;
  there : IsSome ((windows l.table).window l.win.0);
  sound : AreSoundWindows (windows l.table);
}

abbrev pub decreases-loop-rest : goal.decreases-loop-rest
decreases-loop-rest l = length l.rest
