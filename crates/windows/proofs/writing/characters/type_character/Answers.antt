-- `type_character`: what moves the cursor alone writes nothing, and so has no rectangle (`FrameLaws` of `world`).
use Rattle.std.specs.Prelude.{◌≡◌}
use Rattle.windows.specs.{true, ap, arith, sym, ◌∙◌, nat_tests, is_printable, frame_of, windows, window_in_state}
use Rattle.world.proofs.FrameLaws.{frame_of-none}
use Rattle.windows.proofs.CharacterRuns.{drawing-printed, typed-printed}
use Rattle.windows.proofs.writing.characters.type_character.Goals as goal

pub returns-then-ch-eq-CARRIAGE_RETURN : goal.returns-then-ch-eq-CARRIAGE_RETURN
returns-then-ch-eq-CARRIAGE_RETURN c = grind (arith, nat_tests, frame_of-none)

pub returns-then-ch-eq-BACKSPACE : goal.returns-then-ch-eq-BACKSPACE
returns-then-ch-eq-BACKSPACE c = grind (arith, nat_tests, frame_of-none)

pub returns : goal.returns
returns c =
    let now = windows c.args.table.now in
    let a = window_in_state c.args.state.now in
    let printable : is_printable c.args.ch ≡ true = grind (arith, nat_tests) in
    record {
      written = c.print.ensures.written ∙ sym (typed-printed a c.args.ch printable now c.args.win.0);
      frame = c.print.ensures.frame ∙ ap (frame_of a) (sym (drawing-printed a c.args.ch printable now c.args.win.0));
      sound = c.print.ensures.sound;
    }
