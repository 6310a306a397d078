-- `type_text`: characters that are printed in one line, before its last column, are one write of that line (`CharacterRuns`).
use Rattle.std.specs.Prelude.{◌≡◌}
use Rattle.windows.specs.{[], arith, nil_from_length, windows}
use Rattle.windows.proofs.CharacterRuns.{text_goes_on, frame_goes_on, rest_accepted}
use Rattle.windows.proofs.TextFrames.{frame-nothing}
use Rattle.windows.proofs.Texts.{joined-none}
use Rattle.windows.proofs.writing.characters.type_text.Goals as goal

pub loop-rest-preserved : goal.loop-rest-preserved
loop-rest-preserved c =
    let before = windows c.args.table.now in
    let now = windows c.loop-rest.table in
    let new = windows c.type_first-count.new.table in
    let rest = c.loop-rest.rest.now in
    let count = c.type_first-count.result.0 in
    let first = c.type_first-count.ensures in
    rw c.split_at.ensures.back (record {
      written = text_goes_on before now new c.args.win.0 c.args.text.now rest count first.typed.written c.loop-rest.invariant.written;
      frame = frame_goes_on before now new c.args.win.0 c.args.text.now rest count first.typed.written c.loop-rest.frame c.type_first-count.result.1 c.frame_of_two-frame.result
          c.loop-rest.invariant.frame first.typed.frame c.frame_of_two-frame.ensures;
      accepted = rest_accepted count rest c.loop-rest.invariant.accepted;
      there = first.there;
      sound = first.typed.sound;
    })

pub returns : goal.returns
returns c =
    let now = windows c.loop-rest.table in
    let none : c.loop-rest.rest.now ≡ [] = nil_from_length c.loop-rest.rest.now (grind arith) in
    let frame = rw (none, frame-nothing now c.args.win.0, joined-none c.loop-rest.frame) at c.loop-rest.invariant.frame in
    record {
      written = rw none at c.loop-rest.invariant.written;
      frame = frame;
      sound = c.loop-rest.invariant.sound;
    }
