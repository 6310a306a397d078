-- `append_characters`: piece by piece (`Narrowing`).
use Rattle.std.specs.Prelude.{◌+◌, ◌++◌, ◌≡◌, ◌-◌}
use Rattle.paint.specs.{◌∙◌, ap, arith, length, take, drop, length-drop, length-take-le, take-length, characters}
use Rattle.paint.proofs.Narrowing.{characters-further, sound-further}
use Rattle.paint.proofs.outbox.append_characters.Goals as goal

pub loop-start-preserved : goal.loop-start-preserved
loop-start-preserved c =
    let cells = c.args.cells.now in
    let start = c.loop-start.start in
    let long : length (take (start + 16 - start) (drop start cells)) ≡ start + 16 - start =
    length-take-le (start + 16 - start) (drop start cells) (omega (arith, length-drop start cells)) in
    record {
      within = omega arith;
      appended = characters-further c.args.bytes.now.items c.loop-start.bytes.items c.append.new.bytes.items cells start (start + 16) (omega arith) c.loop-start.invariant.appended
          (c.append.ensures ∙ ap (λ l. c.loop-start.bytes.items ++ l) c.characters_of.ensures.characters);
      sound = sound-further cells start (start + 16) (omega arith) c.loop-start.invariant.sound (λ k few. c.characters_of.ensures.sound k (omega (arith, long)));
    }

pub returns-clause-appended : goal.returns-clause-appended
returns-clause-appended c =
    let cells = c.args.cells.now in
    characters-further c.args.bytes.now.items c.loop-start.bytes.items c.append_few.new.bytes.items cells c.loop-start.start (length cells) c.loop-start.invariant.within
    c.loop-start.invariant.appended c.append_few.ensures.appended
    ∙ ap (λ l. c.args.bytes.now.items ++ characters l) (take-length cells)

pub returns-clause-sound : goal.returns-clause-sound
returns-clause-sound c =
    let cells = c.args.cells.now in
    let start = c.loop-start.start in
    let long : length (take (length cells - start) (drop start cells)) ≡ length cells - start =
    length-take-le (length cells - start) (drop start cells) (omega (arith, length-drop start cells)) in
    sound-further cells start (length cells) c.loop-start.invariant.within c.loop-start.invariant.sound (λ k few. c.append_few.ensures.sound k (omega (arith, long)))
