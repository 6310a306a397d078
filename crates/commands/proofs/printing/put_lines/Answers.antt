-- `put_lines`: the text of a picture around one of its lines (`PictureTexts`); a text is written piece by piece (`PutLemmas`).
use Rattle.std.specs.Prelude.{◌<◌}
use Rattle.commands.specs.{length, refl, arith, line_of, line_text}
use Rattle.commands.proofs.PictureTexts.{lines_around, lines_through}
use Rattle.commands.proofs.PutLemmas.{cut_before, nothing_put, put_after}
use Rattle.commands.proofs.printing.put_lines.Goals as goal

pub loop-y-init : goal.loop-y-init
loop-y-init g c = nothing_put _

pub loop-y-preserved : goal.loop-y-preserved
loop-y-preserved g c = grind (arith, lines_through, put_after)

pub returns-then-not-put : goal.returns-then-not-put
returns-then-not-put g c =
    let picture = c.args.picture.now in
    let inside : c.loop-y.y < length picture = omega (arith, c.loop-y-test.true, c.requires.lines) in
    let line = rw (c.as_slice.ensures.value, c.line_text.ensures, c.row.ensures.row, c.from.ensures) at c.put.ensures in
    rw (lines_around picture c.loop-y.y inside) (cut_before _ _ _ _ _ (put_after _ _ _ _ (line_text (line_of picture c.loop-y.y)) _ _ c.loop-y.invariant refl line) c.if-not-put.true)
