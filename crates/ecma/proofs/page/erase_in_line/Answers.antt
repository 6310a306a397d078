-- `erase_in_line`: lines of a picture, erased (`Erasing`).
use Rattle.std.specs.Prelude.{◌≡◌}
use Rattle.ecma.specs.{◌∙◌, ap, length, sym}
use Rattle.ecma.proofs.Erasing.{fill-erases, span}
use Rattle.ecma.proofs.page.erase_in_line.Goals as goal
use Rattle.ecma.proofs.page.erase_in_line.Goals.{in-ToEnd, in-FromStart, in-All}

pub returns : goal.returns
returns c =
    let ends : c.match-how.start ≡ span c.args.how c.args.column c.args.columns = elim c.match-how.branch [
      | in-ToEnd w ↦ w.start-is ∙ ap (λ how. span how c.args.column c.args.columns) (sym w.in-ToEnd.is)
      | in-FromStart w ↦ w.start-is ∙ ap (λ how. span how c.args.column c.args.columns) (sym w.in-FromStart.is)
      | in-All w ↦ w.start-is ∙ ap (λ how. span how c.args.column c.args.columns) (sym w.in-All.is)
    ] in
    fill-erases c.args.how c.args.line c.args.column (length c.args.picture.now) c.args.columns c.match-how.start c.args.picture.now c.erase.new.self c.requires.size
    (c.erase.ensures.size (length c.args.picture.now) c.args.columns c.requires.size) c.requires.line c.requires.column ends c.erase.ensures.shown
