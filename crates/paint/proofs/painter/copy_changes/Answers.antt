-- `copy_changes`: the columns in which two pictures may differ are copied from one to the other (`Copying`).
use Rattle.std.specs.Prelude.{◌≡◌, ◌+◌, ◌-◌, ◌<◌}
use Rattle.paint.specs.{take, drop, length, inl, inr, List, ap, ◌∙◌, arith, cases_lt, length-drop, length-take-le, line_of, Shown}
use Rattle.cell.proofs.PictureLemmas.{length-line}
use Rattle.paint.proofs.Copying.{all-copied, none-there, one-more, still-only}
use Rattle.paint.proofs.painter.copy_changes.Goals as goal

pub loop-y-init : goal.loop-y-init
loop-y-init c = grind (arith, none-there)

pub loop-y-preserved : goal.loop-y-preserved
loop-y-preserved c =
    let h = c.loop-y.invariant in
    let y = c.loop-y.y in
    let part = c.within-start.result in
    let row = c.row.result.now in
    let piece = take (part.1 - part.0) (drop part.0 row) in
    let below : y < length c.args.changes.now = omega (arith, c.loop-y-test.true, c.height-lines.ensures) in
    let within = rw c.from.ensures at c.within-start.ensures in
    let is_row : row ≡ line_of c.args.wanted.now y = c.row.ensures.row ∙ ap (line_of c.args.wanted.now) c.from-at.ensures in
    let wide : length row ≡ c.args.columns = ap length is_row ∙ length-line y c.requires.wanted below in
    let is = ap (λ (r : List Shown). take (part.1 - part.0) (drop part.0 r)) is_row in
    let long : length piece ≡ part.1 - part.0 = length-take-le (part.1 - part.0) (drop part.0 row) (omega (arith, length-drop part.0 row, wide, within.inside)) in
    let size = c.put_cells.ensures.size (length c.args.changes.now) c.args.columns h.size in
    let put = rw c.from-at.ensures at c.put_cells.ensures.shown in
    let only = still-only h.size size c.requires.wanted h.only y below within piece is long put in
    record {
      size = size;
      only = only;
      done = λ v u before. elim (cases_lt v (y + 1)) [
        | inl early ↦ one-more h.size size c.requires.wanted h.only y below within piece is long put h.done v u early
        | inr from ↦ none-there only v u (c.next-y-in-loop-y.ensures.none v from before)
      ];
    }

pub returns : goal.returns
returns c =
    let h = c.loop-y.invariant in
    all-copied h.size c.requires.wanted c.loop-y.y (let past = c.loop-y-test.false in omega (arith, past, c.height-lines.ensures)) h.done
