-- `print_cells`: runs of cells, printed one after another (`CellRuns`); the strokes of a pen (`PenSteps`).
use Rattle.std.proofs.lemmas.Grind.{common_steps}
use Rattle.std.specs.Prelude.{◌≡◌, ◌+◌, ◌-◌, ◌<◌, ◌≤◌}
use Rattle.paint.specs.{ℕ, ◌∙◌, inl, inr, List, drop, get_or, length, take, sym, ap, subst, arith, cases_lt, get_or-drop, get_or_default, get_or-take, length-drop, length-take-le, IsRendition}
use Rattle.paint.specs.{Rendition, Shown, shown_blank, line_of, DrawsWithin, most_approach, run_bytes, with_cells, HaveOneRendition, cells_between}
use Rattle.paint.proofs.CellRuns.{all-at, drawn-short, gap-and, gap-ends, gap-shown, length-between, part-of, run-after}
use Rattle.paint.proofs.PenSteps.{DrawsWithin-more, DrawsWithin-then, cells-within, select-within}
use Rattle.paint.proofs.drawing.print_cells.Goals as goal

-- what is known of the run
module _ (start end : ℕ) (wanted : List Shown) (cell : Shown) (rendition : Rendition) (run : HaveOneRendition wanted start end)
    (there : cell ≡ get_or wanted start cell) (is : rendition ≡ cell.rendition) (sound : IsRendition cell.rendition) where
  cells-first : (get_or (cells_between start end wanted) 0 shown_blank).rendition ≡ rendition
  cells-first = grind (arith, part-of, get_or_default, common_steps)

  cells-short : most_approach rendition + length (cells_between start end wanted) ≤ run_bytes (cells_between start end wanted)
  cells-short = grind (arith, length-between, drawn-short, cells-first, common_steps)

pub returns-clause-draws : goal.returns-clause-draws
returns-clause-draws g c = λ picture wide are.
    let x = c.args.start in
    let wanted = c.args.wanted.now in
    let run = c.requires.run in
    let cells = cells_between x c.args.end wanted in
    let approach = c.come_to.ensures.draws picture wide (gap-shown c.args.gap x wanted (line_of picture c.args.line) c.requires.gap (omega (arith, run.some, run.within)) are) in
    let printed = cells-within cells (c.print_run-2.ensures.draws picture (wide ∙ sym c.come_to.ensures.same.columns)) in
    DrawsWithin-more (DrawsWithin-then approach printed)
    (cells-short x c.args.end wanted c.index-wanted-start.result c.rendition-rendition.result run c.index-wanted-start.is c.rendition-rendition.ensures.value c.rendition-rendition.ensures.sound.rendition)

pub print_run-requires-clause-rendition : goal.print_run-requires-clause-rendition
print_run-requires-clause-rendition g c = λ k few.
    let gap = c.args.gap in
    let x = c.args.start in
    let n = c.in-Printed.count in
    let wanted = c.args.wanted.now in
    let run = c.requires.run in
    let rendition = c.rendition-rendition.result in
    let split = rw c.in-Printed.is at c.way_over-way.ensures in
    let before = cells_between gap x wanted in
    let long : length before ≡ x - gap = length-between gap x wanted c.requires.gap (omega (arith, run.some, run.within)) in
    let inside : k < c.args.end - (gap + n) = omega (arith, few, length-between (gap + n) c.args.end wanted (omega (arith, split.within, long, run.some, c.requires.gap)) run.within) in
    let there = ap (λ (cell : Shown). cell.rendition) (part-of (gap + n) c.args.end k wanted inside) in
    let first : rendition ≡ (get_or wanted x shown_blank).rendition =
    c.rendition-rendition.ensures.value ∙ ap (λ (cell : Shown). cell.rendition) (c.index-wanted-start.is ∙ get_or_default wanted x c.index-wanted-start.result shown_blank (omega (arith, run.some, run.within))) in
    elim (cases_lt k (x - (gap + n))) [
      | inl early ↦
          let at : gap + (n + k) ≡ gap + n + k = omega arith in
          let cell = get_or-drop n before k shown_blank ∙ part-of gap x (n + k) wanted (omega (arith, early)) ∙ ap (λ v. get_or wanted v shown_blank) at in
          there ∙ ap (λ (cell : Shown). cell.rendition) (sym cell) ∙ all-at rendition (drop n before) k split.rest (omega (arith, early, long, length-drop n before)) ∙ sym c.select.ensures.rendition
      | inr late ↦ there ∙ run.rendition (gap + n + k) (omega (arith, late, long, split.within)) (omega (arith, inside)) ∙ sym first ∙ sym c.select.ensures.rendition
    ]

pub returns-in-Printed-clause-draws : goal.returns-in-Printed-clause-draws
returns-in-Printed-clause-draws g c = λ picture wide are.
    let gap = c.args.gap in
    let x = c.args.start in
    let n = c.in-Printed.count in
    let wanted = c.args.wanted.now in
    let run = c.requires.run in
    let row = line_of picture c.args.line in
    let split = rw c.in-Printed.is at c.way_over-way.ensures in
    let before = cells_between (gap + n) x wanted in
    let cells = cells_between x c.args.end wanted in
    let long : length (cells_between gap x wanted) ≡ x - gap = length-between gap x wanted c.requires.gap (omega (arith, run.some, run.within)) in
    let ordered : gap + n ≤ x = omega (arith, split.within, long, c.requires.gap) in
    let ends : gap + n + length before ≡ x = gap-ends (gap + n) x wanted ordered (omega (arith, run.some, run.within)) in
    let shown = λ (k : ℕ) (few : k < x - gap). part-of gap x k wanted few ∙ sym (part-of gap x k wanted few) ∙ sym (ap (λ (l : List Shown). get_or l k shown_blank) are) ∙ part-of gap x k row few in
    let leading : length (take n (cells_between gap x wanted)) ≡ n = length-take-le n (cells_between gap x wanted) split.within in
    let first = c.print_again.ensures.draws picture wide (λ k few.
    get_or-take n (cells_between gap x wanted) k shown_blank (omega (arith, few, leading)) ∙ shown k (omega (arith, few, leading, ordered))) in
    let drawn = run-after c.args.line (gap + n) before cells (cells_between (gap + n) c.args.end wanted)
    (gap-and (gap + n) x c.args.end wanted ordered (omega (arith, run.some)) run.within)
    (omega (arith, ends, wide, c.requires.width, run.some, run.within))
    (λ k few.
    let at : gap + (n + k) ≡ gap + n + k = omega arith in
    let inside : n + k < x - gap = omega (arith, few, ends) in
    part-of (gap + n) x k wanted (omega (arith, few, ends)) ∙ ap (λ v. get_or wanted v shown_blank) (sym at) ∙ sym (part-of gap x (n + k) wanted inside)
    ∙ shown (n + k) inside ∙ ap (λ v. get_or row v shown_blank) at)
    (c.print_run.ensures.draws picture (wide ∙ sym (c.select.ensures.same.columns ∙ c.print_again.ensures.same.columns))) in
    let short = cells-short x c.args.end wanted c.index-wanted-start.result c.rendition-rendition.result run c.index-wanted-start.is c.rendition-rendition.ensures.value c.rendition-rendition.ensures.sound.rendition in
    subst (λ v. DrawsWithin (run_bytes cells) (g.W.Sink.seen c.args.sink.now) (g.W.Sink.seen c.print_run.new.sink) c.args.pen.now c.print_run.new.self picture
    (with_cells picture (c.args.line, v) cells)) ends
    (DrawsWithin-more (DrawsWithin-then (DrawsWithin-then first (select-within c.rendition-rendition.result (c.select.ensures.draws picture))) drawn) (omega (arith, short, split.few, long, ends, ordered)))
