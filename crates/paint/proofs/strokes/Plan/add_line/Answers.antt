-- `add_line`: it looks only where the line may be changed, and erases its end only where a cell of that is.
use Rattle.std.specs.Prelude.{◌≡◌, ◌+◌, ◌∷◌, ◌++◌}
use Rattle.paint.specs.{[], length, inl, inr, refl, sym, ap, ◌∙◌, subst, arith, min, cases_lt, line_of, shown_at, ArePlanned}
use Rattle.cell.proofs.PictureLemmas.{length-line}
use Rattle.paint.specs.declared.strokes.Ink.TheVariants.{EraseLine}
use Rattle.paint.specs.declared.strokes.Stroke.{Stroke}
use Rattle.paint.proofs.CellRuns.{part-differs, part-later}
use Rattle.paint.proofs.FoundStrokes.{after-part, before-part, planned-line, planned-same, same-in_line, same-to_end, whole-line}
use Rattle.paint.proofs.strokes.Plan.add_line.Goals as goal

pub returns-in_default-clause-planned : goal.returns-in_default-clause-planned
returns-in_default-clause-planned c = λ others h.
    let f = c.args.update.now.sound in
    let y = c.args.line in
    let same = c.line.ensures.same in
    let old = c.line.ensures.shown in
    let new = c.line.ensures.wanted in
    let part = rw c.from.ensures at c.within-start.ensures in
    let none = rw (c.in_default.is, old, new) at c.last_diff.ensures in
    planned-same same h (same-to_end _ _ y 0 (λ x from. whole-line y x f part c.requires.line none))

pub returns-then-tail-last-clause-planned : goal.returns-then-tail-last-clause-planned
returns-then-tail-last-clause-planned c = λ others h.
    let f = c.args.update.now.sound in
    let y = c.args.line in
    let same = c.line.ensures.same in
    let old = c.line.ensures.shown in
    let new = c.line.ensures.wanted in
    let part = rw c.from.ensures at c.within-start.ensures in
    let last = rw (c.in-Some.is, old, new) at c.last_diff.ensures in
    let before = planned-same same h (same-in_line _ _ y 0 c.within-start.result.0 (omega arith) (λ x from to. before-part y x f part to)) in
    planned-same same (c.add_part.ensures.planned others before) (same-to_end _ _ y (c.within-start.result.0 + c.in-Some.skipped + 1) (λ x from. elim (cases_lt x c.within-start.result.1) [
      | inl inside ↦ part-later c.within-start.result.0 c.within-start.result.1 c.in-Some.skipped x (line_of c.args.update.now.shown.now y) (line_of c.args.update.now.wanted.now y) last.1 (omega arith) inside
      | inr past ↦ after-part y x f part c.requires.line past
    ]))

pub returns-else-is_erased-clause-planned : goal.returns-else-is_erased-clause-planned
returns-else-is_erased-clause-planned c = λ others h.
    let f = c.args.update.now.sound in
    let y = c.args.line in
    let same = c.line.ensures.same in
    let old = c.line.ensures.shown in
    let new = c.line.ensures.wanted in
    let part = rw c.from.ensures at c.within-start.ensures in
    let last = rw (c.in-Some.is, old, new) at c.last_diff.ensures in
    let before = planned-same same h (same-in_line _ _ y 0 c.within-start.result.0 (omega arith) (λ x from to. before-part y x f part to)) in
    planned-same same (c.add_part-else-is_erased.ensures.planned others (c.add_part-gap.ensures.planned others before))
    (same-to_end _ _ y (c.within-start.result.0 + c.in-Some.skipped + 1) (λ x from. elim (cases_lt x c.within-start.result.1) [
      | inl inside ↦ part-later c.within-start.result.0 c.within-start.result.1 c.in-Some.skipped x (line_of c.args.update.now.shown.now y) (line_of c.args.update.now.wanted.now y) last.1 (omega arith) inside
      | inr past ↦ after-part y x f part c.requires.line past
    ]))

pub returns-then-is_erased-clause-planned : goal.returns-then-is_erased-clause-planned
returns-then-is_erased-clause-planned c = λ others h.
    let f = c.args.update.now.sound in
    let y = c.args.line in
    let same = c.line.ensures.same in
    let old = c.line.ensures.shown in
    let new = c.line.ensures.wanted in
    let part = rw c.from.ensures at c.within-start.ensures in
    let last = rw (c.in-Some.is, old, new) at c.last_diff.ensures in
    let before = planned-same same h (same-in_line _ _ y 0 c.within-start.result.0 (omega arith) (λ x from to. before-part y x f part to)) in
    let column = c.next_changed-column in
    let differs = part-differs c.within-start.result.0 c.within-start.result.1 c.in-Some.skipped (line_of c.args.update.now.shown.now y) (line_of c.args.update.now.wanted.now y) last.0
    (omega (arith, part.inside, length-line y f.shown c.requires.line)) in
    let e = c.add_erasure.ensures in
    let r = c.add_erasure.result in
    let gap = min c.add_part-gap.result c.erased_from-from.result in
    let stroke : Stroke = record { ink = EraseLine; line = y; gap = gap; start = c.erased_from-from.result; end = r.end; pass = r.pass } in
    let is : r ≡ stroke = λ i. record { ink = e.ink i; line = e.line i; gap = e.gap i; start = e.start i; end = r.end; pass = r.pass } in
    let changed : shown_at c.args.update.now.shown.now (y, column.result) ≡ shown_at c.args.update.now.wanted.now (y, column.result) → ⊥ =
    elim (cases_lt column.result (c.within-start.result.0 + c.in-Some.skipped)) [
      | inl early ↦ (rw (old, new) at column.ensures.changed) early
      | inr late ↦
          let here : c.within-start.result.0 + c.in-Some.skipped ≡ column.result = omega (arith, late, column.ensures.within) in
          subst (λ n. shown_at c.args.update.now.shown.now (y, n) ≡ shown_at c.args.update.now.wanted.now (y, n) → ⊥) here differs.1
    ] in
    let blank = rw new at c.tail_over-tail.ensures.blank in
    subst (ArePlanned c.args.update.now.shown.now c.args.update.now.wanted.now (y + 1, 0) others) (sym (e.added ∙ ap (λ s. c.add_part-gap.new.self ++ s ∷ []) is))
    (planned-line stroke refl f.shown f.wanted c.requires.line c.erased_from-from.ensures.to (omega arith) (omega (arith, differs.0, column.ensures.within, part.inside)) changed
    (λ x from. blank x (omega (arith, from, c.erased_from-from.ensures.from))) (omega arith)
    (λ x from to. c.add_part-gap.ensures.alike x (omega (arith, from, to)) (omega (arith, to, c.erased_from-from.ensures.to)))
    (c.add_part-gap.ensures.planned others before))
