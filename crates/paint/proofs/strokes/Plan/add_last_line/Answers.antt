-- `add_last_line`: it erases the page only where a place of its end is changed.
use Rattle.std.specs.Prelude.{◌≡◌, ◌+◌, ◌<◌, ◌≤◌, ◌∷◌, ◌++◌}
use Rattle.paint.specs.{ℕ, false, [], length, refl, sym, ap, ◌∙◌, subst, arith, min, nat_tests, line_of, ArePlanned, is_before}
use Rattle.cell.proofs.PictureLemmas.{length-line}
use Rattle.paint.specs.declared.strokes.Ink.TheVariants.{ErasePage}
use Rattle.paint.specs.declared.strokes.Stroke.{Stroke}
use Rattle.paint.proofs.FoundStrokes.{before-part, planned-page, planned-same, same-in_line}
use Rattle.paint.proofs.strokes.Plan.add_last_line.Goals as goal

not-before : (y x u : ℕ) → u ≤ x → is_before (y, x) (y, u) ≡ false
not-before y x u late = grind (arith, nat_tests)

not-later : (y z x u : ℕ) → z < y → is_before (y, x) (z, u) ≡ false
not-later y z x u later = grind (arith, nat_tests)

pub returns-then-column-stop : goal.returns-then-column-stop
returns-then-column-stop c = λ others h.
    let f = c.args.update.now.sound in
    let y = c.args.line in
    let same = c.line.ensures.same in
    let old = c.line.ensures.shown in
    let new = c.line.ensures.wanted in
    let part = rw c.from.ensures at c.within-start.ensures in
    let below : y < c.args.update.now.lines = omega (arith, f.wanted.height, c.requires.end.line, c.requires.line) in
    let before = planned-same same h (same-in_line _ _ y 0 c.within-start.result.0 (omega arith) (λ x from to. before-part y x f part to)) in
    let column = c.next_changed-column in
    let e = c.add_erasure.ensures in
    let r = c.add_erasure.result in
    let gap = min c.add_part-gap.result c.erased_from-from.result in
    let stroke : Stroke = record { ink = ErasePage; line = y; gap = gap; start = c.erased_from-from.result; end = r.end; pass = r.pass } in
    let is : r ≡ stroke = λ i. record { ink = e.ink i; line = e.line i; gap = e.gap i; start = e.start i; end = r.end; pass = r.pass } in
    let changed = (rw (old, new) at column.ensures.changed) c.if-column-stop.true in
    let blank = rw new at c.tail_start-tail.ensures.blank in
    let inside : column.result < c.args.update.now.columns = omega (arith, c.if-column-stop.true, part.inside) in
    subst (ArePlanned c.args.update.now.shown.now c.args.update.now.wanted.now (c.args.update.now.lines, 0) others) (sym (e.added ∙ ap (λ s. c.add_part-gap.new.self ++ s ∷ []) is))
    (planned-page {from = (y, column.result)} {changed = (y, column.result)} stroke refl f.shown f.wanted below (omega (arith, inside, c.erased_from-from.ensures.to))
    (not-before y column.result c.erased_from-from.result c.erased_from-from.ensures.to) (not-before y column.result column.result (omega arith)) below inside changed
    (λ x from. blank x (omega (arith, from, c.erased_from-from.ensures.from, c.if-column-stop.true, column.ensures.ordered)))
    (λ v x later. c.requires.end.blank v x (omega (arith, later, c.requires.first))) (omega arith)
    (λ x from to. c.add_part-gap.ensures.alike x (omega (arith, from, to)) (omega (arith, to, c.erased_from-from.ensures.to)))
    (c.add_part-gap.ensures.planned others before))

pub returns : goal.returns
returns c = λ others h.
    let f = c.args.update.now.sound in
    let y = c.args.line in
    let new = c.line.ensures.wanted in
    let high : c.args.end.line < c.args.update.now.lines = omega (arith, f.wanted.height, c.requires.end.line) in
    let e = c.add_erasure-2.ensures in
    let r = c.add_erasure-2.result in
    let start = c.from-from.result in
    let stroke : Stroke = record { ink = ErasePage; line = y; gap = min start start; start = start; end = r.end; pass = r.pass } in
    let is : r ≡ stroke = λ i. record { ink = e.ink i; line = e.line i; gap = e.gap i; start = e.start i; end = r.end; pass = r.pass } in
    let blank = rw new at c.tail_start-tail.ensures.blank in
    subst (ArePlanned c.args.update.now.shown.now c.args.update.now.wanted.now (c.args.update.now.lines, 0) others) (sym (e.added ∙ ap (λ s. c.add_line.new.self ++ s ∷ []) is))
    (planned-page {from = (y + 1, 0)} {changed = (c.args.end.line, c.args.end.column)} stroke refl f.shown f.wanted (omega (arith, high, c.requires.line)) (omega (arith, c.from-from.ensures, c.if-x-update.false))
    (not-later (y + 1) y 0 start (omega arith)) (grind (arith, nat_tests)) high (omega (arith, c.requires.end.column, length-line c.args.end.line f.wanted high)) c.requires.end.changed
    (λ x from. blank x (omega (arith, from, c.if-from-tail.false)))
    (λ v x later. c.requires.end.blank v x (omega (arith, later, c.requires.first))) (omega arith)
    (λ x from to. absurd (omega (arith, from, to)))
    (c.add_line.ensures.planned others h))
