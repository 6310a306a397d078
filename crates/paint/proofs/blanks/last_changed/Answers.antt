-- `last_changed`: lines are looked at from the last one on which may differ.
use Rattle.std.proofs.lemmas.Grind.{common_steps}
use Rattle.std.specs.Prelude.{◌≡◌, ◌-◌, ◌<◌}
use Rattle.paint.specs.{◌∙◌, inl, inr, ap, subst, arith, cases_lt, line_of, shown_at}
use Rattle.cell.proofs.PictureLemmas.{length-line}
use Rattle.paint.proofs.CellRuns.{part-differs}
use Rattle.paint.proofs.FoundStrokes.{whole-line}
use Rattle.paint.proofs.blanks.last_changed.Goals as goal

pub loop-end-init : goal.loop-end-init
loop-end-init c = grind (arith, common_steps)

pub loop-end-preserved : goal.loop-end-preserved
loop-end-preserved c =
    let f = c.args.update.now.sound in
    let line = c.loop-end.end - 1 in
    let old = c.line.ensures.shown in
    let new = c.line.ensures.wanted in
    let part = rw c.from.ensures at c.within-from.ensures in
    let none = rw (c.in_default.is, old, new) at c.last_diff.ensures in
    let below : line < c.args.update.now.lines = omega (arith, f.height, c.loop-end.invariant.within, c.loop-end-test.true) in
    record {
      within = omega (arith, c.loop-end.invariant.within);
      later = λ y x from. elim (cases_lt line y) [
        | inl after ↦ c.loop-end.invariant.later y x (omega (arith, after))
        | inr here ↦
            let same : line ≡ y = omega (arith, from, here) in
            subst (λ n. shown_at c.args.update.now.shown.now (n, x) ≡ shown_at c.args.update.now.wanted.now (n, x)) same (whole-line line x f part below none)
      ];
    }

pub returns-in-Some : goal.returns-in-Some
returns-in-Some c =
    let f = c.args.update.now.sound in
    let line = c.loop-end.end - 1 in
    let old = c.line.ensures.shown in
    let new = c.line.ensures.wanted in
    let part = rw c.from.ensures at c.within-from.ensures in
    let last = rw (c.in-Some.is, old, new) at c.last_diff.ensures in
    let below : line < c.args.update.now.lines = omega (arith, f.height, c.loop-end.invariant.within, c.loop-end-test.true) in
    let differs = part-differs c.within-from.result.0 c.within-from.result.1 c.in-Some.skipped (line_of c.args.update.now.shown.now line) (line_of c.args.update.now.wanted.now line) last.0
    (omega (arith, part.inside, length-line line f.shown below)) in
    record {
      line = omega (arith, below, f.wanted.height);
      column = omega (arith, differs.0, part.inside, length-line line f.wanted below);
      changed = differs.1;
      later = λ y x after. c.loop-end.invariant.later y x (omega (arith, after));
    }
