-- `run_end_from`: runs of cells: printed one after another, and drawn in a line (`CellRuns`).
use Rattle.std.specs.Prelude.{◌≡◌, ◌<◌}
use Rattle.paint.specs.{◌∙◌, get_or, inl, inr, length, sym, ap, arith, cases_lt, get_or_default, Shown, shown_blank}
use Rattle.ecma.proofs.Difference.{same_rendition-equal}
use Rattle.paint.proofs.CellRuns.{same_shown-at, not-other}
use Rattle.paint.proofs.line.run_end_from.Goals as goal

pub loop-x-preserved : goal.loop-x-preserved
loop-x-preserved c =
    let x = c.loop-x.x in
    let shown = c.args.shown.now in
    let wanted = c.args.wanted.now in
    let inside : x < length wanted = omega (arith, c.loop-x-test.true, c.requires.inside) in
    let differs = same_shown-at shown wanted x c.index-shown-x.is c.index-wanted-x.is (omega (arith, inside, c.requires.same)) inside c.if-eq.ensures in
    let here = c.index-wanted-x-in-loop-x.is ∙ get_or_default wanted x c.index-wanted-x-in-loop-x.result shown_blank inside in
    let first = c.index-wanted-start.is ∙ get_or_default wanted c.args.start c.index-wanted-start.result shown_blank (omega (arith, c.requires.run.some, c.requires.run.within, c.requires.inside)) in
    let same = same_rendition-equal c.rendition.result c.rendition-rendition.result (not-other _ (sym c.ne.ensures ∙ c.if-ne.false)) in
    let alike : (get_or wanted x shown_blank).rendition ≡ (get_or wanted c.args.start shown_blank).rendition =
    ap (λ (cell : Shown). cell.rendition) (sym here) ∙ sym c.rendition.ensures.value ∙ same ∙ c.rendition-rendition.ensures.value ∙ ap (λ (cell : Shown). cell.rendition) first in
    record {
      some = omega (arith, c.loop-x.invariant.some);
      within = omega (arith, c.loop-x-test.true);
      changed = λ v from to. elim (cases_lt v x) [
        | inl below ↦ c.loop-x.invariant.changed v from below
        | inr past ↦ let is : v ≡ x = omega arith in rw is differs
      ];
      rendition = λ v from to. elim (cases_lt v x) [
        | inl below ↦ c.loop-x.invariant.rendition v from below
        | inr past ↦ let is : v ≡ x = omega arith in ap (λ n. (get_or wanted n shown_blank).rendition) is ∙ alike
      ];
    }
