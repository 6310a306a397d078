-- `stretch`: a run, and each further changed cell after a few of its rendition (`Stretches`).
use Rattle.std.proofs.lemmas.Grind.{common_steps}
use Rattle.std.specs.Prelude.{◌≡◌, ◌≤◌}
use Rattle.paint.specs.{ℕ, ◌∙◌, get_or, inl, inr, ap, arith, cases_lt, get_or_default, Shown, shown_blank, same_shown-equal}
use Rattle.paint.proofs.CellRuns.{not-other}
use Rattle.paint.proofs.Stretches.{run-stretch, stretch-further}
use Rattle.paint.proofs.line.stretch.Goals as goal

pub loop-rendition-init : goal.loop-rendition-init
loop-rendition-init c = grind (arith, run-stretch, common_steps)

pub loop-rendition-preserved-then-ne : goal.loop-rendition-preserved-then-ne
loop-rendition-preserved-then-ne c =
    let wanted = c.args.wanted.now in
    let x = c.loop-rendition.x in
    let h = c.loop-rendition.invariant in
    let on = c.goes_on.ensures in
    let run = c.run_end-stop-then-ne.ensures.run in
    let first = c.index-wanted-start.is ∙ get_or_default wanted c.args.start c.index-wanted-start.result shown_blank (omega (arith, c.requires.begun, c.requires.inside)) in
    let all : (v : ℕ) → c.loop-rendition.stop ≤ v → v ≤ x → (get_or wanted v shown_blank).rendition ≡ c.rendition-rendition.result = λ v from to. elim (cases_lt v x) [
      | inl below ↦ h.all v from below
      | inr past ↦ let is : v ≡ x = omega arith in ap (λ n. (get_or wanted n shown_blank).rendition) is ∙ on.rendition c.loop-rendition-test.true
    ] in
    record {
      cells = stretch-further c.requires.same c.requires.inside h.cells (c.rendition-rendition.ensures.value ∙ ap (λ (cell : Shown). cell.rendition) first) h.ordered
          (on.few c.loop-rendition-test.true) all run;
      ordered = omega arith;
      within = run.within;
      alike = λ v from to. absurd (omega (arith, from, to));
      all = λ v from to. absurd (omega (arith, from, to));
    }

pub loop-rendition-preserved : goal.loop-rendition-preserved
loop-rendition-preserved c = grind (arith, same_shown-equal, not-other, get_or_default, cases_lt, common_steps)

pub returns-clause-alike : goal.returns-clause-alike
returns-clause-alike c = grind (arith, cases_lt, common_steps)
