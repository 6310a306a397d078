-- `add_part`: what it passes over is shown already, and each run of changed cells is a stroke.
use Rattle.std.specs.Prelude.{◌≡◌, ◌∷◌, ◌++◌}
use Rattle.paint.specs.{List, [], length, inl, inr, ap, ◌∙◌, subst, sym, refl, arith, length-append, cases_lt, line_of, ArePlanned}
use Rattle.paint.specs.declared.strokes.Ink.TheVariants.{Print}
use Rattle.paint.specs.declared.strokes.Stroke.{Stroke}
use Rattle.paint.proofs.FoundStrokes.{planned-run, planned-same, same-in_line}
use Rattle.paint.proofs.strokes.Plan.add_part.Goals as goal

pub loop-x-init : goal.loop-x-init
loop-x-init c =
    let f = c.args.update.now.sound in
    let x = c.next_changed-x.ensures in
    let old = c.line.ensures.shown in
    let new = c.line.ensures.wanted in
    let alike = rw (old, new) at x.alike in
    record {
      gap = c.first_gap-gap.ensures.to;
      within = x.within;
      room = omega arith;
      alike = λ v from to. elim (cases_lt v c.args.start) [
        | inl early ↦ c.requires.alike v (omega (arith, from, c.first_gap-gap.ensures.from)) early
        | inr late ↦ alike v late to
      ];
      changed = x.changed;
      planned = λ others h. planned-same (omega (arith, f.shown.height, f.wanted.height)) h
          (same-in_line _ _ c.args.line c.args.start c.next_changed-x.result x.ordered alike);
    }

pub loop-x-preserved : goal.loop-x-preserved
loop-x-preserved c =
    let f = c.args.update.now.sound in
    let part = c.stretch-stop in
    let old = c.line.ensures.shown in
    let new = c.line.ensures.wanted in
    let run = rw (old, new) at part.ensures.cells in
    let alike = rw (old, new) at part.ensures.alike in
    let stroke : Stroke = record { ink = Print; line = c.args.line; gap = c.loop-x.gap; start = c.loop-x.x; end = part.result.0; pass = c.note-pass.result } in
    let added : c.push.new.self ≡ c.loop-x.self ++ stroke ∷ [] = c.push.ensures ∙ ap (λ (l : List Stroke). l ++ stroke ∷ []) c.note-pass.ensures in
    record {
      gap = part.ensures.ordered;
      within = part.ensures.within;
      room = omega (arith, ap (length {A = Stroke}) added, length-append c.loop-x.self (stroke ∷ []), run.cells.some, part.ensures.ordered, c.loop-x.invariant.room);
      alike = alike;
      changed = part.ensures.changed;
      planned = λ others h.
          let planned = planned-run stroke refl f.shown f.wanted c.requires.line run c.requires.inside c.loop-x.invariant.gap c.loop-x.invariant.alike (c.loop-x.invariant.planned others h) in
          subst (ArePlanned c.args.update.now.shown.now c.args.update.now.wanted.now (c.args.line, part.result.1) others) (sym added)
          (planned-same (omega (arith, f.shown.height, f.wanted.height)) planned (same-in_line _ _ c.args.line part.result.0 part.result.1 part.ensures.ordered alike));
    }
