use Rattle.std.specs.Prelude.{◌-◌, ◌≡◌, ◌+◌, ◌<◌, ◌≤◌}
use Rattle.paint.specs.{List, get_or, length, shown_blank, AreAlike, ArePlanned}
use Rattle.paint.specs.declared.strokes.Stroke.{Stroke}
use Rattle.paint.proofs.strokes.Plan.add_part.Given as goal

abbrev pub invariant-loop-x : goal.invariant-loop-x
invariant-loop-x l = record {
  gap : l.gap ≤ l.x;
  within : l.x ≤ l.end;
  room : length l.self + (l.end - l.x) ≤ length l.fn.self + (l.end - l.start);
  alike : AreAlike l.update.shown.now l.update.wanted.now l.line l.gap l.x;
  changed : l.x < l.end → get_or l.shown l.x shown_blank ≡ get_or l.wanted l.x shown_blank → ⊥;
  planned : (others : List Stroke) → ArePlanned l.update.shown.now l.update.wanted.now (l.line, l.start) others l.fn.self
      → ArePlanned l.update.shown.now l.update.wanted.now (l.line, l.x) others l.self;
}

abbrev pub decreases-loop-x : goal.decreases-loop-x
decreases-loop-x l = l.end - l.x
