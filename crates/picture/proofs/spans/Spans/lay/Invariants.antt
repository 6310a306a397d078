use Rattle.std.specs.Prelude.{◌≢◌, ◌+◌, ◌-◌, ◌≤◌}
use Rattle.picture.specs.{ℕ, Option, Some, AreInside, AreSpans}
use Rattle.picture.proofs.SpanLaws.{IsUnder}
use Rattle.picture.proofs.spans.Spans.lay.Given as goal

-- the panel is laid before x
abbrev pub invariant-loop-x : goal.invariant-loop-x
invariant-loop-x l = record {
  inside : AreInside l.self;
  begun : l.left ≤ l.x;
  upto : l.x ≤ l.right + 1;
  under : (o : ℕ → Option ℕ) → AreSpans o l.fn.self → ((u : ℕ) → o u ≢ Some l.panel.0) → IsUnder o l.panel.0 l.left l.right l.x l.self;
}

abbrev pub decreases-loop-x : goal.decreases-loop-x
decreases-loop-x l = l.right + 1 - l.x
