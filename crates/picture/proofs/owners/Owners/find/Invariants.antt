use Rattle.std.specs.Prelude.{◌≡◌, ◌≤◌}
use Rattle.picture.specs.{AllByRecursion, Some, map, true, is_no_pad, panels}
use Rattle.picture.proofs.OwnerLaws.{AreLaid}
use Rattle.picture.proofs.owners.Owners.find.Given as goal

-- the panels before those that are left are laid in the line, and the windows of these are there
abbrev pub invariant-loop-panel : goal.invariant-loop-panel
invariant-loop-panel g l = record {
  can_next : (goal.iterator-loop-panel g).can_next l.panel-iterator;
  is_finite : (goal.iterator-loop-panel g).is_finite l.panel-iterator;
  there : AllByRecursion (λ s. ((panels l.stack).window s.0 ≡ Some s.1) × (is_no_pad (g.R.Rows.windows l.rows).window s.1 ≡ true)) l.panel-iterator;
  top : l.self.top ≡ l.y;
  begun : l.y ≤ l.self.bottom;
  laid : AreLaid (g.R.Rows.windows l.rows).window (panels l.stack) (map (λ s. s.0) l.panel-iterator) l.self;
}
