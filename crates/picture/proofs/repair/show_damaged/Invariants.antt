use Rattle.std.specs.Prelude.{◌≡◌, ◌-◌, ◌≤◌}
use Rattle.picture.specs.{shown, found_from_top, panels, GrewBy, AddsChanges, cells_above, KnowsOwners, ℕ, AreEnds, columns_of, is_among}
use Rattle.picture.proofs.Composing.{ComposedAbove}
use Rattle.picture.proofs.repair.show_damaged.Given as goal

-- the lines before y are composed, and their cells were read
abbrev pub invariant-loop-y : goal.invariant-loop-y
invariant-loop-y g l = record {
  windows : g.R.Rows.windows l.rows ≡ g.R.Rows.windows l.fn.rows;
  known : KnowsOwners (g.R.Rows.windows l.fn.rows).window (panels l.fn.stack) l.owners;
  inside : l.y ≤ (g.R.Rows.windows l.fn.rows).lines;
  read : l.cells ≡ cells_above l.fn.damage l.y;
  changes : AddsChanges l.fn.changes l.fn.picture l.changes l.picture;
  few : (v : ℕ) → AreEnds (g.R.Rows.windows l.fn.rows).columns (columns_of l.fn.changes v) (is_among l.fn.damage v) (columns_of l.changes v);
  count : GrewBy l.cells (g.R.Rows.cells_read l.fn.rows) (g.R.Rows.cells_read l.rows);
  composed : ComposedAbove (λ v u. shown l.fn.pairs (found_from_top (g.R.Rows.windows l.fn.rows).window (panels l.fn.stack) v u)) (g.R.Rows.windows l.fn.rows).lines
      (g.R.Rows.windows l.fn.rows).columns l.fn.damage l.fn.picture l.y l.damage l.picture;
}

abbrev pub decreases-loop-y : goal.decreases-loop-y
decreases-loop-y g l = l.lines - l.y
