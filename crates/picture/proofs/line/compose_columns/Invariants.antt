use Rattle.std.specs.Prelude.{◌≡◌, ◌-◌, ◌≤◌}
use Rattle.picture.specs.{false, shown, found_from_top, panels, GrewBy, KnowsOwners}
use Rattle.picture.proofs.Lines.{LineShown}
use Rattle.picture.proofs.line.compose_columns.Given as goal

abbrev pub decreases-loop-span : goal.decreases-loop-span
decreases-loop-span g l = l.right - l.x

-- the columns before x are composed, and as many cells were read
abbrev pub invariant-loop-span : goal.invariant-loop-span
invariant-loop-span g l = record {
  from : l.left ≤ l.x;
  within : l.x ≤ l.right;
  same : g.R.Rows.windows l.rows ≡ g.R.Rows.windows l.fn.rows;
  count : GrewBy (l.x - l.left) (g.R.Rows.cells_read l.fn.rows) (g.R.Rows.cells_read l.rows);
  known : KnowsOwners (g.R.Rows.windows l.fn.rows).window (panels l.fn.stack) l.owners;
  line : LineShown (λ u. shown l.fn.pairs (found_from_top (g.R.Rows.windows l.fn.rows).window (panels l.fn.stack) l.fn.y u)) l.fn.y l.fn.left l.x l.fn.picture l.picture;
  kept : l.changed ≡ false → l.picture ≡ l.fn.picture;
}
