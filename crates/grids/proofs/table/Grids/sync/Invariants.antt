use Rattle.std.specs.Prelude.{◌≤◌}
use Rattle.grids.specs.{windows, depth_at}
use Rattle.grids.proofs.Syncs.{IsSynced}
use Rattle.grids.proofs.table.Grids.sync.Given as goal

abbrev pub invariant-loop-next : goal.invariant-loop-next
invariant-loop-next l = record {
  so_far : IsSynced l.down (windows l.fn.self) (windows l.self) l.win l.at;
  depth : depth_at l.self.slots l.at.win.0 ≤ depth_at l.self.slots l.win;
}

abbrev pub decreases-loop-next : goal.decreases-loop-next
decreases-loop-next l = depth_at l.self.slots l.at.win.0
