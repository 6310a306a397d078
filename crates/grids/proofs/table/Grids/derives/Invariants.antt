use Rattle.std.specs.Prelude.{◌≡◌}
use Rattle.grids.specs.{HasPlace, derives, windows, depth_at}
use Rattle.grids.proofs.table.Grids.derives.Given as goal

-- the windows that were met are others
abbrev pub invariant-loop-next : goal.invariant-loop-next
invariant-loop-next l = record {
  there : HasPlace (windows l.self).window l.at.win.0 l.at.line l.at.column;
  further : derives (windows l.self).window l.w.0 l.fn.u.0 ≡ derives (windows l.self).window l.w.0 l.at.win.0;
}

abbrev pub decreases-loop-next : goal.decreases-loop-next
decreases-loop-next l = depth_at l.self.slots l.at.win.0
