use Rattle.grids.specs.{HasPlace, window_map, depth_at}
use Rattle.grids.proofs.Chain.{ComesTo}
use Rattle.grids.proofs.parents.first_place.Given as goal

abbrev pub invariant-loop-next : goal.invariant-loop-next
invariant-loop-next l = record {
  there : HasPlace (window_map l.slots) l.at.win.0 l.at.line l.at.column;
  leads : ComesTo l.slots l.win l.at.win.0 l.at.line l.at.column;
}

abbrev pub decreases-loop-next : goal.decreases-loop-next
decreases-loop-next l = depth_at l.slots l.at.win.0
