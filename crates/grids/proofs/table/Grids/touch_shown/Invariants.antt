use Rattle.std.specs.Prelude.{◌≡◌}
use Rattle.grids.specs.{ℕ, windows, depth_at, touched_shown}
use Rattle.grids.proofs.Touches.{touched_before}
use Rattle.grids.proofs.table.Grids.touch_shown.Given as goal

-- the lines above y are touched
abbrev pub invariant-loop-y : goal.invariant-loop-y
invariant-loop-y l = record {
  touched : windows l.self ≡ touched_before (windows l.fn.self) l.win (touched_shown (windows l.fn.self).window l.source l.from l.to) l.y;
  depths : (u : ℕ) → depth_at l.self.slots u ≡ depth_at l.fn.self.slots u;
}
