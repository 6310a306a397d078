use Rattle.std.specs.Prelude.{◌≡◌}
use Rattle.compose.specs.{length, map, windows_from_top, windows, panels, affected_shows_at}
use Rattle.compose.proofs.Visible.{DamagedBut}
use Rattle.compose.proofs.damaging.damage_visible.Given as goal

-- the windows that are left are still to be damaged
abbrev pub invariant-loop-u : goal.invariant-loop-u
invariant-loop-u l = record {
  can_next : (goal.iterator-loop-u).can_next l.u-iterator;
  is_finite : (goal.iterator-loop-u).is_finite l.u-iterator;
  height : length l.damage ≡ l.table.lines;
  left : DamagedBut l.table.columns (affected_shows_at (windows l.table).window l.affected) (windows_from_top (panels l.stack)) l.fn.damage
      (map (λ s. s.1) l.u-iterator) l.damage;
}
