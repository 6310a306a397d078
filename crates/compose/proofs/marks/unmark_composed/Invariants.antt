use Rattle.std.specs.Prelude.{◌≡◌, ◌||◌, ◌∷◌}
use Rattle.compose.specs.{list_any, map, standard_screen, windows_from_top, asks_for_clear, with_unmarked, panels}
use Rattle.compose.proofs.marks.unmark_composed.Given as goal

-- the windows that are left are still to be unmarked
abbrev pub invariant-loop-win : goal.invariant-loop-win
invariant-loop-win g l = record {
  can_next : (goal.iterator-loop-win g).can_next l.win-iterator;
  is_finite : (goal.iterator-loop-win g).is_finite l.win-iterator;
  asked : list_any (asks_for_clear (g.M.Marks.windows l.fn.marks).window) (standard_screen ∷ windows_from_top (panels l.stack))
      ≡ (l.asked || list_any (asks_for_clear (g.M.Marks.windows l.marks).window) (map (λ s. s.1) l.win-iterator));
  left : record (g.M.Marks.windows l.fn.marks) { window = with_unmarked (g.M.Marks.windows l.fn.marks).window (standard_screen ∷ windows_from_top (panels l.stack)) }
      ≡ record (g.M.Marks.windows l.marks) { window = with_unmarked (g.M.Marks.windows l.marks).window (map (λ s. s.1) l.win-iterator) };
}
