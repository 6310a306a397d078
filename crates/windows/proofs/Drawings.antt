-- The drawings of the writing calls: the rectangle of each, its writes, and what the call that draws it does and answers.
use Rattle.std.specs.Prelude.{◌≡◌, ◌+◌, ◌-◌, ◌<◌, ◌≤◌}
use Rattle.windows.specs.{ℕ, false, Some, None, min, arith, cases_eq, nat_tests, Glyph, Place, origin, Rect, WindowMap, Windows, Window, put, set, with_cursor, filled_cells, copied_cells, rectangle_copied}
use Rattle.windows.specs.{lines_filled, at_place, character_inserted, character_deleted, to_end_of_line, to_bottom, everywhere, lines_up, lines_down, frame_of, drawing_frame, after_edit, draws, after_clear}
use Rattle.windows.specs.{insch_drawing, delch_drawing, clrtoeol_drawing, clrtobot_drawing, erase_drawing, deleteln_drawing, insertln_drawing, IsStateOf}
use Rattle.world.proofs.FrameLaws.{frame_of-only}
use Rattle.windows.specs.declared.state.WindowState.{WindowState}
use Rattle.windows.proofs.NextWrites.{once, twice}
use Rattle.grids.proofs.Copies.{block}
use Rattle.windows.proofs.Calls.{call-is, frame-is}

-- ---- the rectangles

module _ (a : Window) (place : Place) (below : place.0 < a.lines) (on : place.1 < a.columns) where
  pub frame-at_place : (c : Glyph) → frame_of a (at_place place c) ≡ Some (record { top = place.0; left = place.1; bottom = place.0; right = place.1 })
  frame-at_place c = block a (at_place place c) _ (omega arith) below (omega arith) on (λ v u h k. grind (arith, cases_eq, nat_tests))

  abbrev to_end : Rect
  to_end = record { top = place.0; left = place.1; bottom = place.0; right = a.columns - 1 }

  pub frame-inserted : (window : WindowMap) (w : ℕ) (c : Glyph) → frame_of a (character_inserted window w place c) ≡ Some to_end
  frame-inserted window w c = block a (character_inserted window w place c) to_end (omega arith) below (omega arith) (omega arith) (λ v u h k. grind (arith, cases_eq, nat_tests))

  pub frame-deleted : (window : WindowMap) (w last : ℕ) (c : Glyph) → frame_of a (character_deleted window w place last c) ≡ Some to_end
  frame-deleted window w last c = block a (character_deleted window w place last c) to_end (omega arith) below (omega arith) (omega arith) (λ v u h k. grind (arith, cases_eq, nat_tests))

  pub frame-to_end_of_line : (c : Glyph) → frame_of a (to_end_of_line place c) ≡ Some to_end
  frame-to_end_of_line c = block a (to_end_of_line place c) to_end (omega arith) below (omega arith) (omega arith) (λ v u h k. grind (arith, cases_eq, nat_tests))

  pub frame-to_bottom_last : (c : Glyph) → place.0 + 1 ≡ a.lines → frame_of a (to_bottom place c) ≡ Some to_end
  frame-to_bottom_last c last = block a (to_bottom place c) to_end (omega arith) below (omega arith) (omega arith) (λ v u h k. grind (arith, cases_eq, nat_tests))

  pub frame-to_bottom_more : (c : Glyph) → place.0 + 1 < a.lines → frame_of a (to_bottom place c) ≡ Some (record { top = place.0; left = 0; bottom = a.lines - 1; right = a.columns - 1 })
  frame-to_bottom_more c more = frame_of-only a (to_bottom place c) _ (record {
    holds = λ v u there. grind (arith, nat_tests);
    top = (place.1, grind (arith, nat_tests));
    bottom = (place.1, grind (arith, nat_tests));
    left = (a.lines - 1, grind (arith, nat_tests));
    right = (place.0, grind (arith, nat_tests));
  })

module _ (a : Window) (top bottom : ℕ) (ordered : top ≤ bottom) (below : bottom < a.lines) (on : 0 < a.columns) (window : WindowMap) (w n : ℕ) (c : Glyph) where
  abbrev whole_lines : Rect
  whole_lines = record { top = top; left = 0; bottom = bottom; right = a.columns - 1 }

  pub frame-lines_up : frame_of a (lines_up window w top bottom n c) ≡ Some whole_lines
  frame-lines_up = block a (lines_up window w top bottom n c) whole_lines ordered below (omega arith) (omega arith) (λ v u h k. grind (arith, nat_tests))

  pub frame-lines_down : frame_of a (lines_down window w top bottom n c) ≡ Some whole_lines
  frame-lines_down = block a (lines_down window w top bottom n c) whole_lines ordered below (omega arith) (omega arith) (λ v u h k. grind (arith, nat_tests))

pub frame-everywhere : (a : Window) (c : Glyph) → 0 < a.lines → 0 < a.columns → frame_of a (everywhere c) ≡ Some (record { top = 0; left = 0; bottom = a.lines - 1; right = a.columns - 1 })
frame-everywhere a c below on = block a (everywhere c) _ (omega arith) (omega arith) (omega arith) (omega arith) (λ v u h k. grind (arith, nat_tests))

module _ (windows : Windows) (w : ℕ) (s : WindowState) (h : IsStateOf windows w s) where
  -- ---- the writes

  pub one_cell : (new : Windows) (y x : ℕ) (c : Glyph) → new ≡ put windows w (filled_cells y x x c) → new ≡ put windows w (at_place (y, x) c)
  one_cell new y x c is = once windows w s h _ _ new (λ v u below on. grind (arith, cases_eq, nat_tests)) is

  pub inserted : (now new : Windows) (y x : ℕ) (c : Glyph) → x < s.columns → now ≡ put windows w (copied_cells windows.window w y x y (x + 1) (s.columns - 1 - x) false)
      → new ≡ put now w (filled_cells y x x c) → new ≡ put windows w (character_inserted windows.window w (y, x) c)
  inserted now new y x c on first second = twice windows w s h _ _ _ now new (λ v u in_lines left. grind (arith, cases_eq, nat_tests)) first second

  pub deleted : (now new : Windows) (y x : ℕ) (c : Glyph) → x < s.columns → now ≡ put windows w (copied_cells windows.window w y (x + 1) y x (s.columns - 1 - x) false)
      → new ≡ put now w (filled_cells y (s.columns - 1) (s.columns - 1) c) → new ≡ put windows w (character_deleted windows.window w (y, x) (s.columns - 1) c)
  deleted now new y x c on first second = twice windows w s h _ _ _ now new (λ v u in_lines left. grind (arith, cases_eq, nat_tests)) first second

  pub rest_of_line : (new : Windows) (y left : ℕ) (c : Glyph) → new ≡ put windows w (filled_cells y left (s.columns - 1) c) → new ≡ put windows w (to_end_of_line (y, left) c)
  rest_of_line new y left c is = once windows w s h _ _ new (λ v u below on. grind (arith, nat_tests)) is

  pub bottom_cleared : (now new : Windows) (y left : ℕ) (c : Glyph) → now ≡ put windows w (to_end_of_line (y, left) c) → new ≡ put now w (lines_filled (y + 1) s.lines c)
      → new ≡ put windows w (to_bottom (y, left) c)
  bottom_cleared now new y left c first second = twice windows w s h _ _ _ now new (λ v u below on. grind (arith, cases_eq, nat_tests)) first second

  pub all_cleared : (new : Windows) (c : Glyph) → new ≡ put windows w (lines_filled 0 s.lines c) → new ≡ put windows w (everywhere c)
  all_cleared new c is = once windows w s h _ _ new (λ v u below on. grind (arith, nat_tests)) is

  module _ (top bottom n : ℕ) (c : Glyph) (cleared : ℕ) (now new : Windows) (ordered : top ≤ bottom) (below : bottom < s.lines) (is : cleared ≡ min n (bottom + 1 - top)) where
    pub moved_up : (kept : ℕ) → kept ≡ bottom + 1 - top - cleared → now ≡ put windows w (rectangle_copied windows.window w (top + cleared) 0 top 0 kept s.columns false)
        → new ≡ put now w (lines_filled (top + kept) (bottom + 1) c) → new ≡ put windows w (lines_up windows.window w top bottom n c)
    moved_up kept rest first second = twice windows w s h _ _ _ now new (λ y x in_lines on. let wide = h.columns in grind (arith, nat_tests)) first second

    pub moved_down : now ≡ put windows w (rectangle_copied windows.window w top 0 (top + cleared) 0 (bottom + 1 - top - cleared) s.columns false)
        → new ≡ put now w (lines_filled top (top + cleared) c) → new ≡ put windows w (lines_down windows.window w top bottom n c)
    moved_down first second = twice windows w s h _ _ _ now new (λ y x in_lines on. let wide = h.columns in grind (arith, nat_tests)) first second

  -- ---- what the calls do

  pub erased : (now new : Windows) → now ≡ put windows w (everywhere s.settings.background) → new ≡ set now w (with_cursor origin)
      → new ≡ after_edit windows (draws w erase_drawing (Some (with_cursor origin)))
  erased now new drawn moved = grind (arith, call-is)

  pub cleared-is : (now new : Windows) → now ≡ put windows w (everywhere s.settings.background) → new ≡ set now w after_clear → new ≡ after_edit windows (draws w erase_drawing (Some after_clear))
  cleared-is now new drawn settings = grind (arith, call-is)

  pub line_deleted : (new : Windows) → new ≡ put windows w (lines_up windows.window w s.settings.cursor.0 (s.lines - 1) 1 s.settings.background)
      → new ≡ after_edit windows (draws w (deleteln_drawing windows.window w) None)
  line_deleted new e = grind (arith, call-is)

  pub line_inserted : (new : Windows) → new ≡ put windows w (lines_down windows.window w s.settings.cursor.0 (s.lines - 1) 1 s.settings.background)
      → new ≡ after_edit windows (draws w (insertln_drawing windows.window w) None)
  line_inserted new e = grind (arith, call-is)

  -- ---- and answer

  abbrev rest : Rect
  rest = record { top = s.settings.cursor.0; left = s.settings.cursor.1; bottom = s.settings.cursor.0; right = s.columns - 1 }

  abbrev from_line : ℕ → Rect
  from_line top = record { top = top; left = 0; bottom = s.lines - 1; right = s.columns - 1 }

  module _ (r : Rect) where
    pub character_inserted_frame : (character : ℕ) → r ≡ rest → Some r ≡ drawing_frame windows w (insch_drawing windows.window w character)
    character_inserted_frame character e = grind (arith, frame-inserted, frame-is)

    pub character_deleted_frame : r ≡ rest → Some r ≡ drawing_frame windows w (delch_drawing windows.window w)
    character_deleted_frame e = grind (arith, frame-deleted, frame-is)

    pub clrtoeol_frame-is : r ≡ rest → Some r ≡ drawing_frame windows w clrtoeol_drawing
    clrtoeol_frame-is e = grind (arith, frame-to_end_of_line, frame-is)

    pub clrtobot_frame-last : s.settings.cursor.0 + 1 ≡ s.lines → r ≡ rest → Some r ≡ drawing_frame windows w clrtobot_drawing
    clrtobot_frame-last last e = grind (arith, frame-to_bottom_last, frame-is)

    pub clrtobot_frame-more : s.settings.cursor.0 + 1 < s.lines → r ≡ from_line s.settings.cursor.0 → Some r ≡ drawing_frame windows w clrtobot_drawing
    clrtobot_frame-more more e = grind (arith, frame-to_bottom_more, frame-is)

    pub erased_frame : r ≡ from_line 0 → Some r ≡ drawing_frame windows w erase_drawing
    erased_frame e = grind (arith, frame-everywhere, frame-is)

    pub line_deleted_frame : r ≡ from_line s.settings.cursor.0 → Some r ≡ drawing_frame windows w (deleteln_drawing windows.window w)
    line_deleted_frame e = grind (arith, frame-lines_up, frame-is)

    pub line_inserted_frame : r ≡ from_line s.settings.cursor.0 → Some r ≡ drawing_frame windows w (insertln_drawing windows.window w)
    line_inserted_frame e = grind (arith, frame-lines_down, frame-is)
