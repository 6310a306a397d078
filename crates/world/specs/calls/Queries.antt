-- The calls that ask about a window: each with its tests and its answer.
-- X/Open Curses Issue 7: getyx, getbegyx, getmaxyx, getparyx, inch.
use Rattle.std.specs.Prelude.{◌∷◌}
use Rattle.world.specs.Names.{ℕ, Bool, Option, Some, None, option_and_then, List, [], option_map, option_map_or, Glyph, Place, first_of, Refusal, IsPad, NotDerived}
use Rattle.world.specs.WindowMaps.{Backing, own_grid, part_of, WindowMap, Windows, cell_at}
use Rattle.world.specs.calls.Making.{is_pad, has_no_parent}
use Rattle.world.specs.calls.Rules.{Rule, missing_window}
use Rattle.world.specs.declared.written_calls.Query.{Query}
use Rattle.world.specs.declared.written_calls.Query.TheVariants.{Getyx, Getbegyx, Getmaxyx, Getparyx, Inch}
use Rattle.world.specs.declared.call.Reply.{Reply}
use Rattle.world.specs.declared.call.Reply.TheVariants.{Nothing, TwoNumbers, Cell}
use Rattle.world.specs.declared.settings.Columns.{Columns}

abbrev pub cursor_of : WindowMap → ℕ → Option Place
cursor_of window w = option_map (λ a. a.settings.cursor) (window w)

abbrev pub place_on_screen : WindowMap → ℕ → Option Place
place_on_screen window w = option_and_then (λ a. a.place) (window w)

abbrev pub window_size : WindowMap → ℕ → Option (ℕ × ℕ)
window_size window w = option_map (λ a. (a.lines, a.columns)) (window w)

abbrev pub offset_of : Backing → Option Place
offset_of (own_grid cells) = None
offset_of (part_of parent line column) = Some (line, column)

abbrev pub offset_in_parent : WindowMap → ℕ → Option Place
offset_in_parent window w = option_and_then (λ a. offset_of a.backing) (window w)

abbrev pub cell_at_cursor : WindowMap → ℕ → Option Glyph
cell_at_cursor window w = option_map (λ a. cell_at window w a.settings.cursor.0 a.settings.cursor.1) (window w)

abbrev pub touched_columns : WindowMap → ℕ → ℕ → Option Columns
touched_columns window w y = option_and_then (λ a. a.touched y) (window w)

abbrev pub both_numbers : Option Place → Reply
both_numbers place = option_map_or (λ p. TwoNumbers p.0 p.1) place Nothing

-- ---- calls

abbrev pub query_rule : Windows → Query → Rule Reply
query_rule windows (Getyx win) = record { tests = missing_window windows win.0 ∷ []; effect = both_numbers (cursor_of windows.window win.0) }
query_rule windows (Getbegyx win) = record {
  tests = missing_window windows win.0 ∷ (is_pad windows.window win.0, IsPad) ∷ [];
  effect = both_numbers (place_on_screen windows.window win.0);
}
query_rule windows (Getmaxyx win) = record { tests = missing_window windows win.0 ∷ []; effect = both_numbers (window_size windows.window win.0) }
query_rule windows (Getparyx win) = record {
  tests = missing_window windows win.0 ∷ (has_no_parent windows.window win.0, NotDerived) ∷ [];
  effect = both_numbers (offset_in_parent windows.window win.0);
}
query_rule windows (Inch win) = record {
  tests = missing_window windows win.0 ∷ [];
  effect = option_map_or (λ shown. Cell shown) (cell_at_cursor windows.window win.0) Nothing;
}

abbrev pub query_tests : Windows → Query → List (Bool × Refusal)
query_tests windows query = (query_rule windows query).tests

abbrev pub query_reply : Windows → Query → Reply
query_reply windows query = (query_rule windows query).effect

abbrev pub query_refusal : Windows → Query → Option Refusal
query_refusal windows query = first_of (query_tests windows query)
