-- The names from below: definitions take them from here, proofs and code from `specs`.
pub use Rattle.cell.specs.Glyphs.{Glyph, IsCell, blank, is_printable}
pub use Rattle.cell.specs.Grids.{start_of}
pub use Rattle.cell.specs.Packing.{given_cell, gives_cell}
pub use Rattle.cell.specs.Pictures.{AreCells, EachCell, HasSize, Place, Sheet, blank_sheet, cell_or, glyph_at, line_of}
pub use Rattle.cell.specs.Refusals.{RefusedBy, first_of}
pub use Rattle.cell.specs.declared.limits.TheConstants.{LARGEST_PAD, LARGEST_SCREEN, MOST_WINDOWS}
pub use Rattle.cell.specs.declared.refusal.Refusal.{Refusal}
pub use Rattle.cell.specs.declared.refusal.Refusal.TheVariants.{NoSuchWindow, NotDerived}
pub use Rattle.cell.specs.declared.window.Rect.{Rect}
pub use Rattle.cell.specs.declared.window.WinId.{WinId}
pub use Rattle.std.proofs.Common.{Bool, EachIndex, Err, IfErr, IfOk, IfSome, IsSome, IsSomeAnd, List, MatchOption, MatchResult, None, OnErr, OnOk, Option, Result, Some, [], add-suc, add-zero, ap}
pub use Rattle.std.proofs.Common.{arith, drop, eq-eqb, eqb, false, get_or, get_or-set_other, get_or-set_same, inl, inr, is_none, is_some, length, length-drop, length-take, lit<, lit≤, map, max}
pub use Rattle.std.proofs.Common.{nat_le, nat_lt, ne_eqb, ok_or, option_and_then, option_map, refl, replicate, rules, slice_index, slice_index_or, slice_set, subst, suc, sym, take, true, unwrap_or}
pub use Rattle.std.proofs.Common.{zero, zero-add, ℕ, ◌∙◌}
pub use Rattle.std.proofs.lemmas.Bool.{and_from, and_parts, cases_Bool, cases_eq, cases_lt, eqb-true, le-leb, le-ltb, leb-true, lt-ltb}
pub use Rattle.std.proofs.lemmas.Bool.Decides.{nat_tests}
pub use Rattle.std.proofs.lemmas.Grind.{common_steps}
pub use Rattle.std.proofs.lemmas.List.{ext_get_or, get_or-drop, get_or-map, get_or-replicate, get_or-take, get_or_past, get_or_read, length-map, length-replicate, length-set, length-take-le}
pub use Rattle.std.proofs.lemmas.List.Elements.{All-drop, All-from_recursion, All-get_or, All-take, recursion_from_All}
pub use Rattle.std.proofs.lemmas.List.Folds.{list_any_at}
pub use Rattle.std.proofs.lemmas.List.FromFn.{get_or-map-range_with_len, length-map-range_with_len}
pub use Rattle.std.proofs.lemmas.Map.Steps.{le-length_from_below}
pub use Rattle.std.specs.Fn.{FnOnceReturnsAtMut, FnOnceTakesAtMut}
pub use Rattle.std.specs.List.{AllByRecursion, list_all, list_any, range_with_len}
pub use Rattle.std.specs.Option.{option_map_or}
pub use Rattle.std.specs.Prelude.{⊤}
pub use Rattle.std.specs.Result.{result_err}
pub use Rattle.world.specs.Effects.{Change, after_change, asks_for_clear, change_reply, change_takes_memory, drawing_frame, makes, under_number, with_part, with_place, without_marks, unmarked_lines}
pub use Rattle.world.specs.Drawings.{rectangle_filled}
pub use Rattle.world.specs.Frames.{AreRectangle, Covers, frame_at, frame_of, frame_of_two}
pub use Rattle.world.specs.PanelOrder.{standard_screen}
pub use Rattle.world.specs.Replies.{its_flag, its_number, no_answer}
pub use Rattle.world.specs.Rows.{copied_cells, filled_cells, is_among, line_shown, listed_cells, overlaid_cell}
pub use Rattle.world.specs.Settings.{after_set_settings, set, set_in, with_cursor, with_settings}
pub use Rattle.world.specs.Sharing.{SharesPart, is_same_place, shows_part_of}
pub use Rattle.world.specs.Sound.{AreColumnsWithin, AreSettingsWithin, AreSoundWindows, HasCells, IsOnScreen, IsPartOf, IsSoundWindow, IsStandardScreen}
pub use Rattle.world.specs.WindowMaps.{Backing, Drawing, GridPlace, HasPlace, Window, WindowMap, Windows, ancestors, ancestors_within, any_below, cell_at, cell_of, derives, grid_drawing}
pub use Rattle.world.specs.WindowMaps.{joined_columns, laid_over, onward, over, own, own_grid, own_within, parent_number, part_of, put, put_windows, touched_below, touched_by, with_change}
pub use Rattle.world.specs.WindowMaps.{with_window, within}
unfoldable pub use Rattle.world.specs.WindowMaps.{window_limit}
pub use Rattle.world.specs.Worlds.{blank_grid, first_settings, first_world, new_window}
pub use Rattle.world.specs.calls.Copying.{after_copying, copying_change, copying_refusal, in_line, lines_marked, rectangle_copied, shows_touched_of, with_touches}
pub use Rattle.world.specs.calls.Making.{derived_from, derived_window, extent, free_among, has_derived, is_inside, is_part_of, making_change, making_refusal, new_number, new_refusal, next_window}
pub use Rattle.world.specs.calls.Making.{is_full, part_tests, place_from}
pub use Rattle.world.specs.calls.Queries.{cursor_of, offset_in_parent, place_on_screen, query_refusal, touched_columns, window_size}
pub use Rattle.world.specs.calls.Refresh.{among}
pub use Rattle.world.specs.calls.RefusedCalls.{Refused}
pub use Rattle.world.specs.declared.call.Copying.{Copying}
pub use Rattle.world.specs.declared.call.Copying.TheVariants.{Syncdown, Syncup}
pub use Rattle.world.specs.declared.call.Making.{Making}
pub use Rattle.world.specs.declared.call.Query.{Query}
pub use Rattle.world.specs.declared.call.Reply.{Reply}
pub use Rattle.world.specs.declared.settings.Columns.{Columns}
pub use Rattle.world.specs.declared.settings.Settings.{Settings}
