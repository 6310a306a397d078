-- The names from below: definitions take them from here, proofs and code from `specs`.
pub use Rattle.calls.specs.Kinds.{IsAnswerTo, IsOfKind, cell, kind_of, kind_of_change, kind_of_effect, kind_of_order, kind_of_query, kind_of_reply, numbers}
pub use Rattle.calls.specs.Methods.{as_reply}
pub use Rattle.calls.specs.Queries.{is_query}
pub use Rattle.cell.specs.Differences.{difference, line_difference, same_shown}
pub use Rattle.cell.specs.Glyphs.{Glyph, blank}
pub use Rattle.cell.specs.Pictures.{AreShown, HasSize, Picture, Place, blank_picture, line_of, origin, picture_of, shown_at}
pub use Rattle.cell.specs.Refusals.{RefusedBy, first_of}
pub use Rattle.cell.specs.ShownCells.{IsShown, Pairs, Shown, shown, shown_blank}
pub use Rattle.cell.specs.VirtualScreens.{VirtualScreen}
pub use Rattle.cell.specs.declared.limits.TheConstants.{LARGEST_PAD, LARGEST_SCREEN}
pub use Rattle.cell.specs.declared.refusal.Refusal.{Refusal}
pub use Rattle.cell.specs.declared.refusal.Refusal.TheVariants.{InPanel, IsPad, NoMemory, NoSuchPanel, NoSuchWindow, NotDerived}
pub use Rattle.cell.specs.declared.window.Rect.{Rect}
pub use Rattle.cell.specs.declared.window.WinId.{WinId}
pub use Rattle.extents.specs.Extents.{AddsChanges, columns_of, has_columns, is_among}
pub use Rattle.grids.specs.Calls.{Changed}
pub use Rattle.grids.specs.Questions.{grid_of}
pub use Rattle.grids.specs.Tables.{WindowTable, windows}
pub use Rattle.picture.specs.Damaging.{Damages, cells_above, cells_of_line}
pub use Rattle.picture.specs.Parts.{IsFrameWithin, frame_holds, part_holds}
pub use Rattle.picture.specs.Repairs.{IsRepairable}
pub use Rattle.picture.specs.Spans.{HasPanelWindows, IsSpan}
pub use Rattle.stack.specs.Calls.{Arranged, no_windows}
pub use Rattle.stack.specs.Tables.{PanelTable, panels}
pub use Rattle.std.proofs.Common.{Bool, Err, IfOk, IsSome, IsSomeAnd, List, MatchOption, None, Ok, OnErr, OnOk, Option, Result, Some, [], ap, arith, false, find, inl, inr, is_none, is_some, length}
pub use Rattle.std.proofs.Common.{map, max, nat_le, nat_lt, option_and_then, refl, replicate, reverse, rules, slice_index_or, subst, suc, sym, true, unwrap_or, w16, zero, ℕ, ◌∙◌}
pub use Rattle.std.proofs.lemmas.Bool.{and_from, and_parts, cases_eq, cases_lt, eq-eqb, false_from_ne_true, le-leb, leb-true, lt-ltb, ltb-true, ne_eqb, true≢false}
pub use Rattle.std.proofs.lemmas.Bool.Decides.{nat_tests}
pub use Rattle.std.proofs.lemmas.Grind.{common_steps}
pub use Rattle.std.proofs.lemmas.Int.{to_z-of_z}
pub use Rattle.std.proofs.lemmas.List.{length-replicate}
pub use Rattle.std.proofs.lemmas.List.Sums.{sum_by-cons}
pub use Rattle.std.specs.List.{count_by, filter_map, list_any, range_with_len}
pub use Rattle.std.specs.Option.{option_map, option_map_or}
pub use Rattle.std.specs.Prelude.{⊤}
pub use Rattle.std.specs.Result.{result_err}
pub use Rattle.windows.specs.Calls.{Drew, its_frame, no_frame}
pub use Rattle.world.specs.Effects.{Change, Edit, Effect, Order, adds, after, after_change, after_edit, arranges, asks, asks_for_clear, carries, change_reply, changes, colours, composed_windows}
pub use Rattle.world.specs.Effects.{composes, deletes, edit_frame, edit_window, edits, effect_reply, makes, marks, moves, order_reply, order_takes_memory, orders, panels_after, refreshes, shifts}
pub use Rattle.world.specs.Effects.{shown_over, shows, windows_after, with_unmarked, without_marks}
pub use Rattle.world.specs.Frames.{AreRectangle}
pub use Rattle.world.specs.PanelOrder.{Panels, cursor_of_topmost, found_from_top, is_in_panel, standard_screen, windows_from_top}
pub use Rattle.world.specs.Replies.{its_flag, its_number, its_panel, no_answer}
pub use Rattle.world.specs.Rows.{line_shown}
pub use Rattle.world.specs.Sharing.{SharesPart}
pub use Rattle.world.specs.Sound.{AreColumnsWithin, AreSoundPanels, AreSoundWindows, IsSound, IsStandardScreen}
pub use Rattle.world.specs.WindowMaps.{Backing, Drawing, GridPlace, HasPlace, Window, WindowMap, Windows, any_below, cell_at, own, own_grid, part_of, with_change}
unfoldable pub use Rattle.world.specs.WindowMaps.{window_limit}
pub use Rattle.world.specs.Worlds.{World, first_world, picture}
pub use Rattle.world.specs.calls.Affected.{affected_after, affects_place, change_shows_at, edit_shows_at, effect_shows_at, follows_at, frame_shows_at, most_cells, move_shows_at, order_shows_at, panel_shows_at}
pub use Rattle.world.specs.calls.Affected.{shows_at, stays_on_top, window_if_topmost}
pub use Rattle.world.specs.calls.Copying.{copying_change, copying_refusal, copywin_drawing}
pub use Rattle.world.specs.calls.Dispatch.{effect_of, is_doupdate, is_update_panels, refusal, reply_of, takes_memory, world_after}
pub use Rattle.world.specs.calls.Given.{fill_edit, fill_tests, put_edit, put_tests, world_edited}
pub use Rattle.world.specs.calls.Making.{is_own, making_change, making_refusal, new_refusal}
pub use Rattle.world.specs.calls.Queries.{offset_of, place_on_screen, query_refusal, query_reply, touched_columns}
pub use Rattle.world.specs.calls.Refresh.{among, colour_tests, pnoutrefresh_tests, refresh_refusal, touched_cells}
pub use Rattle.world.specs.calls.RefusedCalls.{Refused}
pub use Rattle.world.specs.calls.Stacking.{after_stacking, new_panel_number, new_panel_tests, next_panel, numbered_panel, panel_number, stacking_order, stacking_refusal, stacking_tests, window_tests}
pub use Rattle.world.specs.calls.Writing.{writing_edit, writing_refusal}
pub use Rattle.world.specs.declared.call.Call.{Call}
pub use Rattle.world.specs.declared.call.Copying.TheVariants.{IsLinetouched, IsWintouched}
pub use Rattle.world.specs.declared.call.Making.{Making}
pub use Rattle.world.specs.declared.call.Query.{Query}
pub use Rattle.world.specs.declared.call.Query.TheVariants.{Getbegyx, Getparyx, Inch}
pub use Rattle.world.specs.declared.call.Refresh.{Refresh}
pub use Rattle.world.specs.declared.call.Refresh.TheVariants.{Doupdate, InitPair, Noutrefresh, Pnoutrefresh, UpdatePanels}
pub use Rattle.world.specs.declared.call.Reply.{Reply}
pub use Rattle.world.specs.declared.call.Reply.TheVariants.{Cell, Composed, Flag, Nothing, Number, Panel, Sent, TwoNumbers}
pub use Rattle.world.specs.declared.call.Stacking.{Stacking}
pub use Rattle.world.specs.declared.call.Stacking.TheVariants.{BottomPanel, DelPanel, HidePanel, MovePanel, NewPanel, PanelAbove, PanelBelow, PanelHidden, PanelWindow, ReplacePanel, ShowPanel}
pub use Rattle.world.specs.declared.call.Stacking.TheVariants.{TopPanel}
pub use Rattle.world.specs.declared.call.Writing.{Writing}
pub use Rattle.world.specs.declared.settings.Columns.{Columns}
