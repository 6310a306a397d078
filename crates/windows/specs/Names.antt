-- The names from below: definitions take them from here, proofs and code from `specs`.
pub use Rattle.cell.specs.Attributes.{bits_of, valid_attributes, without}
pub use Rattle.cell.specs.Glyphs.{Glyph, IsCell, blank, is_printable}
pub use Rattle.cell.specs.Packing.{given_cell, gives_cell}
pub use Rattle.cell.specs.Pictures.{Place, origin}
pub use Rattle.cell.specs.Refusals.{RefusedBy, first_of}
pub use Rattle.cell.specs.declared.limits.TheConstants.{LARGEST_PAD}
pub use Rattle.cell.specs.declared.refusal.Refusal.{Refusal}
pub use Rattle.cell.specs.declared.window.Rect.{Rect}
pub use Rattle.grids.specs.Calls.{Asked}
pub use Rattle.grids.specs.Inks.{printed_cell}
pub use Rattle.grids.specs.Tables.{WindowTable, windows}
pub use Rattle.std.proofs.Common.{Bool, EachIndex, IfOk, IsSome, IsSomeAnd, List, MatchResult, None, Ok, OnErr, OnOk, Option, Result, Some, [], ap, arith, codes, drop, eq-eqb, false, get_or, inl, inr, length-drop, length-take}
pub use Rattle.std.proofs.Common.{is_some, length, map, max, min, nat_le, nat_lt, negsuc, not, option_and_then, pos, refl, rules, slice_index, slice_index_or, subst, suc, sym, take, true, zero, ℕ, ℤ, ◌∙◌}
pub use Rattle.std.proofs.lemmas.Bool.{and_parts, cases_Bool, cases_eq, cases_lt, eqb-true, ne_eqb}
pub use Rattle.std.proofs.lemmas.Bool.Decides.{nat_tests}
pub use Rattle.std.proofs.lemmas.Grind.{common_steps}
pub use Rattle.std.proofs.lemmas.Int.{to_z-of_z}
pub use Rattle.std.proofs.lemmas.List.{get_or-drop, get_or-map, get_or-take, length-map, nil_from_length, take-append-drop, take_all, take_more}
pub use Rattle.std.proofs.lemmas.List.Folds.{list_any-append}
pub use Rattle.std.proofs.lemmas.Nat.{and_le_l, and_mask, or_lt}
pub use Rattle.std.specs.Int.RustNames.{bit_or}
pub use Rattle.std.specs.List.{AllByRecursion, list_all, list_any}
pub use Rattle.std.specs.Option.{option_map}
pub use Rattle.std.specs.Result.{result_err}
pub use Rattle.world.specs.Drawings.{at_place, character_deleted, character_inserted, everywhere, lines_down, lines_up, rectangle_filled, to_bottom, to_end_of_line, written_glyph}
pub use Rattle.world.specs.Effects.{Change, after_change, after_edit, change_frame, drawing_frame, draws, edit_frame, edits, types, Edit, sets}
pub use Rattle.world.specs.Frames.{frame_of, frame_of_two}
pub use Rattle.world.specs.Rows.{copied_cells, filled_cells, line_shown, listed_cells}
pub use Rattle.world.specs.Settings.{after_set_settings, set, set_in, with_cursor}
pub use Rattle.world.specs.Sound.{AreSettingsWithin, AreSoundWindows}
pub use Rattle.world.specs.Typing.{after_character, after_text, character_drawing, character_printed, drawing_of_character, drawn_to, line_ended, line_ended_drawing, next_line_drawing, text_drawing}
pub use Rattle.world.specs.Typing.{to_next_line, typed_drawing, typed_in}
pub use Rattle.world.specs.WindowMaps.{Drawing, GridPlace, HasPlace, Window, WindowMap, Windows, after_drawing, cell_at, if_there, no_windows, over, own, own_grid, own_within, put, put_from}
pub use Rattle.world.specs.WindowMaps.{put_windows, with_change, with_window}
unfoldable pub use Rattle.world.specs.WindowMaps.{window_limit}
pub use Rattle.world.specs.Worlds.{blank_grid, first_settings, first_world}
pub use Rattle.world.specs.calls.Copying.{common_cells, copying_change, copying_refusal, overlay_tests, rectangle_copied}
pub use Rattle.world.specs.calls.Given.{fill_edit, fill_tests, gives_no_character, gives_no_pair, put_edit, put_tests}
pub use Rattle.world.specs.calls.Making.{new_refusal}
pub use Rattle.world.specs.calls.Queries.{cell_at_cursor, place_on_screen}
pub use Rattle.world.specs.calls.Writing.{after_clear, clrtobot_drawing, clrtoeol_drawing, delch_drawing, deleteln_drawing, erase_drawing, insch_drawing, insertln_drawing, is_bad_character}
pub use Rattle.world.specs.calls.Writing.{scrl_drawing, writing_edit, writing_refusal}
pub use Rattle.world.specs.declared.call.Copying.{Copying}
pub use Rattle.world.specs.declared.call.Query.{Query}
pub use Rattle.world.specs.declared.call.Writing.{Writing}
pub use Rattle.world.specs.declared.settings.Settings.{Settings}
