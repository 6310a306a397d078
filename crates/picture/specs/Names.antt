-- The names from below: definitions take them from here, proofs and code from `specs`.
pub use Rattle.cell.specs.Glyphs.{Glyph, blank}
pub use Rattle.cell.specs.Pictures.{AreShown, HasSize, Picture, Place, line_of, origin, picture_of, shown_at}
pub use Rattle.cell.specs.ShownCells.{Pairs, Shown, shown, shown_blank}
pub use Rattle.cell.specs.declared.limits.TheConstants.{LARGEST_SCREEN}
pub use Rattle.cell.specs.declared.window.Rect.{Rect}
pub use Rattle.extents.specs.Extents.{AddsChanges, columns_of, has_columns, is_among}
pub use Rattle.grids.specs.Tables.{windows}
pub use Rattle.small_set.specs.Sets.{IsNext, contains}
pub use Rattle.stack.specs.Nodes.{AreOnce, IsOut}
pub use Rattle.stack.specs.Tables.{panels}
pub use Rattle.std.proofs.Common.{All, AllPairs, Bool, IsSome, IsSomeAnd, List, MatchOption, None, Option, Some, [], add_assoc, ap, arith, drop, false, find, get_or-set_other, get_or-set_same, inl}
pub use Rattle.std.proofs.Common.{inr, is_some, length, map, nat_le, nat_lt, not, option_and_then, refl, reverse, rules, slice_index, slice_index_or, slice_set, subst, suc, sym, take, true, zero, ℕ, ◌∙◌}
pub use Rattle.std.proofs.Math.Nat.{mod-add-mod, mul-le-mul_left, mul-le-mul_right}
pub use Rattle.std.proofs.lemmas.Bool.{and_from, and_parts, cases_eq, cases_lt, eq-eqb, eqb-true, le-leb, leb-true, lt-ltb, ltb-true, ne_eqb, or_cases, or_left, or_right}
pub use Rattle.std.proofs.lemmas.Bool.Decides.{nat_tests}
pub use Rattle.std.proofs.lemmas.Grind.{common_steps}
pub use Rattle.std.proofs.lemmas.List.{get_or-drop, get_or-take, get_or_past, length-drop, length-set, length-take, reverse-append}
pub use Rattle.std.proofs.lemmas.List.Elements.{All-head, All-tail, recursion_from_All}
pub use Rattle.std.proofs.lemmas.List.Folds.{find-append}
pub use Rattle.std.specs.List.{AllByRecursion, list_any}
pub use Rattle.std.specs.Option.{option_map, option_map_or, option_or}
pub use Rattle.std.specs.Prelude.{⊤}
pub use Rattle.world.specs.Frames.{AreRectangle, IsSmallest}
pub use Rattle.world.specs.PanelOrder.{Panels, cursor_of_topmost, cursor_on_screen, found_from_top, holds, holds_place, owner, panel_holds, place_of, screen_place, standard_screen, topmost}
pub use Rattle.world.specs.PanelOrder.{window_or_standard}
pub use Rattle.world.specs.Rows.{line_shown}
pub use Rattle.world.specs.Sharing.{SharesPart}
pub use Rattle.world.specs.Sound.{AreColumnsWithin, AreSoundPanels, AreSoundWindows, IsStandardScreen}
pub use Rattle.world.specs.WindowMaps.{HasPlace, Window, WindowMap, Windows, any_below, cell_at, joined_columns}
pub use Rattle.world.specs.calls.Affected.{follows_at, panel_shows_at, shows_at}
pub use Rattle.world.specs.calls.Making.{is_no_pad}
pub use Rattle.world.specs.calls.Queries.{place_on_screen, window_size}
pub use Rattle.world.specs.calls.Refresh.{among}
pub use Rattle.world.specs.calls.Stacking.{panel_number}
pub use Rattle.world.specs.declared.settings.Columns.{Columns}
