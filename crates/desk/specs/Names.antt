-- The names from below: definitions take them from here, proofs and code from `specs`.
pub use Rattle.calls.specs.Kinds.{IsAnswerTo}
pub use Rattle.cell.specs.Differences.{difference}
pub use Rattle.cell.specs.Glyphs.{Glyph}
pub use Rattle.cell.specs.Pictures.{HasSize, Picture, Place, shown_at}
pub use Rattle.cell.specs.Refusals.{RefusedBy}
pub use Rattle.cell.specs.ShownCells.{no_rendition, shown, shown_blank}
pub use Rattle.cell.specs.declared.refusal.Refusal.{Refusal}
pub use Rattle.compose.specs.Calling.{Called, CountsReads, DamagesFew, MayRead, MayRefuse, MayTell, cells_of_reply}
pub use Rattle.compose.specs.Desks.{DeskTable, is_damaged_line, world}
pub use Rattle.compose.specs.Giving.{CellsGiven, Filled, RowPut}
pub use Rattle.compose.specs.KindLaws.{kind-of-answer, never-refused}
pub use Rattle.ecma.specs.Streams.{Leads, LeadsWithBreaks, showing}
pub use Rattle.ecma.specs.Terminals.{Terminal}
pub use Rattle.extents.specs.Extents.{DifferOnly}
pub use Rattle.paint.specs.Doupdates.{Agrees, IsUpdateText, PainterState, ShownPicture, first_painter, most_bytes, wanted_of}
pub use Rattle.script.specs.Characters.{is_newline}
pub use Rattle.script.specs.Lines.{HasNoNewline, Held, ReadsLine, end_failed, met_end}
pub use Rattle.script.specs.Log.{log_line}
pub use Rattle.script.specs.Readings.{before_others, ends_with, next_number, parse_line, reading, reading_of}
pub use Rattle.script.specs.Words.{entry_of, placeless}
pub use Rattle.script.specs.declared.bytes.LineEnd.{LineEnd}
pub use Rattle.script.specs.declared.bytes.LineEnd.TheVariants.{Newline, ReadFailed}
pub use Rattle.script.specs.declared.fault.ScriptEnd.{ScriptEnd}
pub use Rattle.script.specs.declared.fault.ScriptFault.{ScriptFault}
pub use Rattle.script.specs.declared.fault.ScriptFault.TheVariants.{Log, Reading, Text, Write}
pub use Rattle.script.specs.declared.fault.TextFault.{TextFault}
pub use Rattle.script.specs.declared.fault.TextFault.TheVariants.{LineTooLong}
pub use Rattle.script.specs.declared.limits.TheConstants.{LONGEST_LINE}
pub use Rattle.std.proofs.Common.{Bool, Err, IfOk, List, MatchOption, None, Ok, Option, Result, Some, [], add-zero, add_assoc, ap, append-nil, append_assoc, arith, cond, count_by, drop, false, get_or}
pub use Rattle.std.proofs.Common.{is_err, is_ok, is_some, length, length-append, map, nat_lt, not, refl, rules, subst, sum_by, sym, take, take-append-drop, take_all, true, ℕ, ◌∙◌}
pub use Rattle.std.proofs.KnownBytes.{Appends-nil, Appends-trans, Consumes-nil, Consumes-trans}
pub use Rattle.std.proofs.Math.Bool.{or-false}
pub use Rattle.std.proofs.Math.Nat.{add-le-add, mod-add-mod, mod-mod, mul-le-mul_right}
pub use Rattle.std.proofs.lemmas.Bool.{false_from_ne_true, or_parts}
pub use Rattle.std.proofs.lemmas.Bool.Decides.{nat_tests}
pub use Rattle.std.proofs.lemmas.Grind.{flat_map-append}
pub use Rattle.std.proofs.lemmas.List.{drop_more, map-append, take_more}
pub use Rattle.std.proofs.lemmas.List.Folds.{list_any-append, list_any_at}
pub use Rattle.std.proofs.lemmas.List.Splits.{length-slice_split, slice_split-cons_no, slice_split_at, slice_split_none}
pub use Rattle.std.proofs.lemmas.List.Sums.{sum_by-append, sum_by-cons, sum_by-le-sum_by, sum_by_push}
pub use Rattle.std.proofs.lemmas.Result.{err_from_is_err_and}
pub use Rattle.std.specs.Io.KnownBytes.{Appends, Consumes, IsAtEnd, Keeps}
pub use Rattle.std.specs.List.{All, flat_map, list_any, onto_first, slice_split}
pub use Rattle.std.specs.Option.{option_map_or}
pub use Rattle.std.specs.Prelude.{⊤}
pub use Rattle.streams.specs.Counts.{count_after, next_count}
pub use Rattle.streams.specs.Sinks.{Seen}
pub use Rattle.streams.specs.Sources.{SourceSeen}
pub use Rattle.streams.specs.declared.sending.WriteFault.{WriteFault}
pub use Rattle.world.specs.Effects.{Edit, arranges, changes, composed_windows, edits}
pub use Rattle.world.specs.Sound.{IsSound}
pub use Rattle.world.specs.Worlds.{World, first_world, picture, topmost_cursor}
pub use Rattle.world.specs.calls.Affected.{affected_after, bound_on_reads, most_cells}
pub use Rattle.world.specs.calls.Dispatch.{is_doupdate, is_update_panels, refusal, reply_of, world_after}
pub use Rattle.world.specs.calls.Given.{fill_edit, fill_tests, put_edit, put_tests}
pub use Rattle.world.specs.calls.Making.{new_refusal}
pub use Rattle.world.specs.calls.Queries.{both_numbers, cell_at_cursor}
pub use Rattle.world.specs.declared.call.Call.{Call}
pub use Rattle.world.specs.declared.call.Call.TheVariants.{Refresh}
pub use Rattle.world.specs.declared.call.Copying.TheVariants.{Syncup}
pub use Rattle.world.specs.declared.call.Making.TheVariants.{Delwin}
pub use Rattle.world.specs.declared.call.Query.TheVariants.{Inch}
pub use Rattle.world.specs.declared.call.Refresh.TheVariants.{Doupdate, UpdatePanels}
pub use Rattle.world.specs.declared.call.Reply.{Reply}
pub use Rattle.world.specs.declared.call.Reply.TheVariants.{Cell, Nothing, Sent}
pub use Rattle.world.specs.declared.call.Stacking.TheVariants.{DelPanel}
