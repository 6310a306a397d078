-- The names from below: definitions take them from here, proofs and code from `specs`.
pub use Rattle.cell.specs.Glyphs.{is_printable}
pub use Rattle.cell.specs.declared.limits.TheConstants.{LARGEST_PAD, LARGEST_SCREEN, MOST_PANELS, MOST_WINDOWS}
pub use Rattle.cell.specs.declared.refusal.Refusal.{Refusal}
pub use Rattle.commands.specs.ShowCommand.{IsWholeAt, ReadsStream}
pub use Rattle.commands.specs.Written.{Complains, IsNotWritten, IsWritten, Outputs, PuttingEnds, TriesToLog, WritingEnds, outputs}
pub use Rattle.script.specs.Characters.{backslash, is_bad_byte, is_newline, is_space, newline, space}
pub use Rattle.script.specs.Lines.{EndsLine, HasNoNewline, Held, IsKept, ReadingEnds, ReadsToEnd, end_failed, has_newline, met_end, work_left}
pub use Rattle.script.specs.Log.{last_line}
pub use Rattle.script.specs.Pieces.{pieces_of, room_of}
pub use Rattle.script.specs.Readings.{arguments, next_number, parse_line}
pub use Rattle.script.specs.Texts.{parse_argument}
pub use Rattle.script.specs.Words.{entry_of, no_arguments, placeless, word_of}
pub use Rattle.script.specs.declared.bytes.LineEnd.{LineEnd}
pub use Rattle.script.specs.declared.bytes.LineEnd.TheVariants.{Newline, ReadFailed, ScriptEnd}
pub use Rattle.script.specs.declared.fault.ScriptFault.TheVariants.{Log, Reading}
pub use Rattle.script.specs.declared.fault.TextFault.{TextFault}
pub use Rattle.script.specs.declared.fault.TextFault.TheVariants.{BadArgument, BadByte, LineTooLong, UnknownCall, WrongNumberOfArguments}
pub use Rattle.script.specs.declared.limits.TheConstants.{LONGEST_LINE}
pub use Rattle.script.specs.declared.words.Form.{Form}
pub use Rattle.script.specs.declared.words.Form.TheVariants.{Character, Flag, Text}
pub use Rattle.script.specs.declared.words.Word.{Word}
pub use Rattle.std.proofs.Common.{Bool, Err, IfSome, List, None, Ok, Option, Result, Some, [], ap, append-nil, append_assoc, arith, codes, decimal, false, inl, inr, is_some, length, length-append}
pub use Rattle.std.proofs.Common.{min, nat_le, nat_lt, not, option_map, position, refl, slice_index, subst, sym, take, true, ℕ, ◌∙◌}
pub use Rattle.std.proofs.KnownBytes.{Appends-trans, Consumes-nil, Consumes-trans}
pub use Rattle.std.proofs.Math.Seq.{take-append-add}
pub use Rattle.std.proofs.lemmas.Bool.{both_ways, false_from_ne_true, not-false, not-true}
pub use Rattle.std.proofs.lemmas.Bool.Decides.{nat_tests}
pub use Rattle.std.proofs.lemmas.Grind.{flat_map-append}
pub use Rattle.std.proofs.lemmas.List.Folds.{list_any_at}
pub use Rattle.std.proofs.lemmas.List.Splits.{length-slice_split, slice_split_at, slice_split_none}
pub use Rattle.std.specs.Char.{is_ascii_digit}
pub use Rattle.std.specs.Io.KnownBytes.{Consumes, IsAtEnd}
pub use Rattle.std.specs.List.{All, flat_map, list_all, list_any, slice_split}
pub use Rattle.std.specs.Option.{option_map_or, unwrap_or}
pub use Rattle.std.specs.Prelude.{⊤}
pub use Rattle.std.specs.Str.{bytes_eq}
pub use Rattle.streams.specs.Sinks.{Seen}
pub use Rattle.streams.specs.Sources.{SourceSeen}
pub use Rattle.world.specs.PanelOrder.{standard_screen}
pub use Rattle.world.specs.Sound.{IsSound, IsSoundWindow}
pub use Rattle.world.specs.WindowMaps.{Window}
pub use Rattle.world.specs.Worlds.{World}
pub use Rattle.world.specs.calls.Dispatch.{tests_of}
pub use Rattle.world.specs.calls.Making.{columns_from, is_before, is_inside, is_outside, is_pad, lines_from}
pub use Rattle.world.specs.calls.Writing.{is_bad_character}
pub use Rattle.world.specs.declared.call.Call.{Call}
