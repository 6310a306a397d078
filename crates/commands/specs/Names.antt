-- The names from below: definitions take them from here, proofs and code from `specs`.
pub use Rattle.cell.specs.Attributes.{hex_digits}
pub use Rattle.cell.specs.Glyphs.{is_printable}
pub use Rattle.cell.specs.Limits.{is_no_size}
pub use Rattle.cell.specs.Pictures.{Picture, Place, line_of}
pub use Rattle.cell.specs.ShownCells.{Rendition, Shown, has_colour}
pub use Rattle.cell.specs.declared.limits.TheConstants.{LARGEST_SCREEN}
pub use Rattle.clap.specs.Faults.{check_fault, entered_fault, level_fault, other_fault, turn_fault, word_fault}
unfoldable pub use Rattle.clap.specs.Faults.{walk_fault}
pub use Rattle.clap.specs.Kinds.{Kinds, or_else}
pub use Rattle.clap.specs.Matches.{subcommand_name_of}
pub use Rattle.clap.specs.Simple.{Shape, built, built_leaf, entered, inherited, marked_built, with_leaf_noted}
pub use Rattle.clap.specs.Walk.{Held, Outcome, Rule, Step, Waiting, Walk, after_flag, after_step, answers_to, finished, idle, long_or_other, next, nothing_held, option, plain_word}
pub use Rattle.clap.specs.Walk.{positional, rows_after, subcommand, subcommand_met, subcommand_or_other, trailing, value, walk, walk_from, word_met}
unfoldable pub use Rattle.clap.specs.Walk.{walked}
pub use Rattle.clap.specs.Words.{AddsInTurn, AddsSubcommand, App, FailsBy, HasMatchesOf, IsAmong, Row, Text, app_of, fault_of, first_of, first_value, found_of, has_subcommand, is_simple}
pub use Rattle.clap.specs.Words.{is_simple_and_free, kind_of, new_app, new_rule, one_of, rows_of, rule_of, subcommand_of, subcommand_rows_of, with_rule, with_subcommand}
pub use Rattle.clap.specs.contracts.error.kind.ErrorKind.{the_type}
pub use Rattle.clap.specs.declared.builder.action.ArgAction.TheVariants.{Set, SetTrue}
pub use Rattle.clap.specs.declared.builder.command.Command.{Command}
pub use Rattle.clap.specs.declared.builder.command.Command.TheViews.{out-Command}
pub use Rattle.clap.specs.declared.error.Error.{Error}
pub use Rattle.clap.specs.declared.error.kind.ErrorKind.{ErrorKind}
pub use Rattle.clap.specs.declared.error.kind.ErrorKind.TheVariants.{DisplayHelp, DisplayVersion, OutOfMemory}
pub use Rattle.clap.specs.declared.parser.matches.ArgMatches.{ArgMatches}
pub use Rattle.clap.specs.declared.parser.matches.Found.{Found}
pub use Rattle.ecma.specs.Readers.{Follows, HasFailed, HasRead, Reader, blank_terminal}
pub use Rattle.ecma.specs.Streams.{IsInProfile}
pub use Rattle.ecma.specs.Terminals.{Terminal}
pub use Rattle.ecma.specs.declared.reader.NotInProfile.{NotInProfile}
pub use Rattle.script.specs.Characters.{backslash, is_newline, letter_x, newline}
pub use Rattle.script.specs.Log.{last_line}
pub use Rattle.script.specs.declared.fault.ScriptEnd.{ScriptEnd}
pub use Rattle.script.specs.declared.fault.ScriptFault.{ScriptFault}
pub use Rattle.script.specs.declared.fault.ScriptFault.TheVariants.{Log, Reading, Write}
pub use Rattle.std.proofs.Common.{All, Bool, Err, IfErr, IfOk, IfSome, IsErrAnd, IsSomeAnd, IsTrue, List, MatchOption, MatchResult, None, Ok, Option, Result, Some, [], ap, append-nil, append_assoc}
pub use Rattle.std.proofs.Common.{arith, codes, cond, decimal, drop, false, fold, get_or, inl, inr, is_err, is_ok, is_some, length, length-append, map, not, option_and_then, option_map, pos, refl}
pub use Rattle.std.proofs.Common.{subst, sym, take, take-append-drop, true, ℕ, ◌∙◌}
pub use Rattle.std.proofs.KnownBytes.{Appends-nil, Appends-trans, Consumes-trans}
pub use Rattle.std.proofs.Math.Seq.{take-append-add, take-length}
pub use Rattle.std.proofs.lemmas.Bool.{ne_eqb}
pub use Rattle.std.proofs.lemmas.Grind.{flat_map-append}
pub use Rattle.std.proofs.lemmas.List.{map-append, take-append-le, take_more}
pub use Rattle.std.proofs.lemmas.Result.{IfErr-weaker, IfOk-weaker}
pub use Rattle.std.specs.Borrow.{Bor}
unfoldable pub use Rattle.std.specs.Fmt.{digits}
pub use Rattle.std.specs.Io.{WritesAtMost}
pub use Rattle.std.specs.Io.KnownBytes.{Appends, Consumes, IsAtEnd, Keeps, WriteAppends}
pub use Rattle.std.specs.List.{flat_map, list_any}
pub use Rattle.std.specs.Option.{option_map_or, option_or}
pub use Rattle.std.specs.Prelude.{⊤}
pub use Rattle.std.specs.Str.{bytes_eq}
pub use Rattle.std.specs.Str.Parse.{IsNumeral, digits_value, without_leading_plus}
pub use Rattle.std.specs.declared.io.ErrorKind.TheVariants.{BrokenPipe}
pub use Rattle.streams.specs.Counts.{count_after, moved_nothing, next_count}
pub use Rattle.streams.specs.Sending.{Sends}
pub use Rattle.streams.specs.Sinks.{Seen, flushed_after_flush, flushed_after_write, write_fails, write_is_whole}
pub use Rattle.streams.specs.Sources.{SourceSeen}
pub use Rattle.streams.specs.declared.sending.WriteFault.{WriteFault}
