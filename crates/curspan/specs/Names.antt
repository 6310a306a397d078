-- The names from below: definitions take them from here, proofs and code from `specs`.
pub use Rattle.cell.specs.Pictures.{picture_of}
pub use Rattle.cell.specs.Refusals.{RefusedBy}
pub use Rattle.cell.specs.ShownCells.{no_rendition}
pub use Rattle.checks.specs.CheckCommand.{Checks}
pub use Rattle.clap.specs.Words.{Text}
pub use Rattle.clap.specs.declared.error.kind.ErrorKind.{ErrorKind}
pub use Rattle.commands.specs.CommandLine.{Asks, IsRefused, IsSize, Sizes, sizes_of, text_of}
pub use Rattle.commands.specs.Opening.{SaysUnopened}
pub use Rattle.commands.specs.Printing.{printed_picture}
pub use Rattle.commands.specs.RefusedWords.{Explains}
pub use Rattle.commands.specs.ShowCommand.{Shows}
pub use Rattle.commands.specs.Statuses.{LacksMemory, SaysFault, status_of}
pub use Rattle.commands.specs.Written.{Complains, IsNotWritten, IsWritten, Outputs, WritingEnds, outputs}
pub use Rattle.commands.specs.declared.opening.OpenFault.{OpenFault}
pub use Rattle.commands.specs.declared.requests.Invocation.{Invocation}
pub use Rattle.commands.specs.declared.requests.Job.{Job}
pub use Rattle.commands.specs.declared.requests.Kind.{Kind}
pub use Rattle.commands.specs.declared.requests.Kind.TheVariants.{Paint, Run, Show}
pub use Rattle.commands.specs.declared.requests.Request.{Request}
pub use Rattle.commands.specs.declared.status.Need.{Need}
pub use Rattle.commands.specs.declared.status.Need.TheVariants.{Screen}
pub use Rattle.compose.specs.Desks.{world}
pub use Rattle.desk.specs.EndsOfScripts.{ScriptEnds, read_failed, write_fault}
pub use Rattle.desk.specs.States.{ScreenOver}
pub use Rattle.paint.specs.Doupdates.{PainterState, first_painter}
pub use Rattle.script.specs.Log.{last_line}
pub use Rattle.script.specs.declared.fault.ScriptEnd.{ScriptEnd}
pub use Rattle.script.specs.declared.fault.ScriptFault.TheVariants.{Log}
pub use Rattle.std.proofs.Common.{Bool, IfErr, IfOk, List, MatchOption, MatchResult, None, Option, Some, [], ap, false, inl, inr, is_some, map, refl, rules, subst, sym, true, ℕ, ◌∙◌}
pub use Rattle.std.specs.IoError.{error_kind}
pub use Rattle.std.specs.Prelude.{⊤}
pub use Rattle.std.specs.declared.io.ErrorKind.TheVariants.{IsADirectory, NotADirectory, NotFound, OutOfMemory, PermissionDenied}
pub use Rattle.streams.specs.Counts.{count_after}
pub use Rattle.streams.specs.Sinks.{Seen, nothing_seen}
pub use Rattle.streams.specs.Sources.{SourceSeen}
pub use Rattle.world.specs.Worlds.{World, first_world, picture, topmost_cursor}
pub use Rattle.world.specs.calls.Dispatch.{world_after}
pub use Rattle.world.specs.calls.Making.{new_refusal}
pub use Rattle.world.specs.declared.call.Call.{Call}
pub use Rattle.world.specs.declared.call.Refresh.{Refresh}
