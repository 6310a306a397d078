-- What reporting a script's lines one after another does: definitions for the contracts of single steps.
use Rattle.std.specs.Prelude.{◌≡◌, ◌++◌}
use Rattle.checks.specs.Names.{[], ℕ, Bool, true, false, not, List, flat_map, Seen, SourceSeen, parse_line, LineEnd, Newline, ScriptEnd, ReadFailed, LineTooLong, ReadsStream, PuttingEnds}
use Rattle.checks.specs.Names.{WritingEnds}
use Rattle.checks.specs.CheckCommand.{AreFindingsOf, ReportsFault, ReportsLine, count_of, report}
use Rattle.checks.specs.declared.report.Report.{Report}

-- what is reported of a line as it was read
abbrev pub ReportsRead : ℕ → List ℕ → Bool → LineEnd → List (List ℕ) → Type 0
ReportsRead number line false end texts = ReportsFault number LineTooLong [] texts
ReportsRead number line true ReadFailed texts = texts ≡ []
ReportsRead number line true Newline texts = ReportsLine number line (parse_line line) texts
ReportsRead number line true ScriptEnd texts = ReportsLine number line (parse_line line) texts

-- These lines were written, all of them or a prefix, and counted.
pub record IsReported (old new : Seen) (report : Report) (lines : List (List ℕ)) : Type 0 where
  pub put : PuttingEnds report.is_written old new (flat_map (λ line. line) lines)
  pub faulty : report.faulty ≡ count_of lines

-- After what was reported some lines are, too.
abbrev pub ReportsMore : Seen → Seen → Report → Report → List (List ℕ) → Type 0
ReportsMore old new before after lines =
    (first : Seen) (reported : List (List ℕ)) → IsReported first old before reported → IsReported first new after (reported ++ lines)

-- The same of some lines.
abbrev pub ReportsSome : (List (List ℕ) → Type 0) → Seen → Seen → Report → Report → Type 0
ReportsSome P old new before after = (texts : List (List ℕ)) × P texts × ReportsMore old new before after texts

-- A script was read to its end, or until a read failed, and is reported.
pub record ReportsScript (old new : SourceSeen) (output after : Seen) (is_whole : Bool) (report : Report) : Type 0 where
  pub text : List ℕ
  pub reads : ReadsStream old new is_whole text
  pub lines : List (List ℕ)
  pub found : AreFindingsOf (not is_whole) text lines
  pub reported : IsReported output after report lines

-- What was reported is ended and flushed, or that failed.
abbrev pub EndsReport : Seen → Seen → Report → Bool → Type 0
EndsReport old new before written =
    (first : Seen) (lines : List (List ℕ)) → IsReported first old before lines → WritingEnds written first new (report lines)
