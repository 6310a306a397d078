-- What `check` reports of the script that it reads.
use Rattle.std.specs.Prelude.{◌≡◌, ◌⊎◌, ◌==◌, ◌++◌, ◌∷◌, ◌-◌, ◌^◌, if◌then◌else◌}
use Rattle.checks.specs.Names.{⊤, [], ℕ, Bool, true, false, not, List, Option, Some, None, Result, Ok, Err, codes, decimal, length, min, nat_lt, flat_map, slice_split, Seen, SourceSeen, is_newline}
use Rattle.checks.specs.Names.{newline, Refusal, last_line, next_number, parse_line, Reading, Log, TextFault, LineTooLong, LONGEST_LINE, Call, ReadsStream, Complains, IsNotWritten, IsWritten}
use Rattle.checks.specs.Names.{Outputs, TriesToLog}
use Rattle.checks.specs.Everywhere.{IsRefusedEverywhere}
use Rattle.checks.specs.Faults.{column_of}
use Rattle.checks.specs.Findings.{Says}

-- ---- the findings

-- what is reported of a call: nothing, or a line where every screen refuses it
abbrev pub ReportsCall : ℕ → Call → List (List ℕ) → Type 0
ReportsCall number call [] = ⊤
ReportsCall number call (text ∷ []) = ((why : Refusal) × IsRefusedEverywhere call why) × Says number 1 text
ReportsCall number call texts = ⊥

-- a line about a fault, and no other
abbrev pub ReportsFault : ℕ → TextFault → List ℕ → List (List ℕ) → Type 0
ReportsFault number fault line (text ∷ []) = Says number (column_of fault line) text
ReportsFault number fault line texts = ⊥

-- what is reported of a line by what it says, at which `run` would stop if that is a fault
abbrev pub ReportsLine : ℕ → List ℕ → Result (Option Call) TextFault → List (List ℕ) → Type 0
ReportsLine number line (Ok None) texts = texts ≡ []
ReportsLine number line (Ok (Some call)) texts = ReportsCall number call texts
ReportsLine number line (Err fault) texts = ReportsFault number fault line texts

-- The bytes after the last newline, where a read failed after them: they are no line, unless they are too many.
abbrev pub ReportsRestIf : Bool → ℕ → List ℕ → List (List ℕ) → Type 0
ReportsRestIf true number rest texts = ReportsFault number LineTooLong rest texts
ReportsRestIf false number rest texts = texts ≡ []

abbrev pub ReportsRest : ℕ → List ℕ → List (List ℕ) → Type 0
ReportsRest number rest texts = ReportsRestIf (nat_lt LONGEST_LINE (length rest)) number rest texts

-- what is reported of lines from a number on
abbrev pub AreFindings : Bool → ℕ → List (List ℕ) → List (List ℕ) → Type 0
AreFindings failed n [] texts = texts ≡ []
AreFindings true n (rest ∷ []) texts = ReportsRest n rest texts
AreFindings failed n (line ∷ lines) texts =
    (here others : List (List ℕ)) × (texts ≡ here ++ others) × ReportsLine n line (parse_line line) here × AreFindings failed (next_number n) lines others

-- A line for each faulty line of a script whose bytes these are. A read failed after them, or they are all.
abbrev pub AreFindingsOf : Bool → List ℕ → List (List ℕ) → Type 0
AreFindingsOf failed text = AreFindings failed 1 (slice_split is_newline text)

-- ---- what is written

-- how many they are, up to the greatest u64
abbrev pub count_of : List (List ℕ) → ℕ
count_of lines = min (length lines) (2 ^ 64 - 1)

abbrev pub count_line : ℕ → List ℕ
count_line n = if n == 0 then [] else decimal n ++ (if n == 1 then codes " faulty line" else codes " faulty lines") ++ newline ∷ []

-- the lines, and after them how many they are, if there is one
abbrev pub report : List (List ℕ) → List ℕ
report lines = flat_map (λ line. line) lines ++ count_line (count_of lines)

-- A script that was read to its end is judged by whether it has a finding. Of another the log gets a line.
abbrev pub Judges : Bool → List (List ℕ) → Seen → Seen → ℕ → Type 0
Judges true lines log after status = (status ≡ (if length lines == 0 then 0 else 2)) × (after ≡ log)
Judges false lines log after status = (status ≡ 3) × TriesToLog log after (last_line Reading)

-- The output took the report; or that failed, and the log gets a line, unless nobody reads the output.
abbrev pub Reports : Bool → List (List ℕ) → Outputs → Outputs → ℕ → Type 0
Reports is_whole lines old new status =
    (IsWritten old.output new.output (report lines) × Judges is_whole lines old.log new.log status)
    ⊎ ((status ≡ 3) × IsNotWritten old.output new.output (report lines) × Complains new.closed old.log new.log (last_line Log))

-- The script was read, and its findings are reported.
pub record Checks (input rest : SourceSeen) (old new : Outputs) (status : ℕ) : Type 0 where
  pub text : List ℕ
  pub is_whole : Bool
  pub reads : ReadsStream input rest is_whole text
  pub lines : List (List ℕ)
  pub found : AreFindingsOf (not is_whole) text lines
  pub ends : Reports is_whole lines old new status
