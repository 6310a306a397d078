-- The lines of a script's log. Their form is Curspan's own; docs/curspan.1 describes it under LOG.
use Rattle.std.specs.Prelude.{if◌then◌else◌, ◌∷◌, ◌++◌}
use Rattle.script.specs.Names.{ℕ, List, [], codes, decimal, Option, Some, None, Result, Ok, Err, option_map_or, hex_digits, refusal_text, Refusal, PanelId, Reply, Nothing, Number, TwoNumbers, Cell}
use Rattle.script.specs.Names.{Flag, Panel, Composed, Sent}
use Rattle.script.specs.Characters.{newline, space}
use Rattle.script.specs.declared.fault.ScriptFault.{ScriptFault}
use Rattle.script.specs.declared.fault.ScriptFault.TheVariants.{Text, Reading, Write, Log}
use Rattle.script.specs.declared.fault.TextFault.{TextFault}
use Rattle.script.specs.declared.fault.TextFault.TheVariants.{LineTooLong, BadByte, UnknownCall, WrongNumberOfArguments, BadArgument}

-- the number of a panel, or that there is none
abbrev pub panel_text : Option PanelId → List ℕ
panel_text None = codes "none"
panel_text (Some panel) = decimal panel.0

-- what the log says of a reply, if it says something: a number, two numbers, whether it is so, a panel or that there is
-- none, or of a cell the code of its character, its attributes in two hexadecimal digits, and its colour pair
abbrev pub reply_text : Reply → Option (List ℕ)
reply_text Nothing = None
reply_text (Number win) = Some (decimal win.0)
reply_text (TwoNumbers y x) = Some (decimal y ++ space ∷ decimal x)
reply_text (Cell cell) = Some (decimal cell.character ++ space ∷ hex_digits cell.attributes ++ space ∷ decimal cell.pair)
reply_text (Flag flag) = Some (if flag then codes "true" else codes "false")
reply_text (Panel panel) = Some (panel_text panel)
reply_text (Composed composed) = None
reply_text (Sent sent) = None

-- what the log says of an answer, if it says something
abbrev pub answer_text : Result Reply Refusal → Option (List ℕ)
answer_text (Ok reply) = reply_text reply
answer_text (Err refusal) = Some (refusal_text refusal)

-- the line of the log that says a text of a script's line
abbrev pub numbered_line : ℕ → List ℕ → List ℕ
numbered_line number text = codes "line " ++ decimal number ++ codes ": " ++ text ++ newline ∷ []

-- the line of the log for the call of a script's line, if it answers something or is refused
abbrev pub log_line : ℕ → Result Reply Refusal → List ℕ
log_line number answer = option_map_or (numbered_line number) (answer_text answer) []

-- what the log says of a line's fault
abbrev pub fault_text : TextFault → List ℕ
fault_text LineTooLong = codes "line too long"
fault_text BadByte = codes "bad byte"
fault_text UnknownCall = codes "unknown call"
fault_text WrongNumberOfArguments = codes "wrong number of arguments"
fault_text BadArgument = codes "bad argument"

-- the last line of the log, after those of the calls, for the fault that ended a script
abbrev pub last_line : ScriptFault → List ℕ
last_line (Text line fault) = numbered_line line (fault_text fault)
last_line Reading = codes "reading failed" ++ newline ∷ []
last_line (Write line fault) = numbered_line line (codes "write failed after " ++ decimal fault.sent ++ codes " bytes")
last_line Log = codes "writing failed" ++ newline ∷ []
