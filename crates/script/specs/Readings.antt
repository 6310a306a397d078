-- What a script says: its calls with the numbers of their lines, up to the first fault. The form of scripts is
-- Curspan's own; docs/curspan.1 describes it under SCRIPT and Arguments, and the faults in their order under LOG.
use Rattle.std.specs.Prelude.{◌+◌, ◌-◌, ◌^◌, ◌==◌, ◌&&◌, ◌∷◌, if◌then◌else◌}
use Rattle.script.specs.Names.{ℕ, Bool, true, false, not, List, [], length, min, Option, Some, None, Result, Ok, Err, nat_lt, join_with_byte, list_any, slice_split, option_map_or, Call}
use Rattle.script.specs.Characters.{is_bad_byte, is_newline, is_space, number_sign, space}
use Rattle.script.specs.declared.limits.TheConstants.{LONGEST_LINE}
use Rattle.script.specs.Words.{Entry, entry_of, no_arguments, word_of}
use Rattle.script.specs.Texts.{parse_arguments}
use Rattle.script.specs.declared.words.Form.{Form}
use Rattle.script.specs.declared.words.Form.TheVariants.{Number, NumberOrNone, Signed, Attributes, Flag, Character, Text}
use Rattle.script.specs.declared.fault.ScriptFault.{ScriptFault}
use Rattle.script.specs.declared.fault.ScriptFault.TheVariants.{Text as Text_fault, Reading as Reading_fault}
use Rattle.script.specs.declared.fault.TextFault.{TextFault}
use Rattle.script.specs.declared.fault.TextFault.TheVariants.{LineTooLong, BadByte, UnknownCall, WrongNumberOfArguments, BadArgument}

-- an argument that is everything to the end of the line
abbrev pub is_text : Form → Bool
is_text Number = false
is_text NumberOrNone = false
is_text Signed = false
is_text Attributes = false
is_text Flag = false
is_text Character = true
is_text Text = true

-- The arguments as they come after the word. A text takes all pieces that are left, joined again.
abbrev pub arguments : List Form → List (List ℕ) → List (List ℕ)
arguments [] pieces = pieces
arguments (form ∷ forms) [] = []
arguments (form ∷ forms) (piece ∷ pieces) =
    if is_text form then join_with_byte space (piece ∷ pieces) ∷ [] else piece ∷ arguments forms pieces

-- The call that an entry's arguments make, if they are as many as its forms and each has its own. Else their fault: a
-- wrong number of them, or else a bad form.
abbrev pub parse_entry : Entry → List (List ℕ) → Result Call TextFault
parse_entry entry pieces =
    if length (arguments entry.forms pieces) == length entry.forms
    then option_map_or (λ a. Ok (entry.call a)) (parse_arguments entry.forms (arguments entry.forms pieces) no_arguments) (Err BadArgument)
    else Err WrongNumberOfArguments

-- the call that the pieces between single spaces say
abbrev pub parse_pieces : List (List ℕ) → Result Call TextFault
parse_pieces [] = Err UnknownCall
parse_pieces (word ∷ pieces) = option_map_or (λ w. parse_entry (entry_of w) pieces) (word_of word) (Err UnknownCall)

-- no byte, or a comment
abbrev pub is_skipped : List ℕ → Bool
is_skipped [] = true
is_skipped (b ∷ bs) = b == number_sign && not (list_any is_bad_byte bs)

abbrev pub some_call : Result Call TextFault → Result (Option Call) TextFault
some_call (Ok call) = Ok (Some call)
some_call (Err fault) = Err fault

-- what a line says: a call, nothing, or its first fault
abbrev pub parse_line : List ℕ → Result (Option Call) TextFault
parse_line line = if nat_lt LONGEST_LINE (length line) then Err LineTooLong
    else (if is_skipped line then Ok None
    else (if list_any is_bad_byte line then Err BadByte
    else some_call (parse_pieces (slice_split is_space line))))

-- What a script says: its calls with the numbers of their lines, and the fault that ends it, if there is one.
pub record Reading : Type 0 where
  pub calls : List (ℕ × Call)
  pub fault : Option ScriptFault

abbrev pub ends_with : Option ScriptFault → Reading
ends_with fault = record { calls = []; fault = fault }

-- The number of the next line stays at the greatest u64.
abbrev pub next_number : ℕ → ℕ
next_number n = min (n + 1) (2 ^ 64 - 1)

-- the reading of a line with its number and of the others after it
abbrev pub before_others : ℕ → Result (Option Call) TextFault → Reading → Reading
before_others n (Err fault) others = ends_with (Some (Text_fault n fault))
before_others n (Ok None) others = others
before_others n (Ok (Some call)) others = record { calls = (n, call) ∷ others.calls; fault = others.fault }

-- The bytes after the last newline, where a read failed after them: they are no line.
abbrev pub cut_rest : ℕ → List ℕ → Reading
cut_rest n rest = ends_with (Some (if nat_lt LONGEST_LINE (length rest) then Text_fault n LineTooLong else Reading_fault))

-- the reading of lines from a number on
abbrev pub reading_of : Bool → ℕ → List (List ℕ) → Reading
reading_of failed n [] = ends_with None
reading_of true n (rest ∷ []) = cut_rest n rest
reading_of failed n (line ∷ lines) = before_others n (parse_line line) (reading_of failed (next_number n) lines)

-- The reading of a script whose bytes these are. A read failed after them, or they are all.
abbrev pub reading : Bool → List ℕ → Reading
reading failed text = reading_of failed 1 (slice_split is_newline text)
