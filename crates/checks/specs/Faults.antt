-- Where a line's fault is: the word of the line, its arguments, the first that lacks its form, and the column of the fault.
use Rattle.std.specs.Prelude.{◌+◌, ◌-◌, ◌==◌, ◌&&◌, ◌||◌, ◌∷◌, if◌then◌else◌}
use Rattle.checks.specs.Names.{ℕ, Bool, false, true, not, List, [], codes, is_some, length, nat_le, Option, Some, None, position, take, is_ascii_digit, bytes_eq, list_any, slice_split}
use Rattle.checks.specs.Names.{option_map_or, unwrap_or, backslash, is_bad_byte, is_space, arguments, parse_argument, entry_of, no_arguments, word_of, LONGEST_LINE, Form, Character, Flag, Text}
use Rattle.checks.specs.Names.{TextFault, LineTooLong, BadByte, UnknownCall, WrongNumberOfArguments, BadArgument}

-- ---- the word of a line, and the arguments after it

abbrev pub word_in : List (List ℕ) → List ℕ
word_in [] = []
word_in (word ∷ pieces) = word

-- the forms of a call's arguments, if the word is a call's
abbrev pub forms_of : List ℕ → List Form
forms_of word = option_map_or (λ w. (entry_of w).forms) (word_of word) []

abbrev pub arguments_in : List (List ℕ) → List (List ℕ)
arguments_in [] = []
arguments_in (word ∷ pieces) = arguments (forms_of word) pieces

-- The first of the arguments begins in this column, and one space is after each: the column after as many as there are forms.
abbrev pub column_after : ℕ → List Form → List (List ℕ) → ℕ
column_after column (form ∷ forms) (argument ∷ others) = column_after (column + length argument + 1) forms others
column_after column _ _ = column

-- an argument without its form
pub record IllFormed : Type 0 where
  pub column : ℕ
  pub form : Form
  pub argument : List ℕ

abbrev pub has_form : Form → List ℕ → Bool
has_form form argument = is_some (parse_argument form argument no_arguments)

-- the first of the arguments that lacks its form
abbrev pub find_ill_formed : ℕ → List Form → List (List ℕ) → Option IllFormed
find_ill_formed column (form ∷ forms) (argument ∷ others) = if has_form form argument
    then find_ill_formed (column + length argument + 1) forms others
    else Some (record { column = column; form = form; argument = argument })
find_ill_formed column _ _ = None

-- the column of the first argument of a word
abbrev pub first_column : List ℕ → ℕ
first_column word = length word + 2

abbrev pub find_ill_formed_in : List (List ℕ) → Option IllFormed
find_ill_formed_in pieces = find_ill_formed (first_column (word_in pieces)) (forms_of (word_in pieces)) (arguments_in pieces)

-- a text begins with an escape: with two bytes that are a text, or with four
abbrev pub begins_escape : List ℕ → Bool
begins_escape text = has_form Text (take 2 text) || has_form Text (take 4 text)

-- what is after the first backslash of a text that begins no escape
abbrev pub after_bad_escape : List ℕ → List ℕ
after_bad_escape [] = []
after_bad_escape (b ∷ []) = []
after_bad_escape (b ∷ c ∷ bs) = if b == backslash then (if begins_escape (b ∷ c ∷ bs) then after_bad_escape bs else c ∷ bs) else after_bad_escape (c ∷ bs)

-- how many bytes of an argument without its form are before its fault: those of a text before such a backslash
abbrev pub bytes_before : Form → List ℕ → ℕ
bytes_before Text text = length text - length (after_bad_escape text) - 1
bytes_before form argument = 0

-- ---- what separates no arguments

abbrev pub begins_with : List ℕ → List ℕ → Bool
begins_with prefix text = bytes_eq (take (length prefix) text) prefix

-- nothing, as between two spaces in a row, or what would begin a comment, here or in other languages; `#1` and `#f00` have a digit, and begin none
abbrev pub is_stray : List ℕ → Bool
is_stray argument = length argument == 0 || (begins_with (codes "#") argument && not (list_any is_ascii_digit argument))
    || begins_with (codes "//") argument || begins_with (codes "/*") argument || begins_with (codes "<!--") argument || bytes_eq argument (codes "--")

-- the first of the arguments that is that, with its column
abbrev pub find_stray : ℕ → List (List ℕ) → Option (ℕ × List ℕ)
find_stray column [] = None
find_stray column (argument ∷ others) = if is_stray argument then Some (column, argument) else find_stray (column + length argument + 1) others

abbrev pub find_stray_in : List (List ℕ) → Option (ℕ × List ℕ)
find_stray_in pieces = find_stray (first_column (word_in pieces)) (arguments_in pieces)

abbrev pub is_of_digits : Form → Bool
is_of_digits Flag = false
is_of_digits Character = false
is_of_digits Text = false
is_of_digits form = true

-- A word in place of digits, in a line that has some: it has none.
abbrev pub is_word : List ℕ → Form → List ℕ → Bool
is_word line form argument = is_of_digits form && list_any is_ascii_digit line && not (list_any is_ascii_digit argument)

-- the first argument without its form, if there are too few, or if it is such a word
unfoldable pub misplaced : List ℕ → List (List ℕ) → Option IllFormed → Option IllFormed
misplaced line pieces None = None
misplaced line pieces (Some ill) =
    if nat_le (length (arguments_in pieces)) (length (forms_of (word_in pieces))) || is_word line ill.form ill.argument then Some ill else None

-- the place of the first byte that no line may have
abbrev pub bad_place : List ℕ → ℕ
bad_place line = unwrap_or (position is_bad_byte line) 0

-- ---- the column of a fault, from 1

-- where the number of arguments is wrong: that of the first stray one, or else of the misplaced one, or of the first too many or missing
unfoldable pub column_of_number : List ℕ → List (List ℕ) → ℕ
column_of_number line pieces =
    let counted = column_after (first_column (word_in pieces)) (forms_of (word_in pieces)) (arguments_in pieces) in
    option_map_or (λ stray. stray.0) (find_stray_in pieces) (option_map_or (λ ill. ill.column) (misplaced line pieces (find_ill_formed_in pieces)) counted)

-- that of the byte after the longest line, of the bad byte, of the word, and of the argument without its form, where a text has it at its
-- backslash
abbrev pub column_of : TextFault → List ℕ → ℕ
column_of LineTooLong line = LONGEST_LINE + 1
column_of BadByte line = bad_place line + 1
column_of UnknownCall line = 1
column_of WrongNumberOfArguments line = column_of_number line (slice_split is_space line)
column_of BadArgument line = option_map_or (λ ill. ill.column + bytes_before ill.form ill.argument) (find_ill_formed_in (slice_split is_space line)) 1
