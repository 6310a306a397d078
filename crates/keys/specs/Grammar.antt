-- Which bytes go on a sequence of bytes that was begun, and where a sequence is whole.
-- ECMA-48, 5th edition: 5.3 for what an escape introduces, 5.4 for control sequences, 5.6 and 8.3.143 for control
-- strings, and 8.3.142 for SS3; its C1 controls of one byte aren't read.
-- Unicode 3.9 for characters (`Characters`).
-- xterm's control sequences (ctlseqs): BEL as a string's end, what answers begin with, as ESC ] l, "Bracketed Paste
-- Mode" for the end of a pasted text, and "Normal tracking mode" for the mouse's three bytes after ESC [ M.
use Rattle.std.specs.Prelude.{if◌then◌else◌, ◌&&◌, ◌+◌, ◌-◌, ◌==◌, ◌||◌, ◌∷◌}
use Rattle.keys.specs.Names.{Bool, LONGEST, List, [], false, fold, length, nat_le, nat_lt, not, slice_index}
use Rattle.keys.specs.Names.{slice_range, true, ℕ}
use Rattle.keys.specs.Characters.{is_in_character, size_by}

abbrev pub escape : ℕ
escape = 27

-- the letter after an escape that begins a control sequence, [, and the one that begins a single shift, O
abbrev pub bracket : ℕ
bracket = 91

abbrev pub shift_three : ℕ
shift_three = 79

-- the letter that after an escape ends a string, \, and the control character that ends one too
abbrev pub terminator : ℕ
terminator = 92

abbrev pub bell : ℕ
bell = 7

-- the letter after ESC [ behind which the mouse has three bytes, M
abbrev pub three_bytes : ℕ
three_bytes = 77

-- a pasted text ends with these bytes
abbrev pub paste_end : List ℕ
paste_end = 27 ∷ 91 ∷ 50 ∷ 48 ∷ 49 ∷ 126 ∷ []

abbrev pub first : List ℕ → ℕ
first bytes = slice_index bytes 0

abbrev pub second : List ℕ → ℕ
second bytes = slice_index bytes 1

abbrev pub third : List ℕ → ℕ
third bytes = slice_index bytes 2

abbrev pub last : List ℕ → ℕ
last bytes = slice_index bytes (length bytes - 1)

abbrev pub is_digit : ℕ → Bool
is_digit byte = nat_le 48 byte && nat_le byte 57

-- ---- which byte goes on

-- the letters after an escape that begin a string: P (DCS), ] (OSC) and _ (APC). SOS and PM begin none here.
abbrev pub opens_string : ℕ → Bool
opens_string byte = byte == 80 || byte == 93 || byte == 95

-- What follows these in the answers of terminals: a digit, l or L after ], a byte from 20 to 3F after P, and G after _.
-- Else they are alt with that letter.
abbrev pub begins_string : ℕ → ℕ → Bool
begins_string letter byte =
    if letter == 93 then is_digit byte || byte == 108 || byte == 76
    else if letter == 80 then nat_le 0x20 byte && nat_le byte 0x3f
    else byte == 71

-- a string goes on until it ends, after an escape with \ alone
abbrev pub goes_on_string : List ℕ → ℕ → Bool
goes_on_string pending byte =
    if length pending == 2 then begins_string (second pending) byte
    else if last pending == escape then byte == terminator
    else true

-- parameters and intermediates, in any order, and the final byte; for the mouse three bytes, of which none is an escape
abbrev pub goes_on_control : List ℕ → ℕ → Bool
goes_on_control pending byte =
    if third pending == three_bytes then not (byte == escape) else nat_le 0x20 byte && nat_le byte 0x7e

-- after a single shift a byte from 21 to 7E, and after a digit (Konsole) one from 40 on
abbrev pub goes_on_shift : List ℕ → ℕ → Bool
goes_on_shift pending byte = nat_le (if length pending == 2 then 0x21 else 0x40) byte && nat_le byte 0x7e

-- after an escape: another escape doesn't
abbrev pub goes_on_escape : List ℕ → ℕ → Bool
goes_on_escape pending byte =
    if length pending == 1 then not (byte == escape)
    else if second pending == bracket then goes_on_control pending byte
    else if second pending == shift_three then goes_on_shift pending byte
    else if opens_string (second pending) then goes_on_string pending byte
    else is_in_character (second pending) (length pending - 1) byte

-- the byte belongs to the sequence whose first bytes are pending; while a text is pasted, to its end's
unfoldable pub continues : Bool → List ℕ → ℕ → Bool
continues pasting pending byte =
    if length pending == 0 then true
    else if pasting then nat_lt (length pending) 6 && byte == slice_index paste_end (length pending)
    else if first pending == escape then goes_on_escape pending byte
    else is_in_character (first pending) (length pending) byte

-- ---- where a sequence is whole

-- all are digits
abbrev pub are_digits : List ℕ → Bool
are_digits bytes = fold (λ so_far byte. so_far && is_digit byte) true bytes

-- the bytes between ESC [ and the last one
abbrev pub middle : List ℕ → List ℕ
middle bytes = slice_range bytes 2 (length bytes - 1)

-- one number alone stands there
abbrev pub is_numbered : List ℕ → Bool
is_numbered bytes = nat_lt 3 (length bytes) && are_digits (middle bytes)

-- a control sequence ends with its final byte; the Linux console has a letter more after ESC [ [, the mouse three bytes
-- after ESC [ M, and rxvt ends some by a $ after a number
abbrev pub is_whole_control : List ℕ → Bool
is_whole_control bytes =
    if nat_lt (length bytes) 3 then false
    else if third bytes == bracket then length bytes == 4
    else if third bytes == three_bytes then length bytes == 6
    else if last bytes == 36 then is_numbered bytes
    else nat_le 0x40 (last bytes)

-- a string ends with BEL or with ESC \
abbrev pub is_whole_string : List ℕ → Bool
is_whole_string bytes =
    if nat_lt (length bytes) 3 then false
    else if last bytes == bell then true
    else last bytes == terminator && slice_index bytes (length bytes - 2) == escape

abbrev pub is_whole_shift : List ℕ → Bool
is_whole_shift bytes = if length bytes == 3 then not (is_digit (third bytes)) else length bytes == 4

abbrev pub is_whole_escape : List ℕ → Bool
is_whole_escape bytes =
    if length bytes == 1 then false
    else if second bytes == bracket then is_whole_control bytes
    else if second bytes == shift_three then is_whole_shift bytes
    else if opens_string (second bytes) then is_whole_string bytes
    else length bytes == size_by (second bytes) + 1

-- no byte goes on after these; a byte of a pasted text is whole by itself, if it doesn't begin the text's end
unfoldable pub is_whole : Bool → List ℕ → Bool
is_whole pasting bytes =
    if length bytes == LONGEST then true
    else if pasting then (if first bytes == escape then length bytes == 6 else true)
    else if first bytes == escape then is_whole_escape bytes
    else length bytes == size_by (first bytes)

-- ---- where a sequence is cut short

-- a string was begun
abbrev pub is_string : List ℕ → Bool
is_string pending = nat_lt 2 (length pending) && first pending == escape && opens_string (second pending)

-- the last escape in a string, if no \ follows, is no part of it: it begins what comes next
unfoldable pub leaves_escape : Bool → List ℕ → Bool
leaves_escape pasting pending = not pasting && is_string pending && last pending == escape
