-- Which key a sequence of bytes is: one that is whole, or one that was cut short.
-- xterm's control sequences (ctlseqs): "PC-Style Function Keys" for letters, numbers and modifiers, "VT220-Style
-- Function Keys" for numbers from 25 on, "Alt and Meta Keys" for an escape before a character, "Other modified keys"
-- (modifyOtherKeys) for 27 and u, "Bracketed Paste Mode", "Normal tracking mode" and "Extended coordinates" (SGR, 1006)
-- for the mouse, and "FocusIn/FocusOut" (1004). kitty's keyboard protocol for the bits of modifiers from 8 on.
-- The Linux console's ESC [ [ A and ESC [ G, rxvt's 7 and 8, its endings $, ^ and @, its small letters and those of the
-- keypad (rxvtRef), and Konsole's digit after a single shift.
use Rattle.std.specs.Prelude.{if◌then◌else◌, ◌%◌, ◌&&◌, ◌+◌, ◌-◌, ◌/◌, ◌==◌, ◌||◌}
use Rattle.keys.specs.Names.{A1, A3, Action, Asked, B2, Backspace, Begin, Bool, C1, C3, Character, Delete, Down, End}
use Rattle.keys.specs.Names.{Enter, Escape, FocusIn, FocusOut, Function, Home, Insert, Key, Left, List, Modifiers}
use Rattle.keys.specs.Names.{Motion, Name, None, Option, PageDown, PageUp, Parameters, PasteBegins, PasteEnds, Pasted}
use Rattle.keys.specs.Names.{Pointed, Press, Pressed, Release, Right, Some, TOO_LARGE, Tab, Unknown, Up, drop, length}
use Rattle.keys.specs.Names.{nat_le, nat_lt, not, slice_index, slice_range, ℕ}
use Rattle.keys.specs.PressedKeys.{ctrl_and_shift, key_named, no_modifiers, only_alt, only_ctrl, only_shift}
use Rattle.keys.specs.PressedKeys.{with_held}
use Rattle.keys.specs.Characters.{code_of, size_by}
use Rattle.keys.specs.Grammar.{bracket, escape, first, is_digit, is_numbered, last, middle, opens_string, second}
use Rattle.keys.specs.Grammar.{shift_three, third, three_bytes}
use Rattle.keys.specs.Numerals.{parameters}

-- ---- characters

-- a control character: ctrl with a letter or with one of @ \ ] ^ _, where @ is the space, if it has no name of its own
abbrev pub ascii_key : ℕ → Key
ascii_key byte =
    if byte == 13 || byte == 10 then key_named Enter
    else if byte == 9 then key_named Tab
    else if byte == 8 || byte == 127 then key_named Backspace
    else if byte == escape then key_named Escape
    else if byte == 0 then Pressed (Character 32) only_ctrl
    else if nat_lt byte 27 then Pressed (Character (byte + 96)) only_ctrl
    else if nat_lt byte 32 then Pressed (Character (byte + 64)) only_ctrl
    else key_named (Character byte)

-- the character of a number, which is no surrogate and at most 10FFFF
abbrev pub key_of_code : ℕ → Key
key_of_code code =
    if nat_lt code 0xd800 then key_named (Character code)
    else if nat_lt code 0xe000 then Unknown
    else if nat_lt code TOO_LARGE then key_named (Character code)
    else Unknown

-- one that was cut short is unknown, and so is a byte that begins none
unfoldable pub character_key : List ℕ → Key
character_key bytes =
    if not (length bytes == size_by (first bytes)) then Unknown
    else if nat_lt (first bytes) 128 then ascii_key (first bytes)
    else if length bytes == 1 then Unknown
    else key_of_code (code_of bytes)

-- ---- names

-- by the last letter of a control sequence, or the one after a single shift
abbrev pub name_of_letter : ℕ → Option Name
name_of_letter letter =
    if letter == 65 then Some Up
    else if letter == 66 then Some Down
    else if letter == 67 then Some Right
    else if letter == 68 then Some Left
    else if letter == 69 then Some Begin
    else if letter == 70 then Some End
    else if letter == 72 then Some Home
    else if nat_le 80 letter && nat_le letter 83 then Some (Function (letter - 79))
    else None

-- of the keypad, after a single shift alone
abbrev pub name_of_keypad : ℕ → Option Name
name_of_keypad letter =
    if letter == 77 then Some Enter
    else if letter == 119 then Some A1
    else if letter == 121 then Some A3
    else if letter == 117 then Some B2
    else if letter == 113 then Some C1
    else if letter == 115 then Some C3
    else name_of_letter letter

-- by the number of a control sequence that ends in ~
abbrev pub name_of_number : ℕ → Option Name
name_of_number number =
    if number == 1 || number == 7 then Some Home
    else if number == 2 then Some Insert
    else if number == 3 then Some Delete
    else if number == 4 || number == 8 then Some End
    else if number == 5 then Some PageUp
    else if number == 6 then Some PageDown
    else if nat_le 11 number && nat_le number 15 then Some (Function (number - 10))
    else if nat_le 17 number && nat_le number 21 then Some (Function (number - 11))
    else if nat_le 23 number && nat_le number 26 then Some (Function (number - 12))
    else if nat_le 28 number && nat_le number 29 then Some (Function (number - 13))
    else if nat_le 31 number && nat_le number 34 then Some (Function (number - 14))
    else None

-- By the number of a character. Surrogates (D800 to DFFF) are none, and the numbers for private use, E000 to F8FF, are
-- other keys of some terminals, which have no name here, nor have control characters but these.
abbrev pub name_of_code : ℕ → Option Name
name_of_code code =
    if code == 13 then Some Enter
    else if code == 9 then Some Tab
    else if code == escape then Some Escape
    else if code == 8 || code == 127 then Some Backspace
    else if nat_lt code 32 then None
    else if nat_lt code 0xd800 then Some (Character code)
    else if nat_lt code 0xf900 then None
    else if nat_lt code TOO_LARGE then Some (Character code)
    else None

-- by the last letter of a control sequence; G is of the Linux console
abbrev pub name_of_final : ℕ → Option Name
name_of_final letter = if letter == 71 then Some B2 else name_of_letter letter

-- ---- modifiers

abbrev pub is_odd : ℕ → Bool
is_odd number = number % 2 == 1

-- bits for shift, alt and ctrl
abbrev pub modifiers_of : ℕ → Modifiers
modifiers_of bits = record { shift = is_odd bits; alt = is_odd (bits / 2); ctrl = is_odd (bits / 4) }

abbrev pub pressed : Option Name → Modifiers → Key
pressed None held = Unknown
pressed (Some name) held = Pressed name held

-- A parameter of a control sequence is one more than the bits, and 0 for no modifiers. The locks' bits, 64 and 128, are
-- passed over. Where the others aren't below a limit the key is unknown.
abbrev pub pressed_below : ℕ → Option Name → ℕ → Key
pressed_below limit name number =
    if nat_lt 256 number || nat_le limit ((number - 1) % 64) then Unknown else pressed name (modifiers_of (number - 1))

-- the bit for meta, 8, is passed over too
abbrev pub pressed_with : Option Name → ℕ → Key
pressed_with name number = pressed_below 16 name number

-- in kitty's protocol that bit is super
abbrev pub coded_with : ℕ → ℕ → Key
coded_with code number = pressed_below 8 (name_of_code code) number

-- ---- control sequences

-- of the Linux console: ESC [ [ A to E
unfoldable pub console_key : ℕ → Key
console_key letter = if nat_le 65 letter && nat_le letter 69 then key_named (Function (letter - 64)) else Unknown

-- those that end in ~
abbrev pub numbered_key : Parameters → Key
numbered_key p =
    if p.ended == 2 then (if p.first == 27 then coded_with p.third p.second else Unknown)
    else if p.ended == 0 && p.first == 200 && not p.has_colon then PasteBegins
    else pressed_with (name_of_number p.first) p.second

-- those that are a letter without parameters
abbrev pub plain_key : ℕ → Key
plain_key letter =
    if letter == 73 then FocusIn
    else if letter == 79 then FocusOut
    else if letter == 90 then Pressed Tab only_shift
    else if nat_le 97 letter && nat_le letter 100 then pressed (name_of_letter (letter - 32)) only_shift
    else pressed (name_of_final letter) no_modifiers

-- those that end in a letter behind the modifiers, with 1, 0 or no number before these; Z has shift also where they
-- don't say it (libvterm)
abbrev pub lettered_key : Parameters → ℕ → Key
lettered_key p letter =
    if nat_lt 1 p.first || not (p.ended == 1) then Unknown
    else if letter == 90 then with_held only_shift (pressed_with (Some Tab) p.second)
    else pressed_with (name_of_final letter) p.second

-- by the parameters and the final byte; a key that is released (3) is unknown
unfoldable pub controlled_key : Parameters → ℕ → Key
controlled_key p final =
    if p.strange || nat_lt 2 p.event then Unknown
    else if final == 126 then numbered_key p
    else if final == 117 then (if p.ended == 2 then Unknown else coded_with p.first p.second)
    else lettered_key p final

-- rxvt's endings say the modifiers: $ shift, ^ ctrl, and @ both
abbrev pub is_ending : ℕ → Bool
is_ending final = final == 36 || final == 94 || final == 64

abbrev pub held_by_ending : ℕ → Modifiers
held_by_ending final = if final == 36 then only_shift else if final == 94 then only_ctrl else ctrl_and_shift

unfoldable pub ended_key : List ℕ → Key
ended_key bytes =
    if is_numbered bytes then
    pressed (name_of_number (parameters (middle bytes)).first) (held_by_ending (last bytes))
    else Unknown

-- ---- the mouse

-- the number of a button: 1 to 3, 4 to 7 for wheels, 8 to 11, and 0 for none
abbrev pub button_of : ℕ → ℕ
button_of bits =
    if nat_lt bits 64 then (bits + 1) % 4
    else if nat_lt bits 128 then 4 + bits % 4
    else 8 + bits % 4

-- one bit for motion, also where a button is released
abbrev pub action_of : ℕ → Bool → Action
action_of bits released = if is_odd (bits / 32) then Motion else if released then Release else Press

-- a column or a line, from 1 on
abbrev pub is_place : ℕ → Bool
is_place number = nat_lt 0 number && nat_lt number TOO_LARGE

-- the bits have the button, what was held (4 shift, 8 alt, 16 ctrl) and motion
abbrev pub pointed : ℕ → Bool → ℕ → ℕ → Key
pointed bits released column line =
    if nat_lt 191 bits || not (is_place column && is_place line) then Unknown
    else Pointed (record {
      button = button_of bits;
      held = modifiers_of (bits / 4);
      action = action_of bits released;
      column = column - 1;
      line = line - 1;
    })

-- ESC [ < and three numbers; m for a release
unfoldable pub mouse_key : Parameters → ℕ → Key
mouse_key p final =
    if p.strange || p.has_colon || not (p.ended == 2) then Unknown
    else if final == 77 || final == 109 then pointed p.first (final == 109) p.second p.third
    else Unknown

-- ESC [ M and three bytes, each 32 more than its number; where they name no button it is a release, or motion
unfoldable pub three_bytes_key : List ℕ → Key
three_bytes_key bytes =
    if not (length bytes == 6) || nat_lt (slice_index bytes 3) 32 then Unknown
    else pointed (slice_index bytes 3 - 32) (button_of (slice_index bytes 3 - 32) == 0) (slice_index bytes 4 - 32)
    (slice_index bytes 5 - 32)

-- ---- by what stands between ESC [ and the last byte

unfoldable pub control_key : List ℕ → Key
control_key bytes =
    if third bytes == bracket then (if length bytes == 4 then console_key (slice_index bytes 3) else Unknown)
    else if third bytes == three_bytes then three_bytes_key bytes
    else if is_ending (last bytes) then ended_key bytes
    else if nat_lt (last bytes) 0x40 then Unknown
    else if third bytes == 60 then mouse_key (parameters (slice_range bytes 3 (length bytes - 1))) (last bytes)
    else if length bytes == 3 then plain_key (last bytes)
    else controlled_key (parameters (middle bytes)) (last bytes)

-- ---- what an escape begins

-- after a single shift, a digit for modifiers or none; rxvt's small letters are ctrl with a key of the cursor
unfoldable pub shifted_key : List ℕ → Key
shifted_key bytes =
    if is_digit (third bytes) then
    (if length bytes == 4 then pressed_with (name_of_keypad (slice_index bytes 3)) (third bytes - 48) else Unknown)
    else if nat_le 97 (third bytes) && nat_le (third bytes) 100 then
    pressed (name_of_letter (third bytes - 32)) only_ctrl
    else pressed (name_of_keypad (third bytes)) no_modifiers

-- an escape and a character are alt with that character, also where more was to come
abbrev pub escaped_key : List ℕ → Key
escaped_key bytes =
    if length bytes == 1 then key_named Escape
    else if length bytes == 2 then with_held only_alt (character_key (drop 1 bytes))
    else if second bytes == bracket then control_key bytes
    else if second bytes == shift_three then shifted_key bytes
    else if opens_string (second bytes) then Unknown
    else with_held only_alt (character_key (drop 1 bytes))

-- the key of a sequence; while a text is pasted, of its end or of a part of the text
unfoldable pub key_of : Bool → List ℕ → Key
key_of pasting bytes =
    if pasting then (if length bytes == 6 then PasteEnds else Pasted)
    else if first bytes == escape then escaped_key bytes
    else character_key bytes

-- ---- what was asked for

-- the sequences of what a terminal wasn't asked for are unknown
abbrev pub as_asked : Asked → Key → Key
as_asked asked PasteBegins = if asked.paste then PasteBegins else Unknown
as_asked asked (Pointed mouse) = if asked.mouse then Pointed mouse else Unknown
as_asked asked FocusIn = if asked.focus then FocusIn else Unknown
as_asked asked FocusOut = if asked.focus then FocusOut else Unknown
as_asked asked key = key
