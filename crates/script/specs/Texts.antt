-- The forms of arguments in a script. They are Curspan's own; docs/curspan.1 describes them under Arguments.
use Rattle.std.specs.Prelude.{◌+◌, ◌*◌, ◌==◌, ◌&&◌, ◌||◌, ◌-ℤ◌, ◌∷◌, ◌++◌, if◌then◌else◌}
use Rattle.script.specs.Names.{ℕ, ℤ, pos, Bool, true, false, not, List, [], codes, length, slice_index, Option, Some, None, option_map, option_and_then, position, nat_le, bytes_eq, digits_value}
use Rattle.script.specs.Names.{is_ascii_digit, list_all, hexadecimal}
use Rattle.script.specs.Characters.{backslash, backspace, carriage_return, digit_0, letter_b, letter_n, letter_r, letter_x, minus, newline}
use Rattle.script.specs.declared.limits.TheConstants.{ALL_ATTRIBUTES, GREATEST_NUMBER, GREATEST_SIGNED, MOST_DIGITS}
use Rattle.script.specs.Words.{Arguments}
use Rattle.script.specs.declared.words.Form.{Form}
use Rattle.script.specs.declared.words.Form.TheVariants.{Number, NumberOrNone, Signed, Attributes, Flag, Character, Text}

-- one digit or more, but no more than the most, with no leading zero but `0` itself
abbrev pub is_plain_number : List ℕ → Bool
is_plain_number piece = nat_le 1 (length piece) && (nat_le (length piece) MOST_DIGITS
    && (list_all is_ascii_digit piece && (length piece == 1 || not (slice_index piece 0 == digit_0))))

-- the value of a plain number, if it is not past the most
abbrev pub number_up_to : ℕ → List ℕ → Option ℕ
number_up_to most piece =
    if is_plain_number piece && nat_le (digits_value 10 piece) most then Some (digits_value 10 piece) else None

-- a number, or `none` for none
abbrev pub number_or_none : List ℕ → Option (Option ℕ)
number_or_none piece = if bytes_eq piece (codes "none") then Some None else option_map Some (number_up_to GREATEST_NUMBER piece)

-- the number with a minus before it, which 0 has not
abbrev pub negative : ℕ → Option ℤ
negative n = if n == 0 then None else Some (pos 0 -ℤ pos n)

-- a number up to the greatest signed one, or `-` and such a number other than 0
abbrev pub signed_number : List ℕ → Option ℤ
signed_number [] = None
signed_number (b ∷ bs) = if b == minus then option_and_then negative (number_up_to GREATEST_SIGNED bs)
    else option_map pos (number_up_to GREATEST_SIGNED (b ∷ bs))

-- the value of a hexadecimal digit
abbrev pub hex_value : ℕ → Option ℕ
hex_value b = position (λ digit. digit == b) hexadecimal

-- the value of two such digits
abbrev pub hex_byte : ℕ → ℕ → Option ℕ
hex_byte high low = option_and_then (λ h. option_map (λ l. 16 * h + l) (hex_value low)) (hex_value high)

-- two hexadecimal digits that are a set of the six attributes
abbrev pub attributes_of : List ℕ → Option ℕ
attributes_of (high ∷ low ∷ []) = option_and_then (λ n. if nat_le n ALL_ATTRIBUTES then Some n else None) (hex_byte high low)
attributes_of _ = None

abbrev pub flag_of : List ℕ → Option Bool
flag_of piece = if bytes_eq piece (codes "on") then Some true
    else (if bytes_eq piece (codes "off") then Some false else None)

-- the character that a letter after a backslash means
abbrev pub escaped_character : ℕ → Option ℕ
escaped_character letter = if letter == letter_n then Some newline
    else (if letter == letter_r then Some carriage_return
    else (if letter == letter_b then Some backspace
    else (if letter == backslash then Some backslash
    else None)))

-- The characters of a text. A backslash and what follows it are one.
abbrev mutual
  pub text_of : List ℕ → Option (List ℕ)
  text_of [] = Some []
  text_of (b ∷ bs) = if b == backslash then after_backslash bs else option_map (λ text. b ∷ text) (text_of bs)

  -- after a backslash
  pub after_backslash : List ℕ → Option (List ℕ)
  after_backslash [] = None
  after_backslash (b ∷ bs) = if b == letter_x then after_x bs
      else option_and_then (λ c. option_map (λ text. c ∷ text) (text_of bs)) (escaped_character b)

  -- after `\x`
  pub after_x : List ℕ → Option (List ℕ)
  after_x [] = None
  after_x (high ∷ []) = None
  after_x (high ∷ low ∷ bs) = option_and_then (λ c. option_map (λ text. c ∷ text) (text_of bs)) (hex_byte high low)

-- one character
abbrev pub only : List ℕ → Option (List ℕ)
only (character ∷ []) = Some (character ∷ [])
only _ = None

-- what an argument of a form says
abbrev pub parse_argument : Form → List ℕ → Arguments → Option Arguments
parse_argument Number piece a = option_map (λ n. record a { numbers = a.numbers ++ n ∷ [] }) (number_up_to GREATEST_NUMBER piece)
parse_argument NumberOrNone piece a = option_map (λ n. record a { number_or_none = n }) (number_or_none piece)
parse_argument Signed piece a = option_map (λ n. record a { signed = n }) (signed_number piece)
parse_argument Attributes piece a = option_map (λ n. record a { attributes = n }) (attributes_of piece)
parse_argument Flag piece a = option_map (λ b. record a { flag = b }) (flag_of piece)
parse_argument Character piece a = option_map (λ text. record a { text = text }) (option_and_then only (text_of piece))
parse_argument Text piece a = option_map (λ text. record a { text = text }) (text_of piece)

-- what the arguments say, each by its form
abbrev pub parse_arguments : List Form → List (List ℕ) → Arguments → Option Arguments
parse_arguments (form ∷ forms) (piece ∷ pieces) a = option_and_then (parse_arguments forms pieces) (parse_argument form piece a)
parse_arguments _ _ a = Some a
