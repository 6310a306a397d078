-- The bytes that have a meaning in a script, by name. Which ones have is Curspan's own choice.
use Rattle.std.specs.Prelude.{◌==◌}
use Rattle.script.specs.Names.{ℕ, Bool, not, is_printable}

abbrev pub backspace : ℕ
backspace = 8

abbrev pub newline : ℕ
newline = 10

abbrev pub carriage_return : ℕ
carriage_return = 13

abbrev pub space : ℕ
space = 32

-- `#`
abbrev pub number_sign : ℕ
number_sign = 35

-- `-`
abbrev pub minus : ℕ
minus = 45

-- `0`
abbrev pub digit_0 : ℕ
digit_0 = 48

-- `\`
abbrev pub backslash : ℕ
backslash = 92

abbrev pub letter_b : ℕ
letter_b = 98

abbrev pub letter_n : ℕ
letter_n = 110

abbrev pub letter_r : ℕ
letter_r = 114

abbrev pub letter_x : ℕ
letter_x = 120

abbrev pub is_space : ℕ → Bool
is_space b = b == space

abbrev pub is_newline : ℕ → Bool
is_newline b = b == newline

-- a byte that no line may have: other than the space to the tilde
abbrev pub is_bad_byte : ℕ → Bool
is_bad_byte b = not (is_printable b)
