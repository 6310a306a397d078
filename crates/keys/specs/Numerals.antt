-- The parameters of a control sequence.
-- ECMA-48, 5th edition, 5.4.1 and 5.4.2: numbers in decimal digits, with ; between them. One that has no digits is 0
-- here. kitty's keyboard protocol has further numbers behind a : in the first one, which are passed over here, and in
-- the second one whether the key was pressed (1), repeated (2) or released (3).
use Rattle.std.specs.Prelude.{if◌then◌else◌, ◌&&◌, ◌*◌, ◌++◌, ◌+◌, ◌-◌, ◌==◌, ◌∷◌}
use Rattle.keys.specs.Names.{List, Modifiers, Parameters, TOO_LARGE, [], decimal, false, fold, min, nat_lt, true, ℕ}
use Rattle.keys.specs.Grammar.{bracket, escape, is_digit}

-- none was read yet
abbrev pub no_parameters : Parameters
no_parameters = record {
  first = 0;
  second = 0;
  third = 0;
  event = 0;
  ended = 0;
  is_behind = false;
  has_colon = false;
  strange = false;
}

-- a number with one more digit; from the first number on that is past all characters it stays there
abbrev pub with_digit : ℕ → ℕ → ℕ
with_digit number digit = min (number * 10 + (digit - 48)) TOO_LARGE

-- a digit goes on the parameter that wasn't ended, or on what is behind its :
abbrev pub after_digit : Parameters → ℕ → Parameters
after_digit p byte =
    if p.is_behind then (if p.ended == 0 then p else record p { event = with_digit p.event byte })
    else if p.ended == 0 then record p { first = with_digit p.first byte }
    else if p.ended == 1 then record p { second = with_digit p.second byte }
    else record p { third = with_digit p.third byte }

-- of more than three parameters, or with another byte, they are strange: no key has such
abbrev pub after_byte : Parameters → ℕ → Parameters
after_byte p byte =
    if is_digit byte then after_digit p byte
    else if byte == 59 && nat_lt p.ended 2 then record p { ended = p.ended + 1; is_behind = false }
    else if byte == 58 && (if p.is_behind then p.ended == 0 else nat_lt p.ended 2) then
    record p { is_behind = true; has_colon = true }
    else record p { strange = true }

-- the parameters that some bytes spell
abbrev pub parameters : List ℕ → Parameters
parameters bytes = fold after_byte no_parameters bytes

-- ---- for `laws`

-- two parameters in decimal digits, and three
abbrev pub two_parameters : ℕ → ℕ → List ℕ
two_parameters n m = decimal n ++ 59 ∷ decimal m

abbrev pub three_parameters : ℕ → ℕ → ℕ → List ℕ
three_parameters n m k = two_parameters n m ++ 59 ∷ decimal k

-- the parameter that says these modifiers
abbrev pub parameter_of : Modifiers → ℕ
parameter_of held = 1 + (if held.shift then 1 else 0) + (if held.alt then 2 else 0) + (if held.ctrl then 4 else 0)

-- a control sequence by its parameters and its final byte
abbrev pub control_sequence : List ℕ → ℕ → List ℕ
control_sequence spelled final = escape ∷ bracket ∷ (spelled ++ final ∷ [])
