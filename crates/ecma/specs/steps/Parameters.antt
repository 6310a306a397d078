-- The parameters of a control sequence, digit by digit, and the byte that ends one.
use Rattle.std.specs.Prelude.{◌+◌, ◌*◌, ◌-◌, ◌≤◌, ◌<◌, ◌^◌, ◌==◌, if◌then◌else◌, ◌∷◌}
use Rattle.ecma.specs.Names.{ℕ, [], find, Option}
use Rattle.ecma.specs.Items.{Function, CUP, ED, EL, SGR, final_byte, most_digits}
use Rattle.ecma.specs.Parameters.{Parameter}

abbrev pub no_digits : Parameter
no_digits = record { value = 0; digits = 0 }

-- with one more digit
abbrev pub longer : Parameter → ℕ → Parameter
longer parameter digit = record { value = parameter.value * 10 + (digit - 48); digits = parameter.digits + 1 }

-- the number, or the default where there are no digits
abbrev pub number_of : ℕ → Parameter → ℕ
number_of default parameter = if parameter.digits == 0 then default else parameter.value

pub record IsParameter (parameter : Parameter) : Type 0 where
  pub short : parameter.digits ≤ most_digits
  pub small : parameter.value < 10 ^ parameter.digits

-- the control function that a byte ends
abbrev pub function_of : ℕ → Option Function
function_of byte = find (λ function. byte == final_byte function) (CUP ∷ ED ∷ EL ∷ SGR ∷ [])
