-- A parameter of a control sequence, as a reader keeps it.
use Rattle.ecma.specs.Names.{ℕ, List, length, digits_value}

-- the number that its digits write, 0 without any, and how many there are
pub record Parameter : Type 0 where
  pub value : ℕ
  pub digits : ℕ

abbrev pub parameter_of : List ℕ → Parameter
parameter_of digits = record { value = digits_value 10 digits; digits = length digits }
