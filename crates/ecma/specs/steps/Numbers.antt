-- Numbers that are spelled once, each with the separator after it.
use Rattle.std.specs.Prelude.{◌≡◌, ◌+◌, ◌∷◌, ◌++◌}
use Rattle.ecma.specs.Names.{ℕ, List, [], decimal, length, take}
use Rattle.ecma.specs.Items.{separator}

-- a text begins with a number and the separator
pub record IsNumber (number : ℕ) (text : List ℕ) : Type 0 where
  pub long : length text ≡ 4
  pub spelled : take (length (decimal number) + 1) text ≡ decimal number ++ separator ∷ []
