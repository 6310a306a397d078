-- What the functions that read a number ensure about its digits.
use Rattle.std.specs.Prelude.{◌≡◌, ◌^◌, ◌<◌, ◌∷◌}
use Rattle.script.specs.Names.{ℕ, true, List, take, Option, Some, None, list_all, slice_split, is_ascii_digit, digits_value, Bor}
use Rattle.script.specs.Characters.{is_space}
use Rattle.script.specs.Pieces.{pieces_of}
use Rattle.script.specs.Texts.{number_up_to}
use Rattle.script.specs.declared.limits.TheConstants.{GREATEST_NUMBER}

-- The first bytes are digits, and this is their number.
pub record DigitsSoFar (text : List ℕ) (count value : ℕ) : Type 0 where
  pub digits : list_all is_ascii_digit (take count text) ≡ true
  pub number : value ≡ digits_value 10 (take count text)
  pub small : value < 10 ^ count

-- The first piece between single spaces is a number, and the others follow; or it is none.
abbrev pub NextNumber : List ℕ → Option (ℕ × Option (Bor (List ℕ))) → Type 0
NextNumber text None = (piece : List ℕ) × (pieces : List (List ℕ)) × (slice_split is_space text ≡ piece ∷ pieces) × (number_up_to GREATEST_NUMBER piece ≡ None)
NextNumber text (Some (number, after)) =
    (piece : List ℕ) × (slice_split is_space text ≡ piece ∷ pieces_of after) × (number_up_to GREATEST_NUMBER piece ≡ Some number)
