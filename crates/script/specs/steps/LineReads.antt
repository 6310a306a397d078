-- What the functions that read a line ensure about it.
use Rattle.std.specs.Prelude.{◌≡◌, ◌∷◌}
use Rattle.script.specs.Names.{ℕ, List, Option, Some, None, Result, Ok, Err, slice_split, Bor, Call}
use Rattle.script.specs.Characters.{is_space}
use Rattle.script.specs.Pieces.{pieces_of}
use Rattle.script.specs.Readings.{arguments}
use Rattle.script.specs.Texts.{parse_argument}
use Rattle.script.specs.Words.{Arguments, entry_of}
use Rattle.script.specs.declared.words.Form.{Form}
use Rattle.script.specs.declared.words.Word.{Word}
use Rattle.script.specs.declared.fault.TextFault.{TextFault}

-- The word with its arguments makes the call that was said.
abbrev pub Reads : Result (Option Word) TextFault → Arguments → Result (Option Call) TextFault → Type 0
Reads (Ok (Some word)) a said = said ≡ Ok (Some ((entry_of word).call a))
Reads (Ok None) a said = said ≡ Ok None
Reads (Err fault) a said = said ≡ Err fault

-- The first argument of a text, where one of this form must be, and what is left after it.
pub record IsFirst (form : Form) (text piece : List ℕ) (left : List (List ℕ)) : Type 0 where
  pub first : (forms : List Form) → arguments (form ∷ forms) (slice_split is_space text) ≡ piece ∷ arguments forms left

-- The first argument was taken and what follows it is left, or it lacks its form.
abbrev pub TakesFirst : Form → List ℕ → Arguments → Arguments → Option (Option (Bor (List ℕ))) → Type 0
TakesFirst form text old new None = (piece : List ℕ) × (left : List (List ℕ)) × IsFirst form text piece left × (parse_argument form piece old ≡ None)
TakesFirst form text old new (Some after) = (piece : List ℕ) × IsFirst form text piece (pieces_of after) × (parse_argument form piece old ≡ Some new)
