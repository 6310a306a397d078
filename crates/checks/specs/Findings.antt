-- The form of what is reported: where it is, and a text that can be printed.
use Rattle.std.specs.Prelude.{◌≡◌, ◌≤◌, ◌==◌, ◌++◌, ◌∷◌, if◌then◌else◌}
use Rattle.checks.specs.Names.{[], ℕ, List, true, codes, decimal, length, list_all, slice_split, is_printable, is_space, newline, space, entry_of, Word}
use Rattle.checks.specs.declared.said.TheConstants.{ROOM}

-- calls, spelled by their own rows; a comma is after each but the last
abbrev pub listed : List Word → List ℕ
listed [] = []
listed (word ∷ []) = space ∷ (entry_of word).word
listed (word ∷ other ∷ words) = space ∷ (entry_of word).word ++ codes "," ++ listed (other ∷ words)

-- A line says something of a column of a script's line: bytes that are printed, and no more of them than there is room for. What it names at
-- its end are calls.
pub record Says (number column : ℕ) (text : List ℕ) : Type 0 where
  pub said : List ℕ
  pub calls : List Word
  pub is : text ≡ codes "line " ++ decimal number ++ codes ", column " ++ decimal column ++ codes ": " ++ said ++ listed calls ++ newline ∷ []
  pub printed : list_all is_printable said ≡ true
  pub short : length said ≤ ROOM

-- a text names as many arguments as a call takes
abbrev pub HasNames : Word → List ℕ → Type 0
HasNames word text = length (if length text == 0 then [] else slice_split is_space text) ≡ length (entry_of word).forms
