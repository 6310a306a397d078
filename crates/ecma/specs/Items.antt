-- The items of a stream of bytes: printed characters and control sequences.
-- ECMA-48, 5th edition: 5.4 (control sequences: introducer, parameters, final byte), 8.3.16 (CSI, in a 7-bit code ESC
-- and 05/11), and the final bytes of 8.3.21 CUP, 8.3.39 ED, 8.3.41 EL and 8.3.117 SGR.
-- The profile leaves out every other control function, the 8-bit form of CSI, intermediate bytes, private parameters
-- (which begin with 03/12 to 03/15), the colon within a parameter, characters beyond 07/14, more than 16 parameters,
-- and those of more than 3 digits.
use Rattle.std.specs.Prelude.{◌≡◌, ◌<◌, ◌≤◌, ◌∷◌, ◌++◌}
use Rattle.ecma.specs.Names.{ℕ, List, [], length, codes, IsTrue, ⊤, join_with_byte, AllByRecursion, is_printable}

-- the control functions of the profile
pub data Function : Type 0 where
  -- cursor position
  CUP : Function
  -- erase in page
  ED : Function
  -- erase in line
  EL : Function
  -- select graphic rendition
  SGR : Function

-- H, J, K, m
abbrev pub final_byte : Function → ℕ
final_byte CUP = 72
final_byte ED = 74
final_byte EL = 75
final_byte SGR = 109

-- an item: a byte that is printed, a control sequence with each parameter's digits, or one that was never finished
pub data Item : Type 0 where
  Printable : ℕ → Item
  Control : Function → List (List ℕ) → Item
  Unfinished : List ℕ → Item

abbrev pub escape : ℕ
escape = 27

-- a left bracket after the escape
abbrev pub introducer : List ℕ
introducer = escape ∷ codes "["

-- the semicolon between two parameters
abbrev pub separator : ℕ
separator = 59

-- a control sequence with the bytes of its parameters
abbrev pub control_sequence : Function → List ℕ → List ℕ
control_sequence function parameters = introducer ++ parameters ++ final_byte function ∷ []

abbrev pub bytes_of : Item → List ℕ
bytes_of (Printable byte) = byte ∷ []
bytes_of (Control function parameters) = control_sequence function (join_with_byte separator parameters)
bytes_of (Unfinished bytes) = bytes

-- the most parameters of a control sequence, and the most digits of each
abbrev pub most_parameters : ℕ
most_parameters = 16

abbrev pub most_digits : ℕ
most_digits = 3

abbrev pub IsDigit : ℕ → Type 0
IsDigit byte = (48 ≤ byte) × (byte ≤ 57)

-- at least one parameter, which may have no digits
pub record AreParameters (parameters : List (List ℕ)) : Type 0 where
  pub one : 1 ≤ length parameters
  pub most : length parameters ≤ most_parameters
  pub digits : AllByRecursion (AllByRecursion IsDigit) parameters
  pub short : AllByRecursion (λ digits. length digits ≤ most_digits) parameters

-- a control sequence from its escape on, with at least its final byte missing
pub record IsBeginning (bytes : List ℕ) : Type 0 where
  pub begun : 0 < length bytes
  pub function : Function
  pub parameters : List (List ℕ)
  pub missing : List ℕ
  pub well_formed : AreParameters parameters
  pub not_finished : 0 < length missing
  pub goes_on : bytes ++ missing ≡ bytes_of (Control function parameters)

-- a byte that a cell can hold, such parameters, or such a beginning
abbrev pub IsItem : Item → Type 0
IsItem (Printable byte) = IsTrue (is_printable byte)
IsItem (Control function parameters) = AreParameters parameters
IsItem (Unfinished bytes) = IsBeginning bytes

abbrev pub IsFinished : Item → Type 0
IsFinished (Printable byte) = ⊤
IsFinished (Control function parameters) = ⊤
IsFinished (Unfinished bytes) = ⊥

-- the end of the stream, or an escape
abbrev pub EndsOrEscapes : List ℕ → Type 0
EndsOrEscapes [] = ⊤
EndsOrEscapes (byte ∷ bytes) = byte ≡ escape

-- anything may follow a finished item; an unfinished one is followed by the stream's end or by another escape
abbrev pub MayPrecede : Item → List ℕ → Type 0
MayPrecede (Printable byte) following = ⊤
MayPrecede (Control function parameters) following = ⊤
MayPrecede (Unfinished bytes) following = EndsOrEscapes following

-- the bytes are these items, one after another, and then the rest
abbrev pub Splits : List ℕ → List Item → List ℕ → Type 0
Splits bytes [] rest = bytes ≡ rest
Splits bytes (item ∷ items) rest =
    (following : List ℕ) × (bytes ≡ bytes_of item ++ following) × IsItem item × MayPrecede item following × Splits following items rest
