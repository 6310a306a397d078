-- The one spelling of each token, and what a token does to a terminal.
-- ECMA-48, 5th edition: 5.4, 8.3.21 CUP, 8.3.39 ED, 8.3.41 EL, 8.3.117 SGR.
use Rattle.std.specs.Prelude.{◌≡◌, ◌==◌, ◌+◌, ◌*◌, ◌<◌, ◌∷◌, ◌++◌, if◌then◌else◌}
use Rattle.ecma.specs.Names.{ℕ, List, [], decimal, Option, Some, IsTrue, ⊤, option_map_or, flat_map, bit_and, is_printable, Rendition, IsRendition, LARGEST_SCREEN}
use Rattle.ecma.specs.Items.{CUP, ED, EL, SGR, separator, control_sequence, Item, IsItem, IsFinished, bytes_of}
use Rattle.ecma.specs.Terminals.{Terminal, first_foreground, first_background, print, move_to, erase_line, erase_page, effect}
use Rattle.ecma.specs.declared.token.Erase.{Erase}
use Rattle.ecma.specs.declared.token.Erase.TheVariants.{ToEnd, FromStart, All}
use Rattle.ecma.specs.declared.token.Token.{Token}
use Rattle.ecma.specs.declared.token.Token.TheVariants.{Print, Cup, Sgr, El, Ed}

-- each attribute and the code that switches it on, in ascending order
abbrev pub attribute_codes : List (ℕ × ℕ)
attribute_codes = (0x01, 1) ∷ (0x02, 2) ∷ (0x04, 4) ∷ (0x08, 5) ∷ (0x10, 7) ∷ (0x20, 8) ∷ []

-- the codes of the attributes of a set; other bits have none
unfoldable pub codes_of_attributes : ℕ → List ℕ
codes_of_attributes bits = flat_map (λ entry. if bit_and bits entry.0 == entry.0 then entry.1 ∷ [] else []) attribute_codes

-- the code of a colour, where black has the first; the default has none
abbrev pub code_of_colour : ℕ → Option ℕ → List ℕ
code_of_colour first colour = option_map_or (λ number. (first + number) ∷ []) colour []

-- the codes of a rendition, in ascending order
abbrev pub codes_of : Rendition → List ℕ
codes_of rendition =
    codes_of_attributes rendition.attributes
    ++ code_of_colour first_foreground rendition.foreground
    ++ code_of_colour first_background rendition.background

-- codes, each after a separator
abbrev pub selection : List ℕ → List ℕ
selection codes = flat_map (λ code. separator ∷ decimal code) codes

-- nothing, 1 or 2
abbrev pub erasure_spelling : Erase → List ℕ
erasure_spelling ToEnd = []
erasure_spelling FromStart = 49 ∷ []
erasure_spelling All = 50 ∷ []

-- a position counts from 1, and a selection begins with the 0 that ends all attributes and colours
unfoldable pub spelling : Token → List ℕ
spelling (Print byte) = byte ∷ []
spelling (Cup line column) = control_sequence CUP (decimal (line + 1) ++ separator ∷ decimal (column + 1))
spelling (Sgr rendition) = control_sequence SGR (48 ∷ selection (codes_of rendition))
spelling (El how) = control_sequence EL (erasure_spelling how)
spelling (Ed how) = control_sequence ED (erasure_spelling how)

-- the most bytes of a position: introducer, line and column of three digits each, their separator, and final byte
abbrev pub position_bytes : ℕ
position_bytes = 2 + 3 + 1 + 3 + 1

-- the bytes of an SGR that selects nothing: the introducer, 0, and the final byte
abbrev pub none_bytes : ℕ
none_bytes = 2 + 1 + 1

-- the most bytes of an SGR without colours: these, and six attribute codes of one digit, each after a separator
abbrev pub selection_bytes : ℕ
selection_bytes = none_bytes + 6 * 2

-- the most bytes of its colours: two codes of two digits, each after a separator
abbrev pub colour_bytes : ℕ
colour_bytes = 2 * 3

-- the most bytes that the spelling has
abbrev pub longest : Token → ℕ
longest (Print byte) = 1
longest (Cup line column) = position_bytes
longest (Sgr rendition) = selection_bytes + colour_bytes
longest (El how) = 4
longest (Ed how) = 4

-- what a token does to a terminal
abbrev pub token_effect : Token → Terminal → Option Terminal
token_effect (Print byte) t = print byte t
token_effect (Cup line column) t = move_to (line, column) t
token_effect (Sgr rendition) t = Some (record t { rendition = rendition })
token_effect (El how) t = erase_line how t
token_effect (Ed how) t = erase_page how t

-- what has a spelling: a byte that a cell can hold, a line and a column of the largest screen, attributes of the six
-- with colours of the eight, any erasure
abbrev pub IsToken : Token → Type 0
IsToken (Print byte) = IsTrue (is_printable byte)
IsToken (Cup line column) = (line < LARGEST_SCREEN) × (column < LARGEST_SCREEN)
IsToken (Sgr rendition) = IsRendition rendition
IsToken (El how) = ⊤
IsToken (Ed how) = ⊤

-- The bytes are one finished item, and it does what the token does.
pub record IsItemOf (bytes : List ℕ) (token : Token) : Type 0 where
  pub item : Item
  pub well_formed : IsItem item
  pub finished : IsFinished item
  pub spelled : bytes ≡ bytes_of item
  pub same_effect : (t : Terminal) → effect item t ≡ token_effect token t
