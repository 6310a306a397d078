-- What a stream does to a terminal, and whether it is in the profile.
-- ECMA-48, 5th edition: 5.4 for its items, and 8.3.21 CUP, 8.3.39 ED, 8.3.41 EL, 8.3.117 SGR for their effects.
use Rattle.std.specs.Prelude.{◌≡◌, ◌+◌, ◌<◌, ◌≤◌, ◌∷◌}
use Rattle.ecma.specs.Names.{ℕ, List, [], length, Some, ⊤, AllByRecursion, no_rendition, Picture, Place}
use Rattle.ecma.specs.Items.{Item, Splits, IsFinished}
use Rattle.ecma.specs.Terminals.{Terminal, effects}

-- The stream is items to its end, each has an effect, and they take the first terminal to the last.
pub record IsInProfile (stream : List ℕ) (first last : Terminal) : Type 0 where
  pub items : List Item
  pub splits : Splits stream items []
  pub have_effect : effects items first ≡ Some last

-- The same of the bytes before offset.
pub record Reaches (stream : List ℕ) (first : Terminal) (offset : ℕ) (last : Terminal) : Type 0 where
  pub items : List Item
  pub rest : List ℕ
  pub splits : Splits stream items rest
  pub at : offset + length rest ≡ length stream
  pub have_effect : effects items first ≡ Some last

-- The stream takes the first terminal to the last before offset, and nothing beyond is reached: no item that has an
-- effect begins there.
pub record FailsAt (stream : List ℕ) (first : Terminal) (offset : ℕ) (last : Terminal) : Type 0 where
  pub reaches : Reaches stream first offset last
  pub short : offset < length stream
  pub greatest : (further : ℕ) (t : Terminal) → Reaches stream first further t → further ≤ offset

-- The stream is in the profile from first to last, and none of its items is unfinished.
pub record Leads (stream : List ℕ) (first last : Terminal) : Type 0 where
  pub items : List Item
  pub splits : Splits stream items []
  pub finished : AllByRecursion IsFinished items
  pub have_effect : effects items first ≡ Some last

-- the last item, if there is one, isn't unfinished
abbrev pub EndsFinished : List Item → Type 0
EndsFinished [] = ⊤
EndsFinished (item ∷ []) = IsFinished item
EndsFinished (item ∷ next ∷ items) = EndsFinished (next ∷ items)

-- The same with items that were never finished, each followed by an escape.
pub record LeadsWithBreaks (stream : List ℕ) (first last : Terminal) : Type 0 where
  pub items : List Item
  pub splits : Splits stream items []
  pub ends_finished : EndsFinished items
  pub have_effect : effects items first ≡ Some last

-- the terminal that shows this picture with the cursor at this place, and prints with the empty rendition
abbrev pub showing : Picture → Place → Terminal
showing picture place = record { picture = picture; cursor = Some place; rendition = no_rendition }

-- Read from the first terminal, the stream shows this picture with the cursor at this place.
abbrev pub Shows : List ℕ → Terminal → Picture → Place → Type 0
Shows stream first picture place = Leads stream first (showing picture place)
