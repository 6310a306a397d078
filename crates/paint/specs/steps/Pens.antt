-- What the strokes of a pen send, what a terminal shows after them, and how many bytes they have.
use Rattle.std.specs.Prelude.{◌≡◌, ◌+◌, ◌-◌, ◌*◌, ◌≤◌, if◌then◌else◌, ◌∷◌}
use Rattle.paint.specs.Names.{ℕ, List, [], length, map, Option, Some, None, Bool, false, nat_lt, slice_index_or, list_all, Rendition, Shown, has_colour, no_rendition, shown_blank, Picture, Place}
use Rattle.paint.specs.Names.{with_shown, same_rendition, line_difference, difference, line_colour_difference, colour_difference, colour_bytes, position_bytes, spelling, Leads, Terminal, Token, Cup}
use Rattle.paint.specs.Names.{Sgr, Seen}
use Rattle.paint.specs.declared.pen.Pen.{Pen}
use Rattle.paint.specs.Doupdates.{place_bytes, same_place}
use Rattle.paint.specs.steps.Gathering.{Gathers, empty_outbox}

-- ---- their bytes

-- from one rendition to another
unfoldable pub change : Rendition → Rendition → List ℕ
change old new = if same_rendition new old then [] else spelling (Sgr new)

-- the cursor is known, and at the place
abbrev pub is_at : Option Place → Place → Bool
is_at None place = false
is_at (Some cursor) place = same_place cursor place

-- from a cursor, which may be unknown, to a place
unfoldable pub move_from : Option Place → Place → List ℕ
move_from cursor place = if is_at cursor place then [] else spelling (Cup place.0 place.1)

-- a place of a line, if it has the column
abbrev pub within : ℕ → Place → Option Place
within columns place = if nat_lt place.1 columns then Some place else None

-- ---- what they do

-- cells in a line, one after another from a place on
abbrev pub with_cells : Picture → Place → List Shown → Picture
with_cells picture place [] = picture
with_cells picture place (cell ∷ cells) = with_cells (with_shown picture place cell) (place.0, place.1 + 1) cells

-- what is sent for them
abbrev pub characters : List Shown → List ℕ
characters cells = map (λ cell. cell.character) cells

-- all cells have a rendition
abbrev pub all_have : Rendition → List Shown → Bool
all_have rendition cells = list_all (λ cell. same_rendition cell.rendition rendition) cells

-- a pen that gathered nothing, and does not know where the cursor is
abbrev pub first_pen : ℕ → Pen
first_pen columns = record { outbox = empty_outbox; columns = columns; cursor = None; rendition = no_rendition }

-- the terminal that shows this picture, with the pen's cursor and rendition
abbrev pub under : Pen → Picture → Terminal
under pen picture = record { picture = picture; cursor = pen.cursor; rendition = pen.rendition }

-- it is at a place, and prints with no rendition
pub record IsPlainAt (pen : Pen) (place : Place) : Type 0 where
  pub cursor : pen.cursor ≡ Some place
  pub rendition : pen.rendition ≡ no_rendition

-- What a step of drawing keeps: which sink it is, by its name, and how many columns the pen's terminals have.
pub record SameTerminals (before after : ℕ) (old new : Pen) : Type 0 where
  pub sink : after ≡ before
  pub columns : new.columns ≡ old.columns

-- The piece was put after what was gathered, and leads from the one picture to the other.
pub record Draws (piece : List ℕ) (before after : Seen) (old new : Pen) (picture drawn : Picture) : Type 0 where
  pub gathers : Gathers before after old.outbox new.outbox piece
  pub leads : Leads piece (under old picture) (under new drawn)

-- some piece of at most so many bytes did
pub record DrawsWithin (most : ℕ) (before after : Seen) (old new : Pen) (picture drawn : Picture) : Type 0 where
  pub piece : List ℕ
  pub draws : Draws piece before after old new picture drawn
  pub short : length piece ≤ most

module _ {W : Type 0} (seen : W → Seen) (name : W → ℕ) where
  -- An erasure was put after what was gathered, and changes every picture so. Nothing else of the pen changed, and the
  -- sink is the same.
  pub record Erases (erasure : Token) (erased : Picture → Picture) (old : Pen) (before : W) (new : Pen) (after : W) : Type 0 where
    pub draws : (picture : Picture) → Draws (spelling erasure) (seen before) (seen after) old new picture (erased picture)
    pub rest : new ≡ record old { outbox = new.outbox }
    pub same : name after ≡ name before

-- ---- how many bytes they may have

-- an approach: a position, or a gap in its place, and a selection
abbrev pub most_approach : Rendition → ℕ
most_approach rendition = position_bytes + length (spelling (Sgr rendition))

-- these and a character
abbrev pub cell_bytes : Shown → ℕ
cell_bytes cell = place_bytes + (if has_colour cell.rendition then colour_bytes else 0)

-- these of the first of some cells, and the characters of the others
abbrev pub run_bytes : List Shown → ℕ
run_bytes cells = cell_bytes (slice_index_or cells 0 shown_blank) + (length cells - 1)

abbrev pub line_bytes : List Shown → List Shown → ℕ
line_bytes old new = place_bytes * line_difference old new + colour_bytes * line_colour_difference old new

abbrev pub picture_bytes : Picture → Picture → ℕ
picture_bytes old new = place_bytes * difference old new + colour_bytes * colour_difference old new
