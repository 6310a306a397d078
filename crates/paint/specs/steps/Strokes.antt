-- What strokes draw, in any order. A stroke writes what is wanted where it is: so each place shows what was shown or what
-- is wanted, and of what was drawn no more matters than which strokes were.
use Rattle.std.specs.Prelude.{◌≡◌, ◌+◌, ◌<◌, ◌≤◌, ◌==◌, ◌&&◌, ◌||◌, ◌++◌}
use Rattle.paint.specs.Names.{⊤, Some, slice_index_or, All, ℕ, not, nat_lt, Bool, true, false, List, [], drop, filter, length, sum_by, count_by, zero, suc, Picture, Place, line_of, shown_at}
use Rattle.paint.specs.Names.{Rendition, Shown, no_rendition, shown_blank, none_bytes, position_bytes, Seen}
use Rattle.paint.specs.declared.drawing.Way.{Way}
use Rattle.paint.specs.declared.drawing.Way.TheVariants.{Moved, Plain, Printed}
use Rattle.paint.specs.declared.pen.Pen.{Pen}
use Rattle.paint.specs.declared.strokes.Ink.{Ink}
use Rattle.paint.specs.declared.strokes.Ink.TheVariants.{EraseLine, ErasePage, Print}
use Rattle.paint.specs.declared.strokes.Stroke.{Stroke}
use Rattle.paint.specs.declared.blanks.PageEnd.{PageEnd}
use Rattle.paint.specs.Doupdates.{place_bytes}
use Rattle.paint.specs.steps.Pens.{DrawsWithin, all_have, line_bytes, picture_bytes, run_bytes}
use Rattle.paint.specs.steps.Runs.{HaveOneRendition, cells_between}

-- ---- places

-- a place comes before another one, line by line
abbrev pub is_before : Place → Place → Bool
is_before place other = nat_lt place.0 other.0 || (place.0 == other.0 && nat_lt place.1 other.1)

-- two pictures show the same from a place up to another, which isn't one of these
pub record AreSameBetween (shown wanted : Picture) (from to : Place) : Type 0 where
  pub ordered : is_before to from ≡ false
  pub same : (place : Place) → is_before place from ≡ false → is_before place to ≡ true → shown_at shown place ≡ shown_at wanted place

-- and in a line from a column up to another
abbrev pub AreAlike : Picture → Picture → ℕ → ℕ → ℕ → Type 0
AreAlike shown wanted line from to = (x : ℕ) → from ≤ x → x < to → shown_at shown (line, x) ≡ shown_at wanted (line, x)

-- A place is changed, and none in a later line is.
pub record IsLastChange (shown wanted : Picture) (place : Place) : Type 0 where
  pub line : place.0 < length wanted
  pub column : place.1 < length (line_of wanted place.0)
  pub changed : shown_at shown place ≡ shown_at wanted place → ⊥
  pub later : (y x : ℕ) → place.0 < y → shown_at shown (y, x) ≡ shown_at wanted (y, x)

-- After a line all is blank, and after that a place is changed.
pub record IsPageEnd (shown wanted : Picture) (end : PageEnd) : Type 0 where
  pub blank : (y x : ℕ) → end.first < y → shown_at wanted (y, x) ≡ shown_blank
  pub after : end.first < end.line
  pub line : end.line < length wanted
  pub column : end.column < length (line_of wanted end.line)
  pub changed : shown_at shown (end.line, end.column) ≡ shown_at wanted (end.line, end.column) → ⊥

-- ---- one stroke

-- a place comes before the end of a stroke: its last column, that of its line, or that of the page
abbrev pub is_before_end : Ink → Place → Stroke → Bool
is_before_end Print place stroke = is_before place (stroke.line, stroke.end)
is_before_end EraseLine place stroke = is_before place (stroke.line + 1, 0)
is_before_end ErasePage place stroke = true

-- a stroke writes a place
abbrev pub writes : Place → Stroke → Bool
writes place stroke = not (is_before place (stroke.line, stroke.start)) && is_before_end stroke.ink place stroke

-- The most bytes of it. An erasure has no more than a changed cell may have.
abbrev pub ink_bytes : Ink → Picture → Stroke → ℕ
ink_bytes Print wanted stroke = run_bytes (cells_between stroke.start stroke.end (line_of wanted stroke.line))
ink_bytes EraseLine wanted stroke = place_bytes
ink_bytes ErasePage wanted stroke = place_bytes

abbrev pub stroke_bytes : Picture → Stroke → ℕ
stroke_bytes wanted stroke = ink_bytes stroke.ink wanted stroke

-- an erasure begins in its line, and all that it writes is blank
pub record IsErasure (wanted : Picture) (stroke : Stroke) : Type 0 where
  pub start : stroke.start < length (line_of wanted stroke.line)
  pub blank : (place : Place) → writes place stroke ≡ true → shown_at wanted place ≡ shown_blank

abbrev pub HasInk : Ink → Picture → Stroke → Type 0
HasInk Print wanted stroke = HaveOneRendition (line_of wanted stroke.line) stroke.start stroke.end
HasInk EraseLine wanted stroke = IsErasure wanted stroke
HasInk ErasePage wanted stroke = IsErasure wanted stroke

-- It is in the picture, what it writes may be drawn with its ink, and the gap before it is shown already.
pub record IsStroke (shown wanted : Picture) (stroke : Stroke) : Type 0 where
  pub line : stroke.line < length wanted
  pub ink : HasInk stroke.ink wanted stroke
  pub gap : stroke.gap ≤ stroke.start
  pub kept : AreAlike shown wanted stroke.line stroke.gap stroke.start

-- The cells of a gap, which begins at a pen, are no more than the bytes of a move. So many of the first have the
-- rendition in force, and the others another one.
pub record IsSplit (pen : Pen) (place : Place) (gap : List Shown) (rendition : Rendition) (count : ℕ) : Type 0 where
  pub cursor : pen.cursor ≡ Some place
  pub few : length gap ≤ position_bytes
  pub within : count ≤ length gap
  pub first : (k : ℕ) → k < count → (slice_index_or gap k shown_blank).rendition ≡ pen.rendition
  pub rest : all_have rendition (drop count gap) ≡ true

-- They have no rendition, and with the selection of none they are no more than the bytes of a move.
pub record IsPlain (pen : Pen) (place : Place) (gap : List Shown) : Type 0 where
  pub cursor : pen.cursor ≡ Some place
  pub some : 0 < length gap
  pub few : length gap + none_bytes ≤ position_bytes
  pub all : all_have no_rendition gap ≡ true

-- a way over a gap may be taken
abbrev pub IsWay : Way → Pen → Place → List Shown → Rendition → Type 0
IsWay (Printed count) pen place gap rendition = IsSplit pen place gap rendition count
IsWay Plain pen place gap rendition = IsPlain pen place gap
IsWay Moved pen place gap rendition = ⊤

-- no stroke
abbrev pub no_stroke : Stroke
no_stroke = record { ink = Print; line = 0; gap = 0; start = 0; end = 0; pass = 0 }

-- ---- strokes that were drawn, in any order

-- how often they write a place, and how many bytes they may have
abbrev pub layers : Place → List Stroke → ℕ
layers place strokes = count_by (writes place) strokes

abbrev pub strokes_bytes : Picture → List Stroke → ℕ
strokes_bytes wanted strokes = sum_by (stroke_bytes wanted) strokes

-- They were drawn over what was shown: what they write is what is wanted, and what was shown as wanted still is.
pub record AreDrawn (before now : Seen) (old pen : Pen) (shown wanted : Picture) (strokes : List Stroke) : Type 0 where
  pub drawn : Picture
  pub piece : DrawsWithin (strokes_bytes wanted strokes) before now old pen shown drawn
  pub kept : (place : Place) → shown_at shown place ≡ shown_at wanted place → shown_at drawn place ≡ shown_at wanted place
  pub written : (place : Place) → 0 < layers place strokes → shown_at drawn place ≡ shown_at wanted place
  pub columns : pen.columns ≡ old.columns

-- ---- strokes that were found, line by line

-- what the places from one on may cost
abbrev pub bytes_from : Picture → Picture → Place → ℕ
bytes_from shown wanted place =
    line_bytes (drop place.1 (line_of shown place.0)) (drop place.1 (line_of wanted place.0)) + picture_bytes (drop (place.0 + 1) shown) (drop (place.0 + 1) wanted)

-- Before a place they write all that isn't shown as wanted, and what the places from it on may cost is left.
pub record AreFound (shown wanted : Picture) (to : Place) (strokes : List Stroke) : Type 0 where
  pub others : (place : Place) → is_before place to ≡ true → layers place strokes ≡ 0 → shown_at shown place ≡ shown_at wanted place
  pub short : strokes_bytes wanted strokes + bytes_from shown wanted to ≤ picture_bytes shown wanted

-- others were drawn, and these are to be
pub record ArePlanned (shown wanted : Picture) (to : Place) (others strokes : List Stroke) : Type 0 where
  pub found : AreFound shown wanted to (others ++ strokes)
  pub are : All (IsStroke shown wanted) strokes

-- Some strokes were drawn, and others are planned: together they write all before a place.
pub record IsUnderWay (before now : Seen) (old pen : Pen) (shown wanted : Picture) (to : Place) (strokes : List Stroke) : Type 0 where
  pub others : List Stroke
  pub drawn : AreDrawn before now old pen shown wanted others
  pub planned : ArePlanned shown wanted to others strokes

-- ---- passes

abbrev pub is_of : ℕ → Stroke → Bool
is_of pass stroke = stroke.pass == pass

-- those of the first passes, so many, one pass after another
abbrev pub in_passes : ℕ → List Stroke → List Stroke
in_passes zero strokes = []
in_passes (suc passes) strokes = in_passes passes strokes ++ filter (is_of passes) strokes
