-- The text of a doupdate, gathered in an outbox.
use Rattle.std.specs.Prelude.{◌≡◌, ◌-◌, ◌<◌, ◌^◌}
use Rattle.paint.specs.Names.{ℕ, Bool, List, length, Option, option_map, HasSize, Picture, Place, Seen}
use Rattle.paint.specs.declared.pen.Pen.{Pen}
use Rattle.paint.specs.Doupdates.{PainterState, ShownPicture, IsUpdateText, start_from}
use Rattle.paint.specs.steps.Gathering.{IsGathered, Outbox}
use Rattle.paint.specs.steps.Pens.{IsPlainAt}

-- the picture with its cursor, where that is known
abbrev pub last_shown : Picture → Option Place → Option ShownPicture
last_shown picture cursor = option_map (λ place. record { picture = picture; cursor = place }) cursor

pub record HoldsUpdate (painter : PainterState) (clear : Bool) (wanted : ShownPicture) (start now : Seen) (outbox : Outbox) : Type 0 where
  pub text : List ℕ
  pub gathered : IsGathered start now outbox text
  pub is_text : IsUpdateText painter clear wanted text
  pub few : length text < 2 ^ 32 - 1

-- A pen can draw a picture of this size, and end at a place of it.
pub record CanDraw (pen : Pen) (lines columns : ℕ) (end : Place) : Type 0 where
  pub width : pen.columns ≡ columns
  pub line : end.0 < lines
  pub column : end.1 < columns

-- A pen is where a text begins, and this picture is shown there: what is known, or a blank picture of the size.
pub record IsStart (painter : PainterState) (known : Option ShownPicture) (pen : Pen) (shown : Picture) : Type 0 where
  pub plain : IsPlainAt pen (start_from painter known).cursor
  pub picture : shown ≡ (start_from painter known).picture
  pub size : HasSize painter.lines painter.columns shown
