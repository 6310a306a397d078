-- A virtual screen: what the next doupdate shows.
-- X/Open Curses Issue 7: wnoutrefresh and doupdate ("virtual screen"), clearok.
use Rattle.cell.specs.Names.{Bool}
use Rattle.cell.specs.Pictures.{Picture, Place}

-- a picture, where the cursor is wanted, and whether the terminal is to be cleared first
pub record VirtualScreen : Type 0 where
  pub picture : Picture
  pub cursor : Place
  pub clear : Bool
