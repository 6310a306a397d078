-- The screen of an open handle.
use Rattle.std.specs.Prelude.{◌≡◌, ℕ, List, [], false}
use Rattle.compose.specs.Desks.{is_damaged_line, world}
use Rattle.world.specs.Worlds.{first_world}
use Rattle.paint.specs.Doupdates.{first_painter}
use Rattle.capi.specs.declared.c_screen.CScreen.{CScreen}

-- the bytes that the screen sent and C has not taken yet
abbrev pub pending : CScreen → List ℕ
pending s = s.screen.writer.writer.items

-- a blank screen, of which nothing was sent or read yet, and no line is damaged
pub record IsBlank (lines columns : ℕ) (s : CScreen) : Type 0 where
  pub world : world s.screen.desk ≡ first_world lines columns
  pub painter : s.screen.painter ≡ first_painter lines columns
  pub pending : pending s ≡ []
  pub undamaged : (line : ℕ) → is_damaged_line s.screen.desk line ≡ false
  pub unread : s.screen.desk.cells_read ≡ 0
