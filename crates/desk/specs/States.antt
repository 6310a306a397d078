-- A screen between two calls.
-- X/Open Curses Issue 7: doupdate shows the virtual screen.
use Rattle.std.specs.Prelude.{◌≡◌, if◌then◌else◌}
use Rattle.desk.specs.Names.{ℕ, Bool, true, MatchOption, Some, ⊤, IsSound, World, affected_after, is_doupdate, world_after, Call, DifferOnly, PainterState, ShownPicture, wanted_of, DeskTable}
use Rattle.desk.specs.Names.{is_damaged_line, world}

-- its world, what its painter knows, and the lines of the screen that may be damaged: those that are to be composed
pub record State : Type 0 where
  pub world : World
  pub painter : PainterState
  pub damaged : ℕ → Bool

-- the picture and the cursor that a doupdate shows
abbrev pub wanted : World → ShownPicture
wanted world = wanted_of world.virtual

-- The state after a call that was accepted. After a doupdate the painter knows what it showed. No line is damaged after update_panels, and
-- after another call no more than before and those that it affects.
abbrev pub after : State → Call → State
after s call = record {
  world = world_after s.world call;
  painter = (if is_doupdate call then record s.painter { last = Some (wanted s.world) } else s.painter);
  damaged = affected_after s.world s.damaged call;
}

-- The first is the second, with no more lines damaged.
pub record IsWithin (s t : State) : Type 0 where
  pub world : s.world ≡ t.world
  pub painter : s.painter ≡ t.painter
  pub damaged : (line : ℕ) → s.damaged line ≡ true → t.damaged line ≡ true

-- ---- a screen over a writer

-- its desk, what its painter knows, and its writer
pub record ScreenOver (W : Type 0) : Type 0 where
  pub desk : DeskTable
  pub painter : PainterState
  pub writer : W

abbrev pub state_of : {W : Type 0} → ScreenOver W → State
state_of screen = record { world = world screen.desk; painter = screen.painter; damaged = is_damaged_line screen.desk }

-- the screen keeps its size
pub record KeepsSize (old new : DeskTable) : Type 0 where
  pub lines : new.windows.lines ≡ old.windows.lines
  pub columns : new.windows.columns ≡ old.windows.columns

-- the painter's terminals have the size of the screen
pub record HasOneSize (desk : DeskTable) (painter : PainterState) : Type 0 where
  pub lines : painter.lines ≡ desk.windows.lines
  pub columns : painter.columns ≡ desk.windows.columns

-- What always holds of a screen: where its painter knows what it showed last, the virtual screen shows the same, but at
-- its changes.
pub record IsScreen (desk : DeskTable) (painter : PainterState) : Type 0 where
  pub sound : IsSound (world desk)
  pub size : HasOneSize desk painter
  pub changed : MatchOption painter.last ⊤ (λ shown. DifferOnly desk.changes shown.picture desk.virtual.picture)
