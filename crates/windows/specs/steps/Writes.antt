-- What a step of a call wants of its window, and what it writes there.
use Rattle.std.specs.Prelude.{◌≡◌, ◌<◌, ◌≤◌, ◌&&◌, if◌then◌else◌}
use Rattle.windows.specs.Names.{ℕ, nat_le, nat_lt, Option, Some, None, List, Glyph, Rect, Drawing, Windows, put, AreSoundWindows, frame_of, character_printed, character_drawing, after_edit, edit_frame, types}
use Rattle.windows.specs.declared.state.WindowState.{WindowState}
use Rattle.windows.specs.steps.State.{IsStateOf, window_in_state}

-- window w has the given state, and this place
pub record HasStateAndPlace (windows : Windows) (w : ℕ) (given : WindowState) (y x : ℕ) : Type 0 where
  pub state : IsStateOf windows w given
  pub line : y < given.lines
  pub column : x < given.columns

-- window w has the given state, and the lines from the first to the last
pub record HasStateAndLines (windows : Windows) (w : ℕ) (given : WindowState) (first last : ℕ) : Type 0 where
  pub state : IsStateOf windows w given
  pub ordered : first ≤ last
  pub lines : last < given.lines

-- one cell in all columns of the lines from a first one up to an end
abbrev pub lines_filled : ℕ → ℕ → Glyph → Drawing
lines_filled top end glyph y x = if nat_le top y && nat_lt y end then Some glyph else None

-- a drawing was written through window w, which keeps its state
pub record DrewInState (old : Windows) (w : ℕ) (given : WindowState) (drawing : Drawing) (new : Windows) : Type 0 where
  pub written : new ≡ put old w drawing
  pub state : IsStateOf new w given

-- the windows are now these, and sound, and the answer is this rectangle of what was written
pub record StepWrote (after : Windows) (rectangle : Option Rect) (new : Windows) (answer : Option Rect) : Type 0 where
  pub written : new ≡ after
  pub frame : answer ≡ rectangle
  pub sound : AreSoundWindows new

-- the characters of a text were typed in window w
abbrev pub TextTyped : Windows → ℕ → List ℕ → Windows → Option Rect → Type 0
TextTyped old w text new answer = StepWrote (after_edit old (types w text)) (edit_frame old (types w text)) new answer

-- a character was printed at the cursor of window w, which has the given state
abbrev pub CharacterPrinted : Windows → ℕ → WindowState → ℕ → Windows → Option Rect → Type 0
CharacterPrinted old w given character new answer =
    StepWrote (character_printed old w character (window_in_state given))
    (frame_of (window_in_state given) (character_drawing old w character (window_in_state given))) new answer
