-- What a call does to a window of a known state, and the rectangle that it answers.
use Rattle.std.specs.Prelude.{◌≡◌}
use Rattle.windows.specs.{ℕ, Option, Some, None, Ok, arith, option_and_then, Drawing, Window, Windows, put, if_there, Change, after_change, change_frame, after_edit, draws, AreSoundWindows, Refusal}
use Rattle.windows.specs.{Rect, WindowTable, windows, Drew, IsStateOf, window_in_state}
use Rattle.windows.specs.declared.state.WindowState.{WindowState}

-- a call that was accepted
pub drew : {T : Type 0} {frame_of : T → Option Rect} {old new : WindowTable} {refusal : Option Refusal} {change : Change} {t : T}
    → None ≡ refusal → windows new ≡ after_change (windows old) change → frame_of t ≡ change_frame (windows old) change → AreSoundWindows (windows new)
    → Drew frame_of old refusal change (Ok t) new
drew refused written frame sound = grind arith

-- a window with the size and the settings of a state
abbrev pub with_state : WindowState → Window → Window
with_state s a = record a { lines = s.lines; columns = s.columns; settings = s.settings }

-- a drawing in a window that is there, whatever is set of it
pub drawn-there : (windows : Windows) (w : ℕ) (a : Window) (f : Drawing) → windows.window w ≡ Some a → after_edit windows (draws w (λ b. f) None) ≡ put windows w f
drawn-there windows w a f there = grind arith

module _ (windows : Windows) (w : ℕ) (s : WindowState) (h : IsStateOf windows w s) where
  pub call-is : (change : Window → Windows) → change (with_state s h.window) ≡ change (window_in_state s) → if_there windows w change ≡ change (window_in_state s)
  call-is change same = grind arith

  pub frame-is : (frame : Window → Option Rect) → frame (with_state s h.window) ≡ frame (window_in_state s) → option_and_then frame (windows.window w) ≡ frame (window_in_state s)
  frame-is frame same = grind arith
