-- What a call reads of its window first.
use Rattle.std.specs.Prelude.{◌≡◌, ◌<◌, ◌≤◌}
use Rattle.windows.specs.Names.{ℕ, Some, None, IsSome, IsSomeAnd, LARGEST_PAD, Window, Windows, own, blank_grid, AreSettingsWithin, AreSoundWindows, Settings}
use Rattle.windows.specs.declared.state.WindowState.{WindowState}

-- window w is there with this size and these settings, and all windows are sound
pub record IsStateOf (windows : Windows) (w : ℕ) (state : WindowState) : Type 0 where
  pub window : Window
  pub there : windows.window w ≡ Some window
  pub lines : window.lines ≡ state.lines
  pub columns : window.columns ≡ state.columns
  pub settings : window.settings ≡ state.settings
  pub has_line : 0 < state.lines
  pub has_column : 0 < state.columns
  pub few_lines : state.lines ≤ LARGEST_PAD
  pub few_columns : state.columns ≤ LARGEST_PAD
  pub within : AreSettingsWithin state.lines state.columns state.settings
  pub chain_ends : IsSome (own windows.window w 0 0)
  pub sound : AreSoundWindows windows

-- window w is there and may have these settings
abbrev pub MayHave : Windows → ℕ → Settings → Type 0
MayHave windows w settings = IsSomeAnd (windows.window w) (λ a. AreSettingsWithin a.lines a.columns settings)

-- a window with this size and these settings
abbrev pub window_in_state : WindowState → Window
window_in_state state = record { lines = state.lines; columns = state.columns; place = None; settings = state.settings; touched = λ y. None; backing = blank_grid }
