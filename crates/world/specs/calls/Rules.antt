-- A call is two rows: its tests, in their order, and what it does where none of them holds.
use Rattle.world.specs.Names.{ℕ, Bool, List, Refusal, NoSuchWindow}
use Rattle.world.specs.WindowMaps.{Windows, is_missing}

pub record Rule (Effect : Type 0) : Type 0 where
  pub tests : List (Bool × Refusal)
  pub effect : Effect

-- The one test of a call that accepts any window or pad: that there is one.
abbrev pub missing_window : Windows → ℕ → Bool × Refusal
missing_window windows w = (is_missing windows.window w, NoSuchWindow)
