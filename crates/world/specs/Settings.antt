-- The settings of a window.
-- X/Open Curses Issue 7: move, attrset, bkgdset, setscrreg, scrollok, clearok.
use Rattle.world.specs.Names.{ℕ, bits_of, valid_attributes, Place}
use Rattle.world.specs.WindowMaps.{Window, Windows, with_change}
use Rattle.world.specs.declared.settings.Settings.{Settings}

-- other settings, without bits beyond the six attributes
abbrev pub with_settings : Settings → Window → Window
with_settings settings a = record a { settings = record settings { attrs = record { 0 = valid_attributes (bits_of settings.attrs) } } }

abbrev pub after_set_settings : Windows → ℕ → Settings → Windows
after_set_settings windows w settings = record windows { window = with_change windows.window w (with_settings settings) }

-- a window's settings changed
abbrev pub set_in : (Settings → Settings) → Window → Window
set_in change a = record a { settings = change a.settings }

abbrev pub set : Windows → ℕ → (Settings → Settings) → Windows
set windows w change = record windows { window = with_change windows.window w (set_in change) }

abbrev pub with_cursor : Place → Settings → Settings
with_cursor place settings = record settings { cursor = place }
