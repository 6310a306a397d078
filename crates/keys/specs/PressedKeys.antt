-- Keys by their names and modifiers.
use Rattle.std.specs.Prelude.{◌||◌}
use Rattle.keys.specs.Names.{Key, Modifiers, Name, Pressed, false, true}

abbrev pub no_modifiers : Modifiers
no_modifiers = record { shift = false; alt = false; ctrl = false }

abbrev pub only_shift : Modifiers
only_shift = record { shift = true; alt = false; ctrl = false }

abbrev pub only_alt : Modifiers
only_alt = record { shift = false; alt = true; ctrl = false }

abbrev pub only_ctrl : Modifiers
only_ctrl = record { shift = false; alt = false; ctrl = true }

abbrev pub ctrl_and_shift : Modifiers
ctrl_and_shift = record { shift = true; alt = false; ctrl = true }

-- the key of this name, without modifiers
abbrev pub key_named : Name → Key
key_named name = Pressed name no_modifiers

-- the same key with more modifiers; what is no key stays so
abbrev pub with_held : Modifiers → Key → Key
with_held more (Pressed name held) =
    Pressed name (record {
      shift = more.shift || held.shift;
      alt = more.alt || held.alt;
      ctrl = more.ctrl || held.ctrl;
    })
with_held more key = key
