-- Keys as numbers of C.
use Rattle.std.specs.Prelude.{ℕ, ◌≤◌, ◌+◌, ◌*◌, ◌/◌, ◌%◌, ◌==◌, Bool, Option, Some, None, if◌then◌else◌}
use Rattle.keys.specs.declared.asked.Asked.{Asked}
use Rattle.keys.specs.declared.decoder.Taken.{Taken}
use Rattle.keys.specs.declared.key.Action.{Action}
use Rattle.keys.specs.declared.key.Action.TheVariants.{Press, Motion, Release}
use Rattle.keys.specs.declared.key.Key.{Key}
use Rattle.keys.specs.declared.key.Key.TheVariants as key
use Rattle.keys.specs.declared.key.Modifiers.{Modifiers}
use Rattle.keys.specs.declared.key.Name.{Name}
use Rattle.keys.specs.declared.key.Name.TheVariants as name
use Rattle.capi.specs.declared.taken.CTaken.{CTaken}

-- the codes of curspan_terminal.h
abbrev pub name_of : Name → ℕ
name_of (name.Character code) = code
name_of name.Enter = 0x110006
name_of name.Tab = 0x110007
name_of name.Escape = 0x110008
name_of name.Backspace = 0x110009
name_of name.Up = 0x11000a
name_of name.Down = 0x11000b
name_of name.Left = 0x11000c
name_of name.Right = 0x11000d
name_of name.Home = 0x11000e
name_of name.End = 0x11000f
name_of name.PageUp = 0x110010
name_of name.PageDown = 0x110011
name_of name.Insert = 0x110012
name_of name.Delete = 0x110013
name_of name.Begin = 0x110014
name_of name.A1 = 0x110015
name_of name.A3 = 0x110016
name_of name.B2 = 0x110017
name_of name.C1 = 0x110018
name_of name.C3 = 0x110019
name_of (name.Function number) = 0x11001a + number

-- The six codes from 110000 on are no keys: none, resize, a paste, an unknown key, the end and interrupted.
abbrev pub IsNoEvent : CTaken → Type 0
IsNoEvent taken = 0x110000 ≤ taken.code → 0x110006 ≤ taken.code

abbrev pub bit : Bool → ℕ
bit set = if set then 1 else 0

abbrev pub held_of : Modifiers → ℕ
held_of held = bit held.shift + 2 * bit held.alt + 4 * bit held.ctrl

abbrev pub flags_of : Action → ℕ
flags_of Press = 0
flags_of Motion = 1
flags_of Release = 2

-- a key of which there is nothing more to say
abbrev pub plain : ℕ → ℕ → CTaken
plain kind count = record { kind = kind; code = 0; modifiers = 0; flags = 0; column = 0; line = 0; count = count }

abbrev pub no_key : CTaken
no_key = plain 0 0

abbrev of_key : Key → ℕ → CTaken
of_key (key.Pressed name held) count = record (plain 1 count) { code = name_of name; modifiers = held_of held }
of_key key.Unknown count = plain 2 count
of_key key.PasteBegins count = plain 3 count
of_key key.Pasted count = plain 4 count
of_key key.PasteEnds count = plain 5 count
of_key (key.Pointed mouse) count = record {
  kind = 6;
  code = mouse.button;
  modifiers = held_of mouse.held;
  flags = flags_of mouse.action;
  column = mouse.column;
  line = mouse.line;
  count = count;
}
of_key key.FocusIn count = plain 7 count
of_key key.FocusOut count = plain 8 count

abbrev pub taken_of : Option Taken → CTaken
taken_of None = no_key
taken_of (Some taken) = of_key taken.key taken.count

-- what is asked for: bit 0 is of pasted texts, 1 of the mouse, 2 of the focus
abbrev pub asked_of : ℕ → Asked
asked_of bits = record { paste = bits % 2 == 1; mouse = bits / 2 % 2 == 1; focus = bits / 4 % 2 == 1 }
