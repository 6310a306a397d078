-- What a cell holds: a character that is printed, attributes, and the number of a colour pair.
-- X/Open Curses Issue 7, "Characters": a `chtype`, of the characters those of ASCII.
use Rattle.std.specs.Prelude.{◌==◌, ◌&&◌, ◌≤◌, ◌<◌}
use Rattle.cell.specs.Names.{ℕ, Bool, nat_le}
use Rattle.cell.specs.declared.limits.TheConstants.{FIRST_CHARACTER, LAST_CHARACTER, LAST_PAIR}

pub record Glyph : Type 0 where
  pub character : ℕ
  pub attributes : ℕ
  pub pair : ℕ

-- the space without attributes, of pair 0
abbrev pub blank : Glyph
blank = record { character = 32; attributes = 0; pair = 0 }

-- from the space to the tilde
abbrev pub is_printable : ℕ → Bool
is_printable character = nat_le FIRST_CHARACTER character && nat_le character LAST_CHARACTER

-- a character from the space to the tilde, attributes of the six, and a pair of the table
pub record IsCell (glyph : Glyph) : Type 0 where
  pub from_space : FIRST_CHARACTER ≤ glyph.character
  pub to_tilde : glyph.character ≤ LAST_CHARACTER
  pub of_the_six : glyph.attributes < 64
  pub of_the_table : glyph.pair ≤ LAST_PAIR

abbrev pub same_glyph : Glyph → Glyph → Bool
same_glyph a b = a.character == b.character && (a.attributes == b.attributes && a.pair == b.pair)
