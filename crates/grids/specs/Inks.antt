-- What printed characters become.
use Rattle.std.specs.Prelude.{if◌then◌else◌, ◌==◌}
use Rattle.grids.specs.Names.{ℕ, Glyph}

-- A character has the attributes and the pair of a pen; a space becomes the pen itself.
abbrev pub printed_cell : Glyph → ℕ → Glyph
printed_cell pen character = if character == 32 then pen else record pen { character = character }
