-- The text of a picture around one of its lines.
use Rattle.std.specs.Prelude.{◌≡◌, ◌+◌, ◌<◌, ◌++◌}
use Rattle.commands.specs.{ℕ, [], length, take, drop, append-nil, take-append-drop, refl, flat_map, flat_map-append, take_more, Picture, line_of, line_text}

-- the lines above it and its own
pub lines_through : (picture : Picture) (y : ℕ) → y < length picture → flat_map line_text (take (y + 1) picture) ≡ flat_map line_text (take y picture) ++ line_text (line_of picture y)
lines_through picture y inside = rw (take_more picture y [] inside, flat_map-append line_text, append-nil) refl

-- the lines above it, its own, and those below
pub lines_around : (picture : Picture) (y : ℕ) → y < length picture
    → flat_map line_text picture ≡ (flat_map line_text (take y picture) ++ line_text (line_of picture y)) ++ flat_map line_text (drop (y + 1) picture)
lines_around picture y inside = rw (← lines_through picture y inside, ← flat_map-append line_text, take-append-drop) refl
