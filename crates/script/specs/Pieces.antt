-- What is left of a line, if something is, and the pieces between its single spaces.
use Rattle.std.specs.Prelude.{◌+◌}
use Rattle.script.specs.Names.{ℕ, List, [], length, Option, Some, None, slice_split, Bor}
use Rattle.script.specs.Characters.{is_space}

-- the pieces between single spaces of what is left of a line, if something is
abbrev pub pieces_of : Option (Bor (List ℕ)) → List (List ℕ)
pieces_of None = []
pieces_of (Some text) = slice_split is_space text.now

-- how many pieces it may have, at most
abbrev pub room_of : Option (Bor (List ℕ)) → ℕ
room_of None = 0
room_of (Some text) = length text.now + 1
