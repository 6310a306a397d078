-- A cell can hold what is from the space to the tilde.
use Rattle.std.specs.Prelude.{◌≤◌}
use Rattle.ecma.specs.{ℕ, refl, IsTrue, and_parts, le-leb, leb-true, FIRST_CHARACTER, LAST_CHARACTER, is_printable}

pub from_space : (byte : ℕ) → IsTrue (is_printable byte) → FIRST_CHARACTER ≤ byte
from_space byte h = leb-true FIRST_CHARACTER byte (and_parts _ _ h).0

pub printable : (byte : ℕ) → FIRST_CHARACTER ≤ byte → byte ≤ LAST_CHARACTER → IsTrue (is_printable byte)
printable byte from to = rw (le-leb FIRST_CHARACTER byte from, le-leb byte LAST_CHARACTER to) refl
