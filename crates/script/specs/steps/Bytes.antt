-- What reading the next byte of a script ensures, and moving some bytes into a line.
use Rattle.std.specs.Prelude.{◌≡◌, ◌∷◌, ◌++◌, ◌≤◌}
use Rattle.script.specs.Names.{ℕ, Bool, true, false, List, [], length, Consumes, IsAtEnd, SourceSeen}
use Rattle.script.specs.Lines.{HasNoNewline}
use Rattle.script.specs.declared.bytes.Next.{Next}
use Rattle.script.specs.declared.bytes.Next.TheVariants.{Byte, End, Failed}
use Rattle.script.specs.declared.limits.TheConstants.{LONGEST_LINE}

abbrev pub is_byte : Next → Bool
is_byte (Byte b) = true
is_byte _ = false

abbrev pub byte_ended : Next → Bool
byte_ended End = true
byte_ended _ = false

abbrev pub byte_failed : Next → Bool
byte_failed Failed = true
byte_failed _ = false

-- The source gave some bytes, after those that were not used. The first of all is the next byte.
abbrev pub ReadsByte : SourceSeen → SourceSeen → List ℕ → List ℕ → Next → Type 0
ReadsByte old new unused left (Byte b) = (bytes : List ℕ) × Consumes old.left new.left bytes × (unused ++ bytes ≡ b ∷ left)
ReadsByte old new unused left End = (unused ≡ []) × (left ≡ []) × Consumes old.left new.left [] × IsAtEnd new.left
ReadsByte old new unused left Failed = (unused ≡ []) × (left ≡ []) × Consumes old.left new.left []

-- The first bytes, of which none is a newline, are at the end of a line in place of where they were.
pub record MovesBytes (old new line after : List ℕ) : Type 0 where
  pub moved : List ℕ
  pub from : old ≡ moved ++ new
  pub to : after ≡ line ++ moved
  pub no_newline : HasNoNewline moved
  pub short : length after ≤ LONGEST_LINE
