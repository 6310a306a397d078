-- What reading a script line by line ensures of its bytes, however the reader cuts them.
use Rattle.std.specs.Prelude.{◌≡◌, ◌+◌, ◌*◌, ◌∷◌, ◌++◌, ◌≤◌, ◌<◌, ◌||◌}
use Rattle.script.specs.Names.{ℕ, Bool, true, false, List, [], length, Option, Some, None, list_any, Consumes, IsAtEnd, count_after, SourceSeen}
use Rattle.script.specs.Characters.{is_newline, newline}
use Rattle.script.specs.declared.bytes.TheConstants.{LONGEST_PIECE}
use Rattle.script.specs.declared.limits.TheConstants.{LONGEST_LINE}
use Rattle.script.specs.declared.bytes.LineEnd.{LineEnd}
use Rattle.script.specs.declared.bytes.LineEnd.TheVariants.{Newline, ScriptEnd, ReadFailed}

-- What is left to be read, at most. A byte that is taken makes it less, and so does a read, which gives no more than a
-- piece.
abbrev pub work_left : SourceSeen → List ℕ → ℕ
work_left seen unused = (LONGEST_PIECE + 1) * seen.reads_left + length unused

-- How a reading ends: that it met the end is remembered, where the end was not met before nothing was read after it,
-- that the reading failed is counted, and where it continues less is left.
pub record ReadingEnds (old new : SourceSeen) (unused left : List ℕ) (meets_end fails continues : Bool) : Type 0 where
  pub ended : new.met_end ≡ (meets_end || old.met_end)
  pub past : old.met_end ≡ false → new.read_past_end ≡ old.read_past_end
  pub failures : new.failures ≡ count_after fails old.failures
  pub progress : continues ≡ true → work_left new left < work_left old unused

-- the line that was read last, and the bytes after it that were read
pub record Held : Type 0 where
  pub line : List ℕ
  pub unused : List ℕ

-- No byte of a piece ends a line.
abbrev pub HasNoNewline : List ℕ → Type 0
HasNoNewline piece = list_any is_newline piece ≡ false

-- ---- what comes after a line

abbrev pub has_newline : LineEnd → Bool
has_newline Newline = true
has_newline _ = false

abbrev pub met_end : LineEnd → Bool
met_end ScriptEnd = true
met_end _ = false

abbrev pub end_failed : LineEnd → Bool
end_failed ReadFailed = true
end_failed _ = false

-- All bytes of a script that are known now are a line, its newline and what is not used, or the line.
abbrev pub EndsLine : LineEnd → List ℕ → List ℕ → List ℕ → Type 0
EndsLine Newline all line left = all ≡ line ++ newline ∷ left
EndsLine ScriptEnd all line left = (all ≡ line) × (left ≡ [])
EndsLine ReadFailed all line left = (all ≡ line) × (left ≡ [])

-- ---- a line, up to its end or to the byte that is too many

-- bytes were read, and more may come
abbrev pub goes_on : Option LineEnd → Bool
goes_on None = true
goes_on (Some end) = has_newline end

abbrev pub line_ended : Option LineEnd → Bool
line_ended None = false
line_ended (Some end) = met_end end

abbrev pub line_failed : Option LineEnd → Bool
line_failed None = false
line_failed (Some end) = end_failed end

-- The bytes are a line that ends so, or as many as a line may have and one more.
abbrev pub IsLine : Option LineEnd → List ℕ → List ℕ → List ℕ → Type 0
IsLine None all line left = (byte : ℕ) × (all ≡ line ++ byte ∷ left) × (is_newline byte ≡ false) × (LONGEST_LINE ≤ length line)
IsLine (Some end) all line left = EndsLine end all line left × (length line ≤ LONGEST_LINE)

-- The source gave some bytes. With those that were not used before they are a line.
pub record ReadsLine (old new : SourceSeen) (unused left line : List ℕ) (result : Option LineEnd) : Type 0 where
  pub bytes : List ℕ
  pub read : Consumes old.left new.left bytes
  pub is_line : IsLine result (unused ++ bytes) line left
  pub no_newline : HasNoNewline line
  pub at_end : line_ended result ≡ true → IsAtEnd new.left

-- ---- a line of any length

-- The source gave some bytes. With those that were not used before they are a line of any length.
pub record ReadsToEnd (old new : SourceSeen) (unused left : List ℕ) (end : LineEnd) : Type 0 where
  pub line : List ℕ
  pub bytes : List ℕ
  pub read : Consumes old.left new.left bytes
  pub ends : EndsLine end (unused ++ bytes) line left
  pub no_newline : HasNoNewline line
  pub at_end : met_end end ≡ true → IsAtEnd new.left

-- A line is kept whole, or is too long.
abbrev pub IsKept : Bool → List ℕ → List ℕ → Type 0
IsKept true line kept = (kept ≡ line) × (length line ≤ LONGEST_LINE)
IsKept false line kept = LONGEST_LINE < length line

pub record ReadsWhole (old new : SourceSeen) (unused left kept : List ℕ) (end : LineEnd) (is_kept : Bool) : Type 0 where
  pub reads : ReadsToEnd old new unused left end
  pub keeps : IsKept is_kept reads.line kept
