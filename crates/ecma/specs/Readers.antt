-- What a reader keeps after a stream of bytes, however that was cut.
use Rattle.std.specs.Prelude.{◌≡◌, ◌-◌, ◌^◌, ◌∷◌, ◌++◌}
use Rattle.ecma.specs.Names.{ℕ, min, List, [], length, map, join_with_byte, blank_picture, origin}
use Rattle.ecma.specs.Items.{AreParameters, escape, introducer, separator}
use Rattle.ecma.specs.Parameters.{Parameter, parameter_of}
use Rattle.ecma.specs.Terminals.{Terminal}
use Rattle.ecma.specs.Streams.{FailsAt, IsInProfile, LeadsWithBreaks, showing}
use Rattle.ecma.specs.declared.reader.State.{State}
use Rattle.ecma.specs.declared.reader.State.TheVariants.{Text, Escape, Parameters, Failed}

-- A terminal, and what is kept of the stream: whether it ends in text, after an escape, within parameters, or has
-- failed; of the parameters those that a separator ended, and the one that goes on; the number of bytes, and the offset
-- of the unfinished item or of the failure.
pub record Reader : Type 0 where
  pub terminal : Terminal
  pub state : State
  pub ended : List Parameter
  pub current : Parameter
  pub read : ℕ
  pub start : ℕ

-- a number of bytes as it is kept: it stays at the greatest number of 64 bits
abbrev pub saturating_u64 : ℕ → ℕ
saturating_u64 n = min n (2 ^ 64 - 1)

-- The stream is in the profile, and no item at its end is unfinished.
pub record InText (stream : List ℕ) (first : Terminal) (reader : Reader) : Type 0 where
  pub leads : LeadsWithBreaks stream first reader.terminal
  pub read : reader.read ≡ saturating_u64 (length stream)

-- The stream is one in the profile, and an unfinished item after it.
pub record InItem (stream : List ℕ) (first : Terminal) (reader : Reader) (unfinished : List ℕ) : Type 0 where
  pub prefix : List ℕ
  pub in_profile : IsInProfile prefix first reader.terminal
  pub whole : stream ≡ prefix ++ unfinished
  pub read : reader.read ≡ saturating_u64 (length stream)
  pub start : reader.start ≡ saturating_u64 (length prefix)

-- The unfinished item has these parameters, the last of which may go on.
pub record InParameters (stream : List ℕ) (first : Terminal) (reader : Reader) : Type 0 where
  pub ended : List (List ℕ)
  pub current : List ℕ
  pub well_formed : AreParameters (ended ++ current ∷ [])
  pub in_item : InItem stream first reader (introducer ++ join_with_byte separator (ended ++ current ∷ []))
  pub ended_kept : reader.ended ≡ map parameter_of ended
  pub current_kept : reader.current ≡ parameter_of current

-- The stream fails at this offset, as it is kept, with the last terminal before that.
pub record HasFailed (stream : List ℕ) (first last : Terminal) (at : ℕ) : Type 0 where
  pub offset : ℕ
  pub fails : FailsAt stream first offset last
  pub at_is : at ≡ saturating_u64 offset

abbrev pub HasReadIn : State → List ℕ → Terminal → Reader → Type 0
HasReadIn Text stream first reader = InText stream first reader
HasReadIn Escape stream first reader = InItem stream first reader (escape ∷ [])
HasReadIn Parameters stream first reader = InParameters stream first reader
HasReadIn Failed stream first reader = HasFailed stream first reader.terminal reader.start

-- The reader has read the stream, from the first terminal on.
abbrev pub HasRead : List ℕ → Terminal → Reader → Type 0
HasRead stream first reader = HasReadIn reader.state stream first reader

-- a blank terminal of that size, its cursor at the origin, with the empty rendition
abbrev pub blank_terminal : ℕ → ℕ → Terminal
blank_terminal lines columns = showing (blank_picture lines columns) origin

-- There is a stream that the reader has read, from a blank terminal on.
pub record HasReadSome (reader : Reader) : Type 0 where
  pub stream : List ℕ
  pub lines : ℕ
  pub columns : ℕ
  pub read : HasRead stream (blank_terminal lines columns) reader

-- whatever stream the first has read, the second has read that stream and then these bytes
abbrev pub Follows : List ℕ → Reader → Reader → Type 0
Follows bytes old new = (stream : List ℕ) (first : Terminal) → HasRead stream first old → HasRead (stream ++ bytes) first new
