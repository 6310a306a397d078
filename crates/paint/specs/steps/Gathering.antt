-- A text that is gathered in an outbox and goes out in pieces, until a write fails.
use Rattle.std.specs.Prelude.{◌≡◌, ◌+◌, ◌-◌, ◌*◌, ◌%◌, ◌^◌, ◌≤◌, ◌++◌}
use Rattle.paint.specs.Names.{ℕ, min, Bool, true, false, List, [], length, Ok, Err, Seen, Sends}
use Rattle.paint.specs.Doupdates.{full_outbox}

-- What is kept of a text: the bytes in the buffer, how many went out before them, and whether a write failed.
pub record Outbox : Type 0 where
  pub room : List ℕ
  pub sent : ℕ
  pub failed : Bool

-- a number of bytes as it is kept: it stays at the greatest number of 32 bits
abbrev pub saturating_u32 : ℕ → ℕ
saturating_u32 n = min n (2 ^ 32 - 1)

-- A prefix of the text went out, and the rest is in the buffer; or a write failed somewhere in it.
abbrev pub GoesOut : Bool → Seen → Seen → List ℕ → ℕ → List ℕ → Type 0
GoesOut false start now room sent text =
    (prefix : List ℕ) × (text ≡ prefix ++ room) × (sent ≡ saturating_u32 (length prefix)) × Sends start now 0 prefix (Ok (length prefix))
GoesOut true start now room sent text = (taken : ℕ) × (sent ≡ saturating_u32 taken) × Sends start now 0 text (Err (record { sent = taken }))

-- The text was gathered: the sink was seen as `start` when it began, and is seen as `now`. Each write that took all of
-- its piece took a full outbox.
pub record IsGathered (start now : Seen) (outbox : Outbox) (text : List ℕ) : Type 0 where
  pub goes_out : GoesOut outbox.failed start now outbox.room outbox.sent text
  pub writes : ℕ
  pub full : writes * full_outbox + length outbox.room ≤ length text
  pub count : now.whole_writes % 2 ^ 64 ≡ (start.whole_writes + writes) % 2 ^ 64

-- nothing was gathered, and nothing went out
abbrev pub empty_outbox : Outbox
empty_outbox = record { room = []; sent = 0; failed = false }

-- the piece was put after what was gathered
abbrev pub Gathers : Seen → Seen → Outbox → Outbox → List ℕ → Type 0
Gathers before after old new piece = (start : Seen) (text : List ℕ) → IsGathered start before old text → IsGathered start after new (text ++ piece)
