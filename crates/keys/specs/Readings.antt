-- What is read of the bytes of a terminal: a sequence after another, each of which is a key, and what is pending.
use Rattle.std.specs.Prelude.{if◌then◌else◌, ◌&&◌, ◌++◌, ◌-◌, ◌∷◌, ◌≡◌}
use Rattle.keys.specs.Names.{Answer, Asked, Bool, Key, List, None, Option, PasteBegins, PasteEnds, Some, Taken, []}
use Rattle.keys.specs.Names.{false, fold, length, map, nat_lt, not, take, true, ℕ}
use Rattle.keys.specs.Grammar.{continues, escape, is_whole, leaves_escape}
use Rattle.keys.specs.Meanings.{as_asked, key_of}

-- what was asked for, whether a text is being pasted, and the bytes of the sequence that was begun
pub record State : Type 0 where
  pub asked : Asked
  pub pasting : Bool
  pub pending : List ℕ

-- the bytes of a sequence, and its key
pub record Item : Type 0 where
  pub bytes : List ℕ
  pub key : Key

abbrev pub item : State → List ℕ → Item
item s bytes = record { bytes = bytes; key = as_asked s.asked (key_of s.pasting bytes) }

abbrev pub start : Asked → State
start asked = record { asked = asked; pasting = false; pending = [] }

-- What is pending as a sequence that is cut short. The last escape of a string isn't cut with it: it is left.
abbrev pub cut_short : State → Item
cut_short s =
    item s (if leaves_escape s.pasting s.pending then take (length s.pending - 1) s.pending else s.pending)

-- what is left
abbrev pub after_cut : State → State
after_cut s = record s { pending = if leaves_escape s.pasting s.pending then escape ∷ [] else [] }

-- ---- a byte

-- a byte that doesn't go on what is pending cuts that short
abbrev pub cut_by : State → ℕ → Option Item
cut_by s byte = if continues s.pasting s.pending byte then None else Some (cut_short s)

-- what is left for the byte to go on
abbrev pub left_by : State → ℕ → State
left_by s byte = if continues s.pasting s.pending byte then s else after_cut s

-- a sequence as an item, if no byte goes on after it
abbrev pub whole_of : State → List ℕ → Option Item
whole_of s bytes = if is_whole s.pasting bytes then Some (item s bytes) else None

abbrev pub pasting_after : Bool → Key → Bool
pasting_after pasting PasteBegins = true
pasting_after pasting PasteEnds = false
pasting_after pasting key = pasting

-- the state after these bytes of a sequence
abbrev pub after_bytes : State → List ℕ → State
after_bytes s bytes =
    if is_whole s.pasting bytes then
    record s { pasting = pasting_after s.pasting (as_asked s.asked (key_of s.pasting bytes)); pending = [] }
    else record s { pending = bytes }

-- The byte goes on what is left. But for an escape that was left, where another follows: that is a key by itself.
abbrev pub ended_by : State → ℕ → Option Item
ended_by s byte =
    if continues s.pasting s.pending byte then whole_of s (s.pending ++ byte ∷ []) else Some (item s s.pending)

abbrev pub taken_by : State → ℕ → State
taken_by s byte =
    if continues s.pasting s.pending byte then after_bytes s (s.pending ++ byte ∷ [])
    else record s { pending = byte ∷ [] }

-- ---- the delay is over, and no byte came

-- something is pending, and not of a pasted text, whose end may come yet
abbrev pub waits : State → Bool
waits s = not s.pasting && nat_lt 0 (length s.pending)

-- what is pending is cut short; an escape that is left then is a key at the next delay, if no byte comes before
abbrev pub cut_by_delay : State → Option Item
cut_by_delay s = if waits s then Some (cut_short s) else None

-- ---- events

pub data Event : Type 0 where
  Byte : ℕ → Event
  Delay : Event

abbrev pub option_list : {A : Type 0} → Option A → List A
option_list None = []
option_list (Some x) = x ∷ []

-- the sequences that an event ends
abbrev pub items_of : State → Event → List Item
items_of s (Byte byte) = option_list (cut_by s byte) ++ option_list (ended_by (left_by s byte) byte)
items_of s Delay = option_list (cut_by_delay s)

abbrev pub state_after : State → Event → State
state_after s (Byte byte) = taken_by (left_by s byte) byte
state_after s Delay = if waits s then after_cut s else s

pub record Reading : Type 0 where
  pub items : List Item
  pub state : State

abbrev pub read_event : Reading → Event → Reading
read_event r event = record { items = r.items ++ items_of r.state event; state = state_after r.state event }

-- what is read of events: the sequences in their order, and the state after the last event
abbrev pub reading : Asked → List Event → Reading
reading asked events = fold read_event (record { items = []; state = start asked }) events

-- what a decoder answers of sequences: their keys, and how many bytes each has
abbrev pub taken_of : Item → Taken
taken_of i = record { key = i.key; count = length i.bytes }

abbrev pub keys_of : List Item → List Taken
keys_of items = map taken_of items

-- the keys of an answer
abbrev pub answered : Answer → List Taken
answered a = option_list a.first ++ option_list a.second

-- A decoder has answered these keys of these events, and has this state.
pub record HasRead (events : List Event) (taken : List Taken) (state : State) : Type 0 where
  pub taken_are : taken ≡ keys_of (reading state.asked events).items
  pub state_is : state ≡ (reading state.asked events).state
