-- Words for the laws of readings: sequences, where bytes are, and which bytes are a key.
use Rattle.std.specs.Prelude.{if◌then◌else◌, ◌++◌, ◌+◌, ◌<◌, ◌∷◌, ◌≡◌, ◌≤◌}
use Rattle.keys.specs.Names.{Asked, Bool, Key, LONGEST, List, Taken, [], false, flat_map, length, map}
use Rattle.keys.specs.Names.{slice_index, take, true, ℕ}
use Rattle.keys.specs.Grammar.{continues, is_whole}
use Rattle.keys.specs.Meanings.{as_asked, key_of}
use Rattle.keys.specs.Readings.{Byte, Delay, Event, HasRead, Item, Reading, State, pasting_after}

-- the bytes among some events
abbrev pub byte_of : Event → List ℕ
byte_of (Byte byte) = byte ∷ []
byte_of Delay = []

abbrev pub bytes_of : List Event → List ℕ
bytes_of events = flat_map byte_of events

-- the bytes of all sequences, and then those that are pending
abbrev pub all_bytes : Reading → List ℕ
all_bytes r = flat_map (λ i. i.bytes) r.items ++ r.state.pending

-- how many bytes some keys took
abbrev pub bytes_taken : List Taken → ℕ
bytes_taken [] = 0
bytes_taken (t ∷ taken) = t.count + bytes_taken taken

-- Each byte goes on those before it, none of which is the last of a whole sequence.
pub record IsBegun (pasting : Bool) (bytes : List ℕ) : Type 0 where
  pub goes_on : (n : ℕ) → n < length bytes → continues pasting (take n bytes) (slice_index bytes n) ≡ true
  pub not_whole : (n : ℕ) → 0 < n → n < length bytes → is_whole pasting (take n bytes) ≡ false

-- The item is a sequence of 1 to 4,096 bytes with its key.
pub record IsSequence (asked : Asked) (pasting : Bool) (i : Item) : Type 0 where
  pub begun : IsBegun pasting i.bytes
  pub some : 1 ≤ length i.bytes
  pub few : length i.bytes ≤ LONGEST
  pub means : i.key ≡ as_asked asked (key_of pasting i.bytes)

-- What is pending is the beginning of a sequence that isn't whole.
pub record IsPending (s : State) : Type 0 where
  pub begun : IsBegun s.pasting s.pending
  pub open_yet : 0 < length s.pending → is_whole s.pasting s.pending ≡ false
  pub short : length s.pending < LONGEST

-- whether a text is being pasted after a sequence: a whole one may begin or end it, by its key
abbrev pub pasting_past : Bool → Item → Bool
pasting_past pasting i = if is_whole pasting i.bytes then pasting_after pasting i.key else pasting

-- The items are sequences one after another, from where a text is being pasted, or not, to where one is, or not.
abbrev pub AreSequences : Asked → Bool → List Item → Bool → Type 0
AreSequences asked pasting [] after = pasting ≡ after
AreSequences asked pasting (i ∷ items) after =
    IsSequence asked pasting i × AreSequences asked (pasting_past pasting i) items after

-- All items are sequences, and the state is that of the beginning of another.
pub record IsOfSequences (asked : Asked) (r : Reading) : Type 0 where
  pub sequences : AreSequences asked false r.items r.state.pasting
  pub pending : IsPending r.state
  pub asked_is : r.state.asked ≡ asked

-- the state after a key outside of a pasted text, where nothing is pending
abbrev pub after_key : Asked → Key → State
after_key asked key = record { asked = asked; pasting = pasting_after false key; pending = [] }

-- Outside of a pasted text the bytes are one sequence, and it has this key.
pub record AreKey (bytes : List ℕ) (key : Key) : Type 0 where
  pub begun : IsBegun false bytes
  pub some : 1 ≤ length bytes
  pub whole : is_whole false bytes ≡ true
  pub means : key_of false bytes ≡ key

-- After the events the bytes are answered by this key, and nothing is pending then. Before it come keys of what was
-- pending: by the counts, and since no byte is lost, they took those bytes alone.
pub record Resumes (asked : Asked) (events : List Event) (taken : List Taken) (bytes : List ℕ) (key : Key) :
    Type 0 where
  pub before : List Taken
  pub read : HasRead (events ++ map Byte bytes) ((taken ++ before) ++ record { key = key; count = length bytes } ∷ [])
      (after_key asked key)
