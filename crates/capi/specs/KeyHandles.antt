-- What the calls of C do to the decoder of a handle.
use Rattle.std.specs.Prelude.{◌≡◌, ◌≤◌, ◌<◌, ◌⊎◌, ◌++◌, ℕ, List, length, map, take, Option, Some, None, if◌then◌else◌}
use Rattle.std.specs.Option.{is_some, option_map}
use Rattle.keys.specs.Readings.{State, Event, Byte, Delay, HasRead, start, answered, cut_by_delay, items_of, keys_of}
use Rattle.keys.specs.Readings.{option_list, state_after}
use Rattle.keys.specs.declared.decoder.Progress.{Progress}
use Rattle.keys.specs.declared.decoder.Taken.{Taken}
use Rattle.capi.specs.declared.taken.CFed.{CFed}
use Rattle.capi.specs.declared.taken.CTaken.{CTaken}
use Rattle.capi.specs.Keys.{asked_of, no_key, taken_of}

-- There is a decoder that has read nothing, whatever was there before. Or something was asked for that there isn't
-- (13), or there is no memory (18), and the handle is as before.
abbrev pub KeysOpened : ℕ → Option State → ℕ → Option State → Type 0
KeysOpened asked old status new =
    ((status ≡ 0) × (asked < 8) × (new ≡ Some (start (asked_of asked))))
    ⊎ ((status ≡ 13) × (8 ≤ asked) × (new ≡ old))
    ⊎ ((status ≡ 18) × (asked < 8) × (new ≡ old))

abbrev pub fed_of : Progress → CFed
fed_of progress = record {
  used = progress.used;
  first = taken_of progress.answer.first;
  second = taken_of progress.answer.second;
}

-- The bytes up to one that answers a key were read, and all where none does.
pub record FedTo (old : State) (piece : List ℕ) (fed : CFed) (new : Option State) : Type 0 where
  pub progress : Progress
  pub after : State
  pub now : new ≡ Some after
  pub fed_is : fed ≡ fed_of progress
  pub used : progress.used ≤ length piece
  pub all : progress.answer.first ≡ None → progress.used ≡ length piece
  pub in_order : progress.answer.first ≡ None → progress.answer.second ≡ None
  pub asked : after.asked ≡ old.asked
  pub read : (events : List Event) (taken : List Taken) → HasRead events taken old
      → HasRead (events ++ map Byte (take progress.used piece)) (taken ++ answered progress.answer) after

-- A closed handle takes no byte.
abbrev pub Fed : Option State → List ℕ → CFed → Option State → Type 0
Fed None piece fed new = (fed ≡ record { used = 0; first = no_key; second = no_key }) × (new ≡ None)
Fed (Some old) piece fed new = FedTo old piece fed new

-- What is pending was cut short, if anything is.
pub record DelayedOf (old : State) (taken : CTaken) (new : Option State) : Type 0 where
  pub key : Option Taken
  pub is : option_list key ≡ keys_of (items_of old Delay)
  pub taken_is : taken ≡ taken_of key
  pub now : new ≡ Some (state_after old Delay)

abbrev pub Delayed : Option State → CTaken → Option State → Type 0
Delayed None taken new = (taken ≡ no_key) × (new ≡ None)
Delayed (Some old) taken new = DelayedOf old taken new

-- 1 where the end of the delay would answer a key
abbrev pub Waits : Option State → ℕ → Type 0
Waits None waits = waits ≡ 0
Waits (Some old) waits = waits ≡ (if is_some (cut_by_delay old) then 1 else 0)

-- Nothing has been read yet.
abbrev pub restarted : Option State → Option State
restarted = option_map (λ s. start s.asked)
