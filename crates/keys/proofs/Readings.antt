-- What one more event adds to a reading, what is read of a whole sequence, and the laws as lemmas.
use Rattle.std.specs.Prelude.{◌++◌, ◌+◌, ◌-◌, ◌<◌, ◌∷◌, ◌≡◌, ◌≤◌}
use Rattle.keys.specs.{Answer, AreKey, Asked, Byte, Event, HasRead, IsBegun, IsPending, Item, Key, List, None, Option}
use Rattle.keys.specs.{Reading, Some, State, Taken, [], after_key, answered, ap, append-nil, append_assoc, ap₂, arith}
use Rattle.keys.specs.{as_asked, bytes_of, bytes_taken, continues, false, flat_map, fold, fold-append, get_or, is_some}
use Rattle.keys.specs.{is_whole, item, items_of, key_of, keys_of, length, length-append, map, map-append, option_list}
use Rattle.keys.specs.{option_map, read_event, reading, refl, start, state_after, subst, suc, sym, take, take_more}
use Rattle.keys.specs.{taken_of, true, zero, ℕ, ◌∙◌}
use Rattle.keys.proofs.Sequences.{all_bytes-reading, sequences-reading, without_last}

spread : (x y : Option Item)
    → option_list (option_map taken_of x) ++ option_list (option_map taken_of y)
    ≡ keys_of (option_list x ++ option_list y)
spread None None = refl
spread None (Some y) = refl
spread (Some x) None = refl
spread (Some x) (Some y) = refl

pub answers : (a : Answer) (one other : Option Taken) (x y : Option Item)
    → answered a ≡ option_list one ++ option_list other → one ≡ option_map taken_of x → other ≡ option_map taken_of y
    → answered a ≡ keys_of (option_list x ++ option_list y)
answers a one other x y is one_is other_is =
    is ∙ ap₂ (λ o p. option_list o ++ option_list p) one_is other_is ∙ spread x y

pub HasRead-event : (events : List Event) (taken : List Taken) (s t : State) (event : Event) (more : List Taken)
    → HasRead events taken s → more ≡ keys_of (items_of s event) → t ≡ state_after s event → t.asked ≡ s.asked
    → HasRead (events ++ event ∷ []) (taken ++ more) t
HasRead-event events taken s t event more h is_more is_after is_asked =
    let r = reading s.asked events in
    let next : reading t.asked (events ++ event ∷ []) ≡ read_event r event =
    ap (λ asked. reading asked (events ++ event ∷ [])) is_asked
    ∙ fold-append read_event (record { items = []; state = start s.asked }) events (event ∷ []) in
    record {
      taken_are =
          ap (λ l. l ++ more) h.taken_are
          ∙ ap (λ l. keys_of r.items ++ l) (is_more ∙ ap (λ v. keys_of (items_of v event)) h.state_is)
          ∙ sym (map-append taken_of r.items (items_of r.state event))
          ∙ ap (λ (r : Reading). keys_of r.items) (sym next);
      state_is = is_after ∙ ap (λ v. state_after v event) h.state_is ∙ ap (λ (r : Reading). r.state) (sym next);
    }

pub ruleset steps = (answers, HasRead-event)

-- one more byte of a piece
pub piece-next : (events : List Event) (piece : List ℕ) (at : ℕ) → at < length piece
    → (events ++ map Byte (take at piece)) ++ Byte (get_or piece at 0) ∷ [] ≡ events ++ map Byte (take (at + 1) piece)
piece-next events piece at within =
    append_assoc events (map Byte (take at piece)) (Byte (get_or piece at 0) ∷ [])
    ∙ ap (λ l. events ++ l) (sym (map-append Byte (take at piece) (get_or piece at 0 ∷ []))
    ∙ ap (map Byte) (sym (take_more piece at 0 within)))

pub HasRead-piece : (events : List Event) (piece : List ℕ) (at : ℕ) (taken : List Taken) (s : State) → at < length piece
    → HasRead ((events ++ map Byte (take at piece)) ++ Byte (get_or piece at 0) ∷ []) taken s
    → HasRead (events ++ map Byte (take (at + 1) piece)) taken s
HasRead-piece events piece at taken s within h =
    let P : List Event → Type 0 = λ l. HasRead l taken s in subst P (piece-next events piece at within) h

pub is_none : (o : Option Taken) → is_some o ≡ false → o ≡ None
is_none None absent = refl
is_none (Some taken) absent = absurd (cc)

-- where nothing was answered
pub HasRead-none : (events : List Event) (taken : List Taken) (a : Answer) (s : State) → a.first ≡ None
    → a.second ≡ None → HasRead events (taken ++ answered a) s → HasRead events taken s
HasRead-none events taken a s no_first no_second h =
    let P : List Taken → Type 0 = λ l. HasRead events l s in
    subst P (ap (λ c. taken ++ (option_list c ++ option_list a.second)) no_first
    ∙ ap (λ w. taken ++ ([] ++ option_list w)) no_second ∙ append-nil taken) h

-- ---- the laws

counted : (items : List Item) → bytes_taken (map taken_of items) ≡ length (flat_map (λ i. i.bytes) items)
counted [] = refl
counted (i ∷ items) =
    ap (λ n. length i.bytes + n) (counted items) ∙ sym (length-append i.bytes (flat_map (λ j. j.bytes) items))

pub counts : (events : List Event) (taken : List Taken) (state : State) → HasRead events taken state
    → bytes_taken taken + length state.pending ≡ length (bytes_of events)
counts events taken state h =
    let r = reading state.asked events in
    ap (λ l. bytes_taken l + length state.pending) h.taken_are
    ∙ ap (λ n. n + length state.pending) (counted r.items)
    ∙ ap (λ s. length (flat_map (λ (i : Item). i.bytes) r.items) + length s.pending) h.state_is
    ∙ sym (length-append (flat_map (λ i. i.bytes) r.items) r.state.pending)
    ∙ ap length (all_bytes-reading state.asked events)

pub one-taken : (events : List Event) (taken others : List Taken) (one other : State) → HasRead events taken one
    → HasRead events others other → one.asked ≡ other.asked → taken ≡ others
one-taken events taken others one other h k same =
    h.taken_are ∙ ap (λ asked. map taken_of (reading asked events).items) same ∙ sym k.taken_are

pub one-state : (events : List Event) (taken others : List Taken) (one other : State) → HasRead events taken one
    → HasRead events others other → one.asked ≡ other.asked → one ≡ other
one-state events taken others one other h k same =
    h.state_is ∙ ap (λ asked. (reading asked events).state) same ∙ sym k.state_is

pub pending-reading : (events : List Event) (taken : List Taken) (state : State) → HasRead events taken state
    → IsPending state
pending-reading events taken state h =
    let P : State → Type 0 = λ s. IsPending s in subst P (sym h.state_is) (sequences-reading state.asked events).pending

pub ruleset laws =
    (all_bytes-reading, counts, one-taken, one-state)

-- ---- a whole sequence

-- a reading outside of a pasted text
abbrev pub outside : Asked → List Item → List ℕ → Reading
outside asked items pending =
    record { items = items; state = record { asked = asked; pasting = false; pending = pending } }

-- a reading after a whole sequence
abbrev pub ended : Asked → List Item → List ℕ → Reading
ended asked items bytes = record {
  items = items ++ item (start asked) bytes ∷ [];
  state = after_key asked (as_asked asked (key_of false bytes));
}

module _ (asked : Asked) (items : List Item) where
  read-on : (pending : List ℕ) (byte : ℕ) → continues false pending byte ≡ true
      → is_whole false (pending ++ byte ∷ []) ≡ false
      → read_event (outside asked items pending) (Byte byte) ≡ outside asked items (pending ++ byte ∷ [])
  read-on pending byte on more = rw on (rw on (rw more (rw append-nil refl)))

  read-last : (pending : List ℕ) (byte : ℕ) → continues false pending byte ≡ true
      → is_whole false (pending ++ byte ∷ []) ≡ true
      → read_event (outside asked items pending) (Byte byte) ≡ ended asked items (pending ++ byte ∷ [])
  read-last pending byte on whole = rw on (rw on (rw whole refl))

  -- the beginning of a sequence is pending
  read-part : (bytes : List ℕ) → IsBegun false bytes → (n : ℕ) → n < length bytes
      → fold read_event (outside asked items []) (map Byte (take n bytes)) ≡ outside asked items (take n bytes)
  read-part bytes begun zero within = refl
  read-part bytes begun (suc n) within =
      let before : n < length bytes = omega (arith, within) in
      let next : suc n ≡ n + 1 = omega arith in
      let longer : take (suc n) bytes ≡ take n bytes ++ get_or bytes n 0 ∷ [] =
      ap (λ k. take k bytes) next ∙ take_more bytes n 0 before in
      ap (λ l. fold read_event (outside asked items []) (map Byte l)) longer
      ∙ ap (fold read_event (outside asked items [])) (map-append Byte (take n bytes) (get_or bytes n 0 ∷ []))
      ∙ fold-append read_event (outside asked items []) (map Byte (take n bytes)) (Byte (get_or bytes n 0) ∷ [])
      ∙ ap (λ r. read_event r (Byte (get_or bytes n 0))) (read-part bytes begun n before)
      ∙ read-on (take n bytes) (get_or bytes n 0) (begun.goes_on n before)
      (ap (is_whole false) (sym longer) ∙ begun.not_whole (suc n) (omega arith) within)
      ∙ ap (outside asked items) (sym longer)

  pub read-whole : (bytes : List ℕ) → IsBegun false bytes → 1 ≤ length bytes → is_whole false bytes ≡ true
      → fold read_event (outside asked items []) (map Byte bytes) ≡ ended asked items bytes
  read-whole bytes begun some whole =
      let n = length bytes - 1 in
      let byte = get_or bytes n 0 in
      let within : n < length bytes = omega (arith, some) in
      let split : take n bytes ++ byte ∷ [] ≡ bytes = without_last bytes some in
      ap (λ l. fold read_event (outside asked items []) (map Byte l)) (sym split)
      ∙ ap (fold read_event (outside asked items [])) (map-append Byte (take n bytes) (byte ∷ []))
      ∙ fold-append read_event (outside asked items []) (map Byte (take n bytes)) (Byte byte ∷ [])
      ∙ ap (λ r. read_event r (Byte byte)) (read-part bytes begun n within)
      ∙ read-last (take n bytes) byte (begun.goes_on n within) (ap (is_whole false) split ∙ whole)
      ∙ ap (ended asked items) split

-- what is answered, where a reading has ended a sequence
pub ended-read : (asked : Asked) (events : List Event) (taken : List Taken) (items : List Item) (bytes : List ℕ)
    (key : Key)
    → taken ≡ keys_of items → key_of false bytes ≡ key → reading asked events ≡ ended asked items bytes
    → HasRead events (taken ++ record { key = as_asked asked key; count = length bytes } ∷ [])
    (after_key asked (as_asked asked key))
ended-read asked events taken items bytes key are means whole =
    record {
      taken_are =
          ap (λ l. l ++ record { key = as_asked asked key; count = length bytes } ∷ []) are
          ∙ ap (λ k. keys_of items ++ record { key = as_asked asked k; count = length bytes } ∷ []) (sym means)
          ∙ sym (map-append taken_of items (item (start asked) bytes ∷ []))
          ∙ ap (λ (r : Reading). keys_of r.items) (sym whole);
      state_is =
          ap (λ k. after_key asked (as_asked asked k)) (sym means) ∙ ap (λ (r : Reading). r.state) (sym whole);
    }

-- A key's bytes, after events that leave nothing pending, are answered by that key, and nothing is pending then.
pub key-read : (asked : Asked) (events : List Event) (taken : List Taken) (bytes : List ℕ) (key : Key)
    → HasRead events taken (start asked) → AreKey bytes key
    → HasRead (events ++ map Byte bytes) (taken ++ record { key = as_asked asked key; count = length bytes } ∷ [])
    (after_key asked (as_asked asked key))
key-read asked events taken bytes key h are =
    let r = reading asked events in
    let at : r ≡ outside asked r.items [] = ap (λ s. record { items = r.items; state = s }) (sym h.state_is) in
    ended-read asked (events ++ map Byte bytes) taken r.items bytes key h.taken_are are.means
    (fold-append read_event (outside asked [] []) events (map Byte bytes)
    ∙ ap (λ r. fold read_event r (map Byte bytes)) at
    ∙ read-whole asked r.items bytes are.begun are.some are.whole)
