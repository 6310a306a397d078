-- What begins with an escape is read whatever was pending before it.
use Rattle.std.specs.Prelude.{◌++◌, ◌+◌, ◌-◌, ◌<◌, ◌==◌, ◌∷◌, ◌≡◌, ◌⊎◌}
use Rattle.keys.specs.{AreKey, Asked, Byte, Delay, Event, HasRead, Item, Key, LONGEST, List, None, PasteEnds, Reading}
use Rattle.keys.specs.{Resumes, State, Taken, [], ap, append-nil, append_assoc, arith, as_asked, begins_string}
use Rattle.keys.specs.{cases_Bool, continues, cut_by, ended_by, eq-eqb, false, fold, fold-append, get_or}
use Rattle.keys.specs.{get_or_append_left, goes_on_control, goes_on_shift, inl, inr, is_in_character, is_string}
use Rattle.keys.specs.{is_whole, items_of, key_of, keys_of, leaves_escape, left_by, length, length-append, map}
use Rattle.keys.specs.{map-append, nat_tests, ne_eqb, opens_string, option_list, paste_end, read_event, reading, refl}
use Rattle.keys.specs.{state_after, suc, sym, taken_by, taken_of, true, zero, ℕ, ◌∙◌}
use Rattle.keys.proofs.Sequences.{get-last}
use Rattle.keys.proofs.Readings.{ended-read, outside, read-whole}

-- a state outside of a pasted text
abbrev typed_state : Asked → List ℕ → State
typed_state asked pending = record { asked = asked; pasting = false; pending = pending }

-- The byte goes on an escape alone, which is all that is pending, or the last byte of a string.
Escaped : List ℕ → ℕ → Type 0
Escaped pending byte = (asked : Asked) → left_by (typed_state asked pending) byte ≡ typed_state asked (27 ∷ [])

one-on : (byte : ℕ) → (byte ≡ 27 → ⊥) → continues false (27 ∷ []) byte ≡ true
unfolding continues
one-on byte other = rw (ne_eqb byte 27 other) refl

one-off : (byte : ℕ) → continues false (27 ∷ []) byte ≡ true → byte ≡ 27 → ⊥
unfolding continues
one-off byte on is = absurd (let e : continues false (27 ∷ []) byte ≡ false = rw (eq-eqb byte 27 is) refl in cc)

escaped-one : (byte : ℕ) → (byte ≡ 27 → ⊥) → Escaped (27 ∷ []) byte
unfolding Escaped
escaped-one byte other asked = rw (one-on byte other) refl

-- no string is pending, or it goes on behind an escape, but not with the byte
abbrev Passes : List ℕ → ℕ → Type 0
Passes pending byte = (is_string pending ≡ false) ⊎ ((length pending + 1 < LONGEST) × (byte ≡ 92 → ⊥))

-- a string that ends in an escape
module _ (q : List ℕ) (is : is_string q ≡ true) (ends : get_or q (length q - 1) 0 ≡ 27) where
  long : 2 < length q
  long = grind (arith, nat_tests, is)

  begins : (get_or q 0 0 == 27) ≡ true
  begins = grind (arith, nat_tests, is)

  opens : opens_string (get_or q 1 0) ≡ true
  opens = grind (arith, nat_tests, is)

  no_control : (get_or q 1 0 == 91) ≡ false
  no_control = grind (arith, nat_tests, opens)

  no_shift : (get_or q 1 0 == 79) ≡ false
  no_shift = grind (arith, nat_tests, opens)

  string-open : length q < LONGEST → is_whole false q ≡ false
  unfolding is_whole
  string-open short =
      rw (begins, no_control, no_shift, opens) (grind (arith, nat_tests, long, ends, short))

  string-escaped : (byte : ℕ) → (byte ≡ 92 → ⊥) → Escaped q byte
  unfolding Escaped continues leaves_escape
  string-escaped byte other asked =
      let off : continues false q byte ≡ false =
      rw (begins, no_control, no_shift, opens) (grind (arith, nat_tests, long, ends, ne_eqb byte 92 other)) in
      let leaves : leaves_escape false q ≡ true = grind (arith, nat_tests, is, ends) in
      rw (off, leaves) refl

-- what an escape goes on

no-character : (first count : ℕ) → is_in_character first count 27 ≡ false
no-character first count = grind (arith, nat_tests)

no-control : (pending : List ℕ) → goes_on_control pending 27 ≡ false
no-control pending = grind (arith, nat_tests)

no-shift : (pending : List ℕ) → goes_on_shift pending 27 ≡ false
no-shift pending = grind (arith, nat_tests)

no-begin : (letter : ℕ) → begins_string letter 27 ≡ false
no-begin letter = grind (arith, nat_tests)

-- an escape goes on a string alone
met-string : (a : ℕ) (l : List ℕ) → continues false (a ∷ l) 27 ≡ true → is_string (a ∷ l) ≡ true
unfolding continues
met-string a l on =
    grind (
      arith,
      nat_tests,
      on,
      no-character a (length (a ∷ l)),
      no-character (get_or (a ∷ l) 1 0) (length (a ∷ l) - 1),
      no-control (a ∷ l),
      no-shift (a ∷ l),
      no-begin (get_or (a ∷ l) 1 0),
    )

-- an escape behind a string
with-escape : (pending : List ℕ) (byte : ℕ) → is_string pending ≡ true → length pending + 1 < LONGEST
    → (byte ≡ 92 → ⊥) → (is_whole false (pending ++ 27 ∷ []) ≡ false) × Escaped (pending ++ 27 ∷ []) byte
with-escape pending byte is short other =
    let q = pending ++ 27 ∷ [] in
    let long : length q ≡ length pending + 1 = length-append pending (27 ∷ []) in
    let some : 2 < length pending = grind (arith, nat_tests, is) in
    let one = get_or_append_left pending (27 ∷ []) 0 0 (omega (arith, some)) in
    let two = get_or_append_left pending (27 ∷ []) 0 1 (omega (arith, some)) in
    let string : is_string q ≡ true = grind (arith, nat_tests, is, long, one, two) in
    let ends : get_or q (length q - 1) 0 ≡ 27 =
    ap (λ k. get_or q k 0) (let e : length q - 1 ≡ length pending = omega (arith, long) in e) ∙ get-last pending 27 in
    (string-open q string ends (omega (arith, long, short)), string-escaped q string ends byte other)

-- the state after an escape
abbrev after_escape : Asked → List ℕ → State
after_escape asked pending = state_after (typed_state asked pending) (Byte 27)

record IsEscaped (asked : Asked) (pending : List ℕ) (byte : ℕ) : Type 0 where
  q : List ℕ
  state : after_escape asked pending ≡ typed_state asked q
  escaped : Escaped q byte

escaped : (asked : Asked) (pending : List ℕ) (byte : ℕ) → (byte ≡ 27 → ⊥) → Passes pending byte
    → IsEscaped asked pending byte
unfolding continues is_whole
escaped asked [] byte other passes = record { q = 27 ∷ []; state = refl; escaped = escaped-one byte other }
escaped asked (a ∷ l) byte other passes = elim (cases_Bool (continues false (a ∷ l) 27)) [
  | inl on ↦ elim passes [
    | inl none ↦ absurd (let is = met-string a l on in cc)
    | inr string ↦
        let is = with-escape (a ∷ l) byte (met-string a l on) string.0 string.1 in
        record { q = (a ∷ l) ++ 27 ∷ []; state = rw on (rw on (rw is.0 refl)); escaped = is.1 }
  ]
  | inr off ↦ elim (cases_Bool (leaves_escape false (a ∷ l))) [
    | inl leaves ↦ record { q = 27 ∷ []; state = rw (off, leaves) refl; escaped = escaped-one byte other }
    | inr none ↦ record { q = 27 ∷ []; state = rw (off, none) refl; escaped = escaped-one byte other }
  ]
]

-- after the byte behind it
read-behind : (asked : Asked) (items : List Item) (q : List ℕ) (byte : ℕ) → Escaped q byte → (byte ≡ 27 → ⊥)
    → read_event (outside asked items q) (Byte byte)
    ≡ read_event (outside asked (items ++ option_list (cut_by (typed_state asked q) byte)) (27 ∷ [])) (Byte byte)
unfolding Escaped
read-behind asked items q byte is other =
    let cut = option_list (cut_by (typed_state asked q) byte) in
    let left = left_by (typed_state asked (27 ∷ [])) byte in
    let ended = option_list (ended_by left byte) in
    let after : List Item → Reading = λ l. record { items = l; state = taken_by left byte } in
    let none : cut_by (typed_state asked (27 ∷ [])) byte ≡ None = rw (one-on byte other) refl in
    ap (λ s. record { items = items ++ (cut ++ option_list (ended_by s byte)); state = taken_by s byte })
    (is asked ∙ sym (escaped-one byte other asked))
    ∙ ap after (sym (append_assoc items cut ended))
    ∙ ap (λ c. after ((items ++ cut) ++ (option_list c ++ ended))) (sym none)

module _ (asked : Asked) (pending : List ℕ) (byte : ℕ) (other : byte ≡ 27 → ⊥) (passes : Passes pending byte) where
  is : IsEscaped asked pending byte
  is = escaped asked pending byte other passes

  -- what was cut short before a whole sequence that begins with an escape
  cut_before : List Item
  cut_before = items_of (typed_state asked pending) (Byte 27) ++ option_list (cut_by (typed_state asked is.q) byte)

  read-both : (items : List Item)
      → read_event (read_event (outside asked items pending) (Byte 27)) (Byte byte)
      ≡ read_event (read_event (outside asked (items ++ cut_before) []) (Byte 27)) (Byte byte)
  unfolding continues is_whole cut_before
  read-both items =
      let cut = items_of (typed_state asked pending) (Byte 27) in
      let behind = option_list (cut_by (typed_state asked is.q) byte) in
      ap (λ s. read_event (record { items = items ++ cut; state = s }) (Byte byte)) is.state
      ∙ read-behind asked (items ++ cut) is.q byte is.escaped other
      ∙ ap (λ l. read_event (outside asked l (27 ∷ [])) (Byte byte))
      (append_assoc items cut behind ∙ sym (append-nil (items ++ cut_before)))

  resumed : (items : List Item) (rest : List ℕ)
      → fold read_event (outside asked items pending) (map Byte (27 ∷ byte ∷ rest))
      ≡ fold read_event (outside asked (items ++ cut_before) []) (map Byte (27 ∷ byte ∷ rest))
  resumed items rest = ap (λ r. fold read_event r (map Byte rest)) (read-both items)

pub key-resumes : (events : List Event) (taken : List Taken) (s : State) (byte : ℕ) (rest : List ℕ) (key : Key)
    → HasRead events taken s → s.pasting ≡ false → Passes s.pending byte
    → AreKey (27 ∷ byte ∷ rest) key → Resumes s.asked events taken (27 ∷ byte ∷ rest) (as_asked s.asked key)
key-resumes events taken s byte rest key h typed passes are =
    let bytes : List ℕ = 27 ∷ byte ∷ rest in
    let r = reading s.asked events in
    let at : r ≡ outside s.asked r.items s.pending =
    ap (λ t. record { items = r.items; state = t }) (sym h.state_is ∙ ap (λ p. record s { pasting = p }) typed) in
    let other = one-off byte (are.begun.goes_on 1 (omega arith)) in
    let cut = cut_before s.asked s.pending byte other passes in
    record {
      before = keys_of cut;
      read =
          ended-read s.asked (events ++ map Byte bytes) (taken ++ keys_of cut) (r.items ++ cut) bytes key
          (ap (λ l. l ++ keys_of cut) h.taken_are ∙ sym (map-append taken_of r.items cut)) are.means
          (fold-append read_event (outside s.asked [] []) events (map Byte bytes)
          ∙ ap (λ r. fold read_event r (map Byte bytes)) at
          ∙ resumed s.asked s.pending byte other passes r.items rest
          ∙ read-whole s.asked (r.items ++ cut) bytes are.begun are.some are.whole);
    }

-- ---- the end of a pasted text

abbrev pasting : Asked → List Item → List ℕ → Reading
pasting asked items pending =
    record { items = items; state = record { asked = asked; pasting = true; pending = pending } }

-- after the end
abbrev pasted : Asked → List Item → Reading
pasted asked items = outside asked (items ++ record { bytes = paste_end; key = PasteEnds } ∷ []) []

-- the end has one escape
abbrev behind_escape : List ℕ
behind_escape = 91 ∷ 50 ∷ 48 ∷ 49 ∷ 126 ∷ []

no-escape : (n : ℕ) → get_or behind_escape n 0 ≡ 27 → ⊥
no-escape zero e = omega (arith, e)
no-escape (suc zero) e = omega (arith, e)
no-escape (suc (suc zero)) e = omega (arith, e)
no-escape (suc (suc (suc zero))) e = omega (arith, e)
no-escape (suc (suc (suc (suc zero)))) e = omega (arith, e)
no-escape (suc (suc (suc (suc (suc n))))) e = omega (arith, e)

paste-off : (a : ℕ) (l : List ℕ) → continues true (a ∷ l) 27 ≡ false
unfolding continues
paste-off a l =
    grind (arith, nat_tests, ne_eqb 27 (get_or behind_escape (length l) 0) (λ e. no-escape (length l) (sym e)))

paste-left : (asked : Asked) (pending : List ℕ)
    → left_by (record { asked = asked; pasting = true; pending = pending }) 27
    ≡ record { asked = asked; pasting = true; pending = [] }
unfolding continues leaves_escape
paste-left asked [] = refl
paste-left asked (a ∷ l) = rw (paste-off a l) refl

module _ (asked : Asked) (items : List Item) where
  paste-on : (pending : List ℕ) (byte : ℕ) → continues true pending byte ≡ true
      → is_whole true (pending ++ byte ∷ []) ≡ false
      → read_event (pasting asked items pending) (Byte byte) ≡ pasting asked items (pending ++ byte ∷ [])
  paste-on pending byte on more = rw on (rw on (rw more (rw append-nil refl)))

  paste-last : read_event (pasting asked items (27 ∷ 91 ∷ 50 ∷ 48 ∷ 49 ∷ [])) (Byte 126) ≡ pasted asked items
  unfolding continues is_whole key_of
  paste-last = refl

  paste-rest : fold read_event (pasting asked items (27 ∷ [])) (map Byte behind_escape) ≡ pasted asked items
  unfolding continues is_whole
  paste-rest =
      ap (λ r. fold read_event r (map Byte (50 ∷ 48 ∷ 49 ∷ 126 ∷ []))) (paste-on (27 ∷ []) 91 refl refl)
      ∙ ap (λ r. fold read_event r (map Byte (48 ∷ 49 ∷ 126 ∷ []))) (paste-on (27 ∷ 91 ∷ []) 50 refl refl)
      ∙ ap (λ r. fold read_event r (map Byte (49 ∷ 126 ∷ []))) (paste-on (27 ∷ 91 ∷ 50 ∷ []) 48 refl refl)
      ∙ ap (λ r. fold read_event r (map Byte (126 ∷ []))) (paste-on (27 ∷ 91 ∷ 50 ∷ 48 ∷ []) 49 refl refl)
      ∙ paste-last

-- a delay changes nothing
delay-same : (r : Reading) → r.state.pasting ≡ true → read_event r Delay ≡ r
delay-same r pastes = rw pastes (rw append-nil refl)

pub paste-delays : (events more : List Event) (taken others : List Taken) (one other : State) → HasRead events taken one
    → one.pasting ≡ true → one.asked ≡ other.asked → HasRead (events ++ more) others other
    → HasRead (events ++ Delay ∷ more) others other
paste-delays events more taken others one other h pastes asked k =
    let r = reading other.asked events in
    let at : r.state.pasting ≡ true =
    ap (λ a. (reading a events).state.pasting) (sym asked) ∙ ap (λ (s : State). s.pasting) (sym h.state_is) ∙ pastes in
    let same : reading other.asked (events ++ more) ≡ reading other.asked (events ++ Delay ∷ more) =
    fold-append read_event (outside other.asked [] []) events more
    ∙ ap (λ r. fold read_event r more) (sym (delay-same r at))
    ∙ sym (fold-append read_event (outside other.asked [] []) events (Delay ∷ more)) in
    record {
      taken_are = k.taken_are ∙ ap (λ (r : Reading). keys_of r.items) same;
      state_is = k.state_is ∙ ap (λ (r : Reading). r.state) same;
    }

abbrev cut_in_paste : Asked → List ℕ → List Item
cut_in_paste asked pending = option_list (cut_by (record { asked = asked; pasting = true; pending = pending }) 27)

paste-first : (asked : Asked) (items : List Item) (pending : List ℕ)
    → read_event (pasting asked items pending) (Byte 27)
    ≡ pasting asked (items ++ cut_in_paste asked pending) (27 ∷ [])
unfolding continues is_whole
paste-first asked items pending = rw (paste-left asked pending) (rw append-nil refl)

pub paste-ends : (events : List Event) (taken : List Taken) (s : State) → HasRead events taken s → s.pasting ≡ true
    → Resumes s.asked events taken paste_end PasteEnds
paste-ends events taken s h pastes =
    let r = reading s.asked events in
    let at : r ≡ pasting s.asked r.items s.pending =
    ap (λ t. record { items = r.items; state = t }) (sym h.state_is ∙ ap (λ p. record s { pasting = p }) pastes) in
    let cut = cut_in_paste s.asked s.pending in
    let last : Item = record { bytes = paste_end; key = PasteEnds } in
    let whole : reading s.asked (events ++ map Byte paste_end) ≡ pasted s.asked (r.items ++ cut) =
    fold-append read_event (outside s.asked [] []) events (map Byte paste_end)
    ∙ ap (λ r. fold read_event r (map Byte paste_end)) at
    ∙ ap (λ r. fold read_event r (map Byte behind_escape)) (paste-first s.asked r.items s.pending)
    ∙ paste-rest s.asked (r.items ++ cut) in
    record {
      before = keys_of cut;
      read = record {
        taken_are =
            ap (λ l. (l ++ keys_of cut) ++ record { key = PasteEnds; count = 6 } ∷ []) h.taken_are
            ∙ ap (λ l. l ++ record { key = PasteEnds; count = 6 } ∷ []) (sym (map-append taken_of r.items cut))
            ∙ sym (map-append taken_of (r.items ++ cut) (last ∷ []))
            ∙ ap (λ (r : Reading). keys_of r.items) (sym whole);
        state_is = ap (λ (r : Reading). r.state) (sym whole);
      };
    }
