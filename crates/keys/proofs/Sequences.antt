-- No byte is lost, and each sequence is one.
use Rattle.std.specs.Prelude.{◌++◌, ◌+◌, ◌-◌, ◌<◌, ◌∷◌, ◌≡◌, ◌≤◌}
use Rattle.keys.specs.{AreSequences, Asked, Bool, Byte, Delay, Event, IsBegun, IsOfSequences, IsPending, IsSequence}
use Rattle.keys.specs.{Item, LONGEST, List, Option, Reading, State, [], after_bytes, after_cut, all_bytes, ap}
use Rattle.keys.specs.{append-nil, append_assoc, arith, byte_of, bytes_of, cases_Bool, cases_eq, cases_lt, continues}
use Rattle.keys.specs.{cut_by, cut_by_delay, cut_short, ended_by, eq-eqb, escape, false, flat_map, flat_map-append}
use Rattle.keys.specs.{fold, get_or, get_or-append_right, get_or-take, get_or_append_left, inl, inr, is_whole, item}
use Rattle.keys.specs.{items_of, leaves_escape, left_by, length, length-append, length-take-le, nat_tests, option_list}
use Rattle.keys.specs.{pasting_past, read_event, reading, refl, start, state_after, subst, sym, take, take-append-le}
use Rattle.keys.specs.{take-append_seam, take-length, take-take, take_more, taken_by, true, waits, whole_of, ℕ, ◌∙◌}

-- ---- no byte is lost

bytes_in : Option Item → List ℕ
bytes_in o = flat_map (λ i. i.bytes) (option_list o)

-- what leaves an escape ends in one
record Left (pasting : Bool) (pending : List ℕ) : Type 0 where
  outside : pasting ≡ false
  long : 3 ≤ length pending
  ends : get_or pending (length pending - 1) 0 ≡ escape

left : (pasting : Bool) (pending : List ℕ) → leaves_escape pasting pending ≡ true → Left pasting pending
unfolding leaves_escape
left true pending leaves = absurd (cc)
left false pending leaves =
    record { outside = refl; long = grind (arith, nat_tests, leaves); ends = grind (arith, nat_tests, leaves) }

pub without_last : (l : List ℕ) → 1 ≤ length l → take (length l - 1) l ++ get_or l (length l - 1) 0 ∷ [] ≡ l
without_last l some =
    sym (take_more l (length l - 1) 0 (omega (arith, some)))
    ∙ ap (λ n. take n l) (let e : length l - 1 + 1 ≡ length l = omega (arith, some) in e)
    ∙ take-length l

left-bytes : (pasting : Bool) (pending : List ℕ) → leaves_escape pasting pending ≡ true
    → take (length pending - 1) pending ++ escape ∷ [] ≡ pending
left-bytes pasting pending leaves =
    let is = left pasting pending leaves in
    ap (λ b. take (length pending - 1) pending ++ b ∷ []) (sym is.ends) ∙ without_last pending (omega (arith, is.long))

-- the cut sequence and what is left have the bytes that were pending
bytes-short : (s : State) → (cut_short s).bytes ++ (after_cut s).pending ≡ s.pending
bytes-short s = elim (cases_Bool (leaves_escape s.pasting s.pending)) [
  | inl leaves ↦ rw leaves (left-bytes s.pasting s.pending leaves)
  | inr none ↦ rw none (append-nil s.pending)
]

bytes-cut : (s : State) (byte : ℕ) → bytes_in (cut_by s byte) ++ (left_by s byte).pending ≡ s.pending
unfolding bytes_in
bytes-cut s byte = elim (cases_Bool (continues s.pasting s.pending byte)) [
  | inl on ↦ rw on refl
  | inr cut ↦ rw cut (rw append-nil (bytes-short s))
]

bytes-whole : (s : State) (bytes : List ℕ) → bytes_in (whole_of s bytes) ++ (after_bytes s bytes).pending ≡ bytes
unfolding bytes_in
bytes-whole s bytes = elim (cases_Bool (is_whole s.pasting bytes)) [
  | inl whole ↦ rw whole (append-nil (bytes ++ []) ∙ append-nil bytes)
  | inr more ↦ rw more refl
]

bytes-ended : (s : State) (byte : ℕ)
    → bytes_in (ended_by s byte) ++ (taken_by s byte).pending ≡ s.pending ++ byte ∷ []
unfolding bytes_in
bytes-ended s byte = elim (cases_Bool (continues s.pasting s.pending byte)) [
  | inl on ↦ rw on (bytes-whole s (s.pending ++ byte ∷ []))
  | inr off ↦ rw off (ap (λ l. l ++ byte ∷ []) (append-nil s.pending))
]

bytes-delay : (s : State) → bytes_in (cut_by_delay s) ++ (state_after s Delay).pending ≡ s.pending
unfolding bytes_in
bytes-delay s = elim (cases_Bool (waits s)) [
  | inl waits ↦ rw waits (rw append-nil (bytes-short s))
  | inr other ↦ rw other refl
]

bytes-event : (s : State) (event : Event)
    → flat_map (λ i. i.bytes) (items_of s event) ++ (state_after s event).pending ≡ s.pending ++ byte_of event
unfolding bytes_in
bytes-event s (Byte byte) =
    let f : Item → List ℕ = λ i. i.bytes in
    let left = left_by s byte in
    let cut = option_list (cut_by s byte) in
    let ended = option_list (ended_by left byte) in
    let pending = (taken_by left byte).pending in
    ap (λ l. l ++ pending) (flat_map-append f cut ended)
    ∙ append_assoc (flat_map f cut) (flat_map f ended) pending
    ∙ ap (λ l. flat_map f cut ++ l) (bytes-ended left byte)
    ∙ sym (append_assoc (flat_map f cut) left.pending (byte ∷ []))
    ∙ ap (λ l. l ++ byte ∷ []) (bytes-cut s byte)
bytes-event s Delay = bytes-delay s ∙ sym (append-nil s.pending)

all_bytes-event : (r : Reading) (event : Event) → all_bytes (read_event r event) ≡ all_bytes r ++ byte_of event
all_bytes-event r event =
    let f : Item → List ℕ = λ i. i.bytes in
    ap (λ l. l ++ (state_after r.state event).pending) (flat_map-append f r.items (items_of r.state event))
    ∙ append_assoc (flat_map f r.items) (flat_map f (items_of r.state event)) (state_after r.state event).pending
    ∙ ap (λ l. flat_map f r.items ++ l) (bytes-event r.state event)
    ∙ sym (append_assoc (flat_map f r.items) r.state.pending (byte_of event))

all_bytes-fold : (events : List Event) (r : Reading)
    → all_bytes (fold read_event r events) ≡ all_bytes r ++ bytes_of events
all_bytes-fold [] r = sym (append-nil (all_bytes r))
all_bytes-fold (event ∷ events) r =
    all_bytes-fold events (read_event r event)
    ∙ ap (λ l. l ++ bytes_of events) (all_bytes-event r event)
    ∙ append_assoc (all_bytes r) (byte_of event) (bytes_of events)

-- the bytes of all sequences and those that are pending are the bytes that came
pub all_bytes-reading : (asked : Asked) (events : List Event) → all_bytes (reading asked events) ≡ bytes_of events
all_bytes-reading asked events = all_bytes-fold events (record { items = []; state = start asked })

-- ---- each sequence is one

pub get-last : (bytes : List ℕ) (byte : ℕ) → get_or (bytes ++ byte ∷ []) (length bytes) 0 ≡ byte
get-last bytes byte =
    get_or-append_right bytes (byte ∷ []) (length bytes) (length bytes) 0 refl (omega arith)
    ∙ ap (λ k. get_or (byte ∷ []) k 0) (let e : length bytes - length bytes ≡ 0 = omega arith in e)

pub begun-none : (pasting : Bool) → IsBegun pasting []
begun-none pasting =
    record { goes_on = λ n h. absurd (omega (arith, h)); not_whole = λ n some h. absurd (omega (arith, h)) }

pub begun-next : (pasting : Bool) (bytes : List ℕ) (byte : ℕ) → IsBegun pasting bytes
    → (0 < length bytes → is_whole pasting bytes ≡ false)
    → continues pasting bytes byte ≡ true → IsBegun pasting (bytes ++ byte ∷ [])
begun-next pasting bytes byte begun open_yet on =
    record {
      goes_on = λ n h. elim (cases_lt n (length bytes)) [
        | inl before ↦
            rw (take-append-le n bytes (byte ∷ []) (omega (arith, before)))
            (rw (get_or_append_left bytes (byte ∷ []) 0 n before) (begun.goes_on n before))
        | inr after ↦
            let at : n ≡ length bytes = omega (arith, after, h, length-append bytes (byte ∷ [])) in
            rw (at, take-append_seam bytes (byte ∷ []), get-last bytes byte) on
      ];
      not_whole = λ n some h. elim (cases_lt n (length bytes)) [
        | inl before ↦ rw (take-append-le n bytes (byte ∷ []) (omega (arith, before))) (begun.not_whole n some before)
        | inr after ↦
            let at : n ≡ length bytes = omega (arith, after, h, length-append bytes (byte ∷ [])) in
            rw (at, take-append_seam bytes (byte ∷ [])) (open_yet (omega (arith, some, at)))
      ];
    }

begun-take : (pasting : Bool) (bytes : List ℕ) (m : ℕ) → m ≤ length bytes → IsBegun pasting bytes
    → IsBegun pasting (take m bytes)
begun-take pasting bytes m few begun =
    record {
      goes_on = λ n h.
          let within : n < m = omega (arith, h, length-take-le m bytes few) in
          rw (take-take n m bytes (omega (arith, within)), get_or-take m bytes n 0 within)
          (begun.goes_on n (omega (arith, within, few)));
      not_whole = λ n some h.
          let within : n < m = omega (arith, h, length-take-le m bytes few) in
          rw (take-take n m bytes (omega (arith, within))) (begun.not_whole n some (omega (arith, within, few)));
    }

pub begun-one : (pasting : Bool) (byte : ℕ) → IsBegun pasting (byte ∷ [])
unfolding continues
begun-one pasting byte = begun-next pasting [] byte (begun-none pasting) (λ h. absurd (omega (arith, h))) refl

-- a sequence that was begun is as long as one may be, at most
record Begins (pasting : Bool) (bytes : List ℕ) : Type 0 where
  begun : IsBegun pasting bytes
  some : 1 ≤ length bytes
  few : length bytes ≤ LONGEST

sequence : (s : State) (bytes : List ℕ) → Begins s.pasting bytes → IsSequence s.asked s.pasting (item s bytes)
sequence s bytes is =
    record { begun = is.begun; some = is.some; few = is.few; means = refl }

-- what doesn't go on was begun
cut-some : (pasting : Bool) (pending : List ℕ) (byte : ℕ) → continues pasting pending byte ≡ false → 1 ≤ length pending
unfolding continues
cut-some pasting [] byte cut = absurd (cc)
cut-some pasting (b ∷ l) byte cut = omega arith

-- what is pending is a sequence where it is cut short
begins-pending : (s : State) → IsPending s → 1 ≤ length s.pending → Begins s.pasting s.pending
begins-pending s is some = record { begun = is.begun; some = some; few = omega (arith, is.short) }

pub pending-none : (asked : Asked) (pasting : Bool)
    → IsPending (record { asked = asked; pasting = pasting; pending = [] })
pending-none asked pasting =
    record { begun = begun-none pasting; open_yet = λ h. absurd (omega (arith, h)); short = omega arith }

-- an escape alone is pending
pending-escape : (asked : Asked) → IsPending (record { asked = asked; pasting = false; pending = escape ∷ [] })
unfolding is_whole
pending-escape asked = record { begun = begun-one false escape; open_yet = λ h. refl; short = omega arith }

-- sequences from one state to another
record To (s : State) (items : List Item) (t : State) : Type 0 where
  sequences : AreSequences s.asked s.pasting items t.pasting
  pending : IsPending t
  asked_is : t.asked ≡ s.asked

sequences-short : (s : State) → IsPending s → 1 ≤ length s.pending → To s (cut_short s ∷ []) (after_cut s)
sequences-short s is some = elim (cases_Bool (leaves_escape s.pasting s.pending)) [
  | inl leaves ↦
      let ends = left s.pasting s.pending leaves in
      let n : length (take (length s.pending - 1) s.pending) ≡ length s.pending - 1 =
      length-take-le (length s.pending - 1) s.pending (omega arith) in
      let P : Bool → Type 0 = λ p. IsPending (record { asked = s.asked; pasting = p; pending = escape ∷ [] }) in
      rw leaves (record {
        sequences = (
          sequence s (take (length s.pending - 1) s.pending) (record {
            begun = begun-take s.pasting s.pending (length s.pending - 1) (omega arith) is.begun;
            some = omega (arith, n, ends.long);
            few = omega (arith, n, is.short);
          }),
          rw (is.begun.not_whole (length s.pending - 1) (omega (arith, ends.long)) (omega (arith, ends.long))) refl,
        );
        pending = subst P (sym ends.outside) (pending-escape s.asked);
        asked_is = refl;
      })
  | inr none ↦ rw none (record {
    sequences = (sequence s s.pending (begins-pending s is some), rw (is.open_yet some) refl);
    pending = pending-none s.asked s.pasting;
    asked_is = refl;
  })
]

to-same : (s : State) → IsPending s → To s [] s
to-same s is = record { sequences = refl; pending = is; asked_is = refl }

sequences-cut : (s : State) (byte : ℕ) → IsPending s → To s (option_list (cut_by s byte)) (left_by s byte)
sequences-cut s byte is = elim (cases_Bool (continues s.pasting s.pending byte)) [
  | inl on ↦ rw on (to-same s is)
  | inr cut ↦ rw cut (sequences-short s is (cut-some s.pasting s.pending byte cut))
]

-- what has as many bytes as a sequence may have is whole
whole-longest : (pasting : Bool) (bytes : List ℕ) → length bytes ≡ LONGEST → is_whole pasting bytes ≡ true
unfolding is_whole
whole-longest pasting bytes long = rw (eq-eqb (length bytes) LONGEST long) refl

sequences-whole : (s : State) (bytes : List ℕ) → Begins s.pasting bytes
    → To s (option_list (whole_of s bytes)) (after_bytes s bytes)
sequences-whole s bytes is = elim (cases_Bool (is_whole s.pasting bytes)) [
  | inl whole ↦ rw whole (record {
    sequences = (sequence s bytes is, rw whole refl);
    pending = pending-none s.asked _;
    asked_is = refl;
  })
  | inr more ↦ rw more (record {
    sequences = refl;
    pending = record {
      begun = is.begun;
      open_yet = λ h. more;
      short = elim (cases_eq (length bytes) LONGEST) [
        | inl long ↦ absurd (let whole = whole-longest s.pasting bytes long in cc)
        | inr other ↦ omega (arith, is.few, other)
      ];
    };
    asked_is = refl;
  })
]

-- what is left goes on, but for an escape where another follows
escape-off : (byte : ℕ) → continues false (escape ∷ []) byte ≡ false → byte ≡ escape
unfolding continues
escape-off byte off = grind (arith, nat_tests, off)

left-off : (s : State) (byte : ℕ) → continues (left_by s byte).pasting (left_by s byte).pending byte ≡ false
    → (byte ≡ escape) × ((left_by s byte).pasting ≡ false)
unfolding continues
left-off s byte off = elim (cases_Bool (continues s.pasting s.pending byte)) [
  | inl on ↦ absurd (let e = rw on at off in cc)
  | inr cut ↦ elim (cases_Bool (leaves_escape s.pasting s.pending)) [
    | inl leaves ↦
        let outside = (left s.pasting s.pending leaves).outside in
        (escape-off byte (rw (cut, leaves, outside) at off), rw cut outside)
    | inr none ↦ absurd (let e = rw (cut, none) at off in cc)
  ]
]

sequences-ended : (s : State) (byte : ℕ) → IsPending s
    → (continues s.pasting s.pending byte ≡ false → (byte ≡ escape) × (s.pasting ≡ false))
    → To s (option_list (ended_by s byte)) (taken_by s byte)
sequences-ended s byte is alone = elim (cases_Bool (continues s.pasting s.pending byte)) [
  | inl on ↦ rw on (sequences-whole s (s.pending ++ byte ∷ []) (record {
    begun = begun-next s.pasting s.pending byte is.begun is.open_yet on;
    some = omega (arith, length-append s.pending (byte ∷ []));
    few = omega (arith, length-append s.pending (byte ∷ []), is.short);
  }))
  | inr off ↦
      let at = alone off in
      let some = cut-some s.pasting s.pending byte off in
      rw off (record {
        sequences = (sequence s s.pending (begins-pending s is some), rw (is.open_yet some) refl);
        pending = rw (at.0, at.1) (pending-escape s.asked);
        asked_is = refl;
      })
]

all-append : (asked : Asked) (xs ys : List Item) (p q r : Bool) → AreSequences asked p xs q → AreSequences asked q ys r
    → AreSequences asked p (xs ++ ys) r
all-append asked [] ys p q r all others =
    let P : Bool → Type 0 = λ b. AreSequences asked b ys r in subst P (sym all) others
all-append asked (x ∷ xs) ys p q r all others = (all.0, all-append asked xs ys (pasting_past p x) q r all.1 others)

to-append : (s t u : State) (xs ys : List Item) → To s xs t → To t ys u → To s (xs ++ ys) u
to-append s t u xs ys one other =
    let P : Asked → Type 0 = λ a. AreSequences a t.pasting ys u.pasting in
    record {
      sequences =
          all-append s.asked xs ys s.pasting t.pasting u.pasting one.sequences (subst P one.asked_is other.sequences);
      pending = other.pending;
      asked_is = other.asked_is ∙ one.asked_is;
    }

sequences-event : (s : State) (event : Event) → IsPending s → To s (items_of s event) (state_after s event)
sequences-event s (Byte byte) is =
    let cut = sequences-cut s byte is in
    to-append s (left_by s byte) _ (option_list (cut_by s byte)) _ cut
    (sequences-ended (left_by s byte) byte cut.pending (left-off s byte))
sequences-event s Delay is = elim (cases_Bool (waits s)) [
  | inl waits ↦ rw waits (sequences-short s is (grind (arith, nat_tests, waits)))
  | inr other ↦ rw other (to-same s is)
]

sequences-fold : (asked : Asked) (events : List Event) (r : Reading) → To (start asked) r.items r.state
    → To (start asked) (fold read_event r events).items (fold read_event r events).state
sequences-fold asked [] r is = is
sequences-fold asked (event ∷ events) r is =
    sequences-fold asked events (read_event r event)
    (to-append (start asked) r.state _ r.items _ is (sequences-event r.state event is.pending))

pub sequences-reading : (asked : Asked) (events : List Event) → IsOfSequences asked (reading asked events)
sequences-reading asked events =
    let is = sequences-fold asked events (record { items = []; state = start asked })
    (to-same (start asked) (pending-none asked false)) in
    record { sequences = is.sequences; pending = is.pending; asked_is = is.asked_is }
