-- What a reader has after one more byte.
use Rattle.std.specs.Prelude.{◌≡◌, ◌+◌, ◌<◌, ◌≤◌, ◌∷◌, ◌++◌, ◌⊎◌, if◌then◌else◌}
use Rattle.ecma.specs.{rules, ℕ, Bool, true, false, List, [], length, map, Option, Some, None, inl, inr, refl, sym, ap, ◌∙◌, subst, arith, append_assoc, length-append, IsTrue, codes, join_with_byte}
use Rattle.ecma.specs.{option_and_then, cases_eq, cases_lt, ne_eqb, append-nil, length-map, map_push, digits_value_push, digit_value_digit, is_printable, Function, SGR, Printable, Control}
use Rattle.ecma.specs.{Unfinished, IsDigit, AreParameters, IsBeginning, EndsOrEscapes, final_byte, control_sequence, escape, introducer, separator, Terminal, print, effect, FailsAt, IsInProfile}
use Rattle.ecma.specs.{Leads, Parameter, parameter_of, no_digits, longer, function_of, Reader, saturating_u64, InText, InItem, InParameters, HasFailed, HasReadIn, Follows}
use Rattle.ecma.specs.declared.reader.State.{State}
use Rattle.ecma.specs.declared.reader.State.TheVariants.{Text, Escape, Parameters, Failed}
use Rattle.ecma.specs.{ltb-true, ltb-false, length-take, take_more_set}
use Rattle.ecma.proofs.Each.{each-append, each-back, each-prefix}
use Rattle.ecma.proofs.Beginnings.{NoEffect-text, NoEffect-escape, NoEffect-parameters, join-more, no-more_digits, no-more_parameters, no-colon, final-no_digit, final-no_separator}
use Rattle.ecma.proofs.Joining.{InProfile-append, LeadsWithBreaks-append, LeadsWithBreaks-in_profile, Leads-repairs, Reaches-in_profile}
use Rattle.ecma.proofs.Failing.{FailsAt-outside, FailsAt-terminal, Reaches-unique}
use Rattle.ecma.proofs.Unique.{IsInner}
use Rattle.ecma.proofs.Stopping.{NoEffect, FailsAt-leads, FailsAt-escape, FailsAt-append}

-- ---- counting

next-read : (stream : List ℕ) (byte at : ℕ) → at ≡ saturating_u64 (length stream) → saturating_u64 (at + 1) ≡ saturating_u64 (length (stream ++ byte ∷ []))
next-read stream byte at h = omega (arith, length-append stream (byte ∷ []))

-- ---- unfinished items

-- what has at least its final byte missing
sequence-begins : (parameters : List (List ℕ)) → AreParameters parameters → IsBeginning (introducer ++ join_with_byte separator parameters)
sequence-begins parameters h = record { begun = omega arith; function = SGR; parameters = parameters; missing = final_byte SGR ∷ []; well_formed = h; not_finished = omega arith; goes_on = refl }

one-empty : AreParameters ([] ∷ [])
one-empty = grind arith

escape-begins : IsBeginning (escape ∷ [])
escape-begins = record { begun = omega arith; function = SGR; parameters = [] ∷ []; missing = codes "[m"; well_formed = one-empty; not_finished = omega arith; goes_on = refl }

begun-in_profile : (unfinished : List ℕ) (t : Terminal) → IsBeginning unfinished → IsInProfile unfinished t t
begun-in_profile unfinished t h = record { items = Unfinished unfinished ∷ []; splits = grind (arith, append-nil); have_effect = refl }

pub in_item-in_profile : (stream : List ℕ) (first : Terminal) (reader : Reader) (unfinished : List ℕ) → InItem stream first reader unfinished → IsBeginning unfinished → EndsOrEscapes unfinished
    → IsInProfile stream first reader.terminal
in_item-in_profile stream first reader unfinished h begins there = grind (arith, InProfile-append, begun-in_profile)

-- ---- parameters one after another

with-digit : (ended : List (List ℕ)) (current : List ℕ) (byte : ℕ) → AreParameters (ended ++ current ∷ []) → IsDigit byte → length current < 3 → AreParameters (ended ++ (current ++ byte ∷ []) ∷ [])
with-digit ended current byte h digit few = grind (arith, length-append, each-append, each-prefix, each-back)

with-next : (parameters : List (List ℕ)) → AreParameters parameters → length parameters < 16 → AreParameters (parameters ++ [] ∷ [])
with-next parameters h few = grind (arith, length-append, each-append)

join-longer : (ended : List (List ℕ)) (current more : List ℕ) → join_with_byte 59 (ended ++ current ∷ []) ++ more ≡ join_with_byte 59 (ended ++ (current ++ more) ∷ [])
join-longer [] current more = refl
join-longer (a ∷ ended) current more = grind (arith, join-more, append_assoc, (join-longer ended current more))

join-next : (ended : List (List ℕ)) (current : List ℕ) → join_with_byte 59 (ended ++ current ∷ []) ++ 59 ∷ [] ≡ join_with_byte 59 ((ended ++ current ∷ []) ++ [] ∷ [])
join-next [] current = refl
join-next (a ∷ ended) current = grind (arith, join-more, append_assoc, (join-next ended current))

parameter_of-digit : (digits : List ℕ) (byte : ℕ) → IsDigit byte → longer (parameter_of digits) byte ≡ parameter_of (digits ++ byte ∷ [])
parameter_of-digit digits byte h = grind (arith, digits_value_push, digit_value_digit, length-append)

-- ---- final bytes

function_of-byte : (function : Function) → function_of (final_byte function) ≡ Some function
function_of-byte function = grind arith

byte-of_function : (byte : ℕ) (function : Function) → function_of byte ≡ Some function → byte ≡ final_byte function
byte-of_function byte function e = grind (arith, cases_eq, ne_eqb, function_of-byte)

-- ---- readers

-- a reader with these parts
abbrev pub reader_of : Terminal → State → List Parameter → Parameter → ℕ → ℕ → Reader
reader_of terminal state ended current read start = record { terminal = terminal; state = state; ended = ended; current = current; read = read; start = start }

-- a reader whose unfinished item goes on by a byte
goes-on : (stream : List ℕ) (first t : Terminal) (state next : State) (ended more : List Parameter) (current last : Parameter) (at start byte : ℕ) (unfinished longer : List ℕ)
    → InItem stream first (reader_of t state ended current at start) unfinished → unfinished ++ byte ∷ [] ≡ longer
    → InItem (stream ++ byte ∷ []) first (reader_of t next more last (saturating_u64 (at + 1)) start) longer
goes-on stream first t state next ended more current last at start byte unfinished longer h e = grind (arith, append_assoc, next-read)

-- an escape breaks it off
broken-off : (stream : List ℕ) (first t : Terminal) (state : State) (ended : List Parameter) (current : Parameter) (at start : ℕ) (unfinished : List ℕ)
    → InItem stream first (reader_of t state ended current at start) unfinished → IsBeginning unfinished → EndsOrEscapes unfinished
    → InItem (stream ++ 27 ∷ []) first (reader_of t Escape ended current (saturating_u64 (at + 1)) at) (escape ∷ [])
broken-off stream first t state ended current at start unfinished h begins there = grind (arith, in_item-in_profile, next-read)

-- the byte leaves no item that has an effect
fails-there : (stream : List ℕ) (first t : Terminal) (state : State) (ended : List Parameter) (current : Parameter) (at start byte : ℕ) (unfinished : List ℕ)
    → InItem stream first (reader_of t state ended current at start) unfinished → EndsOrEscapes (unfinished ++ byte ∷ []) → NoEffect (unfinished ++ byte ∷ []) t
    → HasFailed (stream ++ byte ∷ []) first t start
fails-there stream first t state ended current at start byte unfinished h there none =
    let fails = FailsAt-escape h.prefix (unfinished ++ byte ∷ []) first t h.in_profile there (omega (arith, length-append unfinished (byte ∷ []))) none in
    record { offset = length h.prefix; fails = grind (arith, append_assoc); at_is = h.start }

module _ (t : Terminal) (ended : List Parameter) (current : Parameter) (at start : ℕ) where
  -- ---- in text

  pub printed-follows : (u : Terminal) (byte : ℕ) → IsTrue (is_printable byte) → print byte t ≡ Some u
      → Follows (byte ∷ []) (reader_of t Text ended current at start) (reader_of u Text ended current (saturating_u64 (at + 1)) start)
  printed-follows u byte printable e stream first h =
      let leads : Leads (byte ∷ []) t u = record { items = Printable byte ∷ []; splits = ([], refl, printable, tt, refl); finished = (tt, tt); have_effect = rw e refl } in
      grind (arith, LeadsWithBreaks-append, next-read)

  pub unprinted-follows : (byte : ℕ) → (byte ≡ 27 → ⊥) → (IsTrue (is_printable byte) → print byte t ≡ None)
      → Follows (byte ∷ []) (reader_of t Text ended current at start) (reader_of t Failed ended current (saturating_u64 (at + 1)) at)
  unprinted-follows byte other none stream first h = search (rules, FailsAt-leads, NoEffect-text)

  -- ---- after an escape

  pub escape-follows : Follows (27 ∷ []) (reader_of t Escape ended current at start) (reader_of t Escape ended current (saturating_u64 (at + 1)) at)
  escape-follows stream first h = broken-off stream first t Escape ended current at start (escape ∷ []) h escape-begins refl

  pub bracket-follows : Follows (91 ∷ []) (reader_of t Escape ended current at start) (reader_of t Parameters [] no_digits (saturating_u64 (at + 1)) start)
  bracket-follows stream first h = record { ended = []; current = []; well_formed = one-empty; in_item = grind (arith, goes-on); ended_kept = refl; current_kept = refl }

  pub other-follows : (byte : ℕ) → (byte ≡ 27 → ⊥) → (byte ≡ 91 → ⊥)
      → Follows (byte ∷ []) (reader_of t Escape ended current at start) (reader_of t Failed ended current (saturating_u64 (at + 1)) start)
  other-follows byte other no_bracket stream first h = search (rules, fails-there, NoEffect-escape)

  -- ---- within parameters

  pub broken-follows : Follows (27 ∷ []) (reader_of t Parameters ended current at start) (reader_of t Escape ended current (saturating_u64 (at + 1)) at)
  broken-follows stream first h = grind (arith, broken-off, sequence-begins)

  pub digit-follows : (byte : ℕ) → IsDigit byte → current.digits < 3 → Follows (byte ∷ []) (reader_of t Parameters ended current at start)
      (reader_of t Parameters ended (longer current byte) (saturating_u64 (at + 1)) start)
  digit-follows byte digit few stream first h = record {
    ended = h.ended;
    current = h.current ++ byte ∷ [];
    well_formed = with-digit h.ended h.current byte h.well_formed digit (grind arith);
    in_item = grind (arith, goes-on, join-longer);
    ended_kept = h.ended_kept;
    current_kept = grind (arith, parameter_of-digit);
  }

  fails-here : (stream : List ℕ) (first : Terminal) (byte : ℕ) (h : InParameters stream first (reader_of t Parameters ended current at start)) → (byte ≡ 27 → ⊥)
      → (IsBeginning (27 ∷ 91 ∷ (join_with_byte 59 (h.ended ++ h.current ∷ []) ++ byte ∷ [])) → ⊥)
      → ((function : Function) → byte ≡ final_byte function → effect (Control function (h.ended ++ h.current ∷ [])) t ≡ None)
      → HasFailed (stream ++ byte ∷ []) first t start
  fails-here stream first byte h other stops ends = search (rules, fails-there, NoEffect-parameters)

  pub full-follows : (byte : ℕ) → IsDigit byte → 3 ≤ current.digits
      → Follows (byte ∷ []) (reader_of t Parameters ended current at start) (reader_of t Failed ended current (saturating_u64 (at + 1)) start)
  full-follows byte digit full stream first h =
      let long : current.digits ≡ length h.current = ap (λ (p : Parameter). p.digits) h.current_kept in
      fails-here stream first byte h (λ e. omega (arith, digit.0)) (no-more_digits h.ended h.current byte h.well_formed digit (omega arith))
      (λ function e. absurd (final-no_digit function (subst IsDigit e digit)))

  pub separator-follows : length ended < 15
      → Follows (59 ∷ []) (reader_of t Parameters ended current at start) (reader_of t Parameters (ended ++ current ∷ []) no_digits (saturating_u64 (at + 1)) start)
  separator-follows few stream first h =
      let kept : length ended ≡ length h.ended = ap length h.ended_kept ∙ length-map h.ended parameter_of in
      let both : ended ++ current ∷ [] ≡ map parameter_of (h.ended ++ h.current ∷ []) =
      ap (λ (ps : List Parameter). ps ++ current ∷ []) h.ended_kept ∙ ap (λ (p : Parameter). map parameter_of h.ended ++ p ∷ []) h.current_kept ∙ sym (map_push parameter_of h.ended h.current) in
      record {
        ended = h.ended ++ h.current ∷ [];
        current = [];
        well_formed = with-next (h.ended ++ h.current ∷ []) h.well_formed (omega (arith, length-append h.ended (h.current ∷ [])));
        in_item = goes-on stream first t Parameters Parameters ended (ended ++ current ∷ []) current no_digits at start 59 (introducer ++ join_with_byte separator (h.ended ++ h.current ∷ []))
            (introducer ++ join_with_byte separator ((h.ended ++ h.current ∷ []) ++ [] ∷ [])) h.in_item (ap (λ (bytes : List ℕ). 27 ∷ 91 ∷ bytes) (join-next h.ended h.current));
        ended_kept = both;
        current_kept = refl;
      }

  pub too_many-follows : 15 ≤ length ended → Follows (59 ∷ []) (reader_of t Parameters ended current at start) (reader_of t Failed ended current (saturating_u64 (at + 1)) start)
  too_many-follows full stream first h = grind (arith, length-map, fails-here, no-more_parameters, final-no_separator)

  -- what a byte does as a final one
  abbrev pub Ends : ℕ → Option Terminal → Type 0
  Ends byte after = (digits : List (List ℕ)) → map parameter_of digits ≡ ended ++ current ∷ [] → after ≡ option_and_then (λ function. effect (Control function digits) t) (function_of byte)

  ends-at : (stream : List ℕ) (first : Terminal) (byte : ℕ) (after : Option Terminal) (h : InParameters stream first (reader_of t Parameters ended current at start)) → Ends byte after
      → after ≡ option_and_then (λ function. effect (Control function (h.ended ++ h.current ∷ [])) t) (function_of byte)
  ends-at stream first byte after h ends = ends (h.ended ++ h.current ∷ []) (grind (arith, map_push))

  finished : (stream : List ℕ) (first u : Terminal) (byte : ℕ) (function : Function) (h : InParameters stream first (reader_of t Parameters ended current at start))
      → byte ≡ final_byte function → effect (Control function (h.ended ++ h.current ∷ [])) t ≡ Some u
      → InText (stream ++ byte ∷ []) first (reader_of u Text ended current (saturating_u64 (at + 1)) start)
  finished stream first u byte function h is e =
      let ps = h.ended ++ h.current ∷ [] in
      let sequence = control_sequence function (join_with_byte separator ps) in
      let leads : Leads sequence t u = record { items = Control function ps ∷ []; splits = ([], sym (append-nil sequence), h.well_formed, tt, refl); finished = (tt, tt); have_effect = rw e refl } in
      let repaired = Leads-repairs h.in_item.prefix sequence first t u h.in_item.in_profile leads (omega arith) refl in
      grind (arith, append_assoc, next-read)

  pub ending-follows : (u : Terminal) (byte : ℕ) → Ends byte (Some u)
      → Follows (byte ∷ []) (reader_of t Parameters ended current at start) (reader_of u Text ended current (saturating_u64 (at + 1)) start)
  ending-follows u byte ends stream first h = by_function (function_of byte) refl where
    by_function : (o : Option Function) → function_of byte ≡ o → InText (stream ++ byte ∷ []) first (reader_of u Text ended current (saturating_u64 (at + 1)) start)
    by_function None is =
        let never : ◌≡◌ {A = Option Terminal} (Some u) None = ends-at stream first byte (Some u) h ends
        ∙ ap (option_and_then (λ function. effect (Control function (h.ended ++ h.current ∷ [])) t)) is in absurd cc
    by_function (Some function) is =
        finished stream first u byte function h (byte-of_function byte function is)
        (sym (ends-at stream first byte (Some u) h ends ∙ ap (option_and_then (λ function. effect (Control function (h.ended ++ h.current ∷ [])) t)) is))

  pub no_end-follows : (byte : ℕ) → (byte ≡ 27 → ⊥) → (IsDigit byte → ⊥) → (byte ≡ 59 → ⊥) → Ends byte None
      → Follows (byte ∷ []) (reader_of t Parameters ended current at start) (reader_of t Failed ended current (saturating_u64 (at + 1)) start)
  no_end-follows byte other no_digit no_separator ends stream first h =
      fails-there stream first t Parameters ended current at start byte (introducer ++ join_with_byte separator (h.ended ++ h.current ∷ [])) h.in_item refl
      (NoEffect-parameters (h.ended ++ h.current ∷ []) byte t h.well_formed other stops
      (λ function is. sym (ends-at stream first byte None h ends ∙ ap (option_and_then (λ function. effect (Control function (h.ended ++ h.current ∷ [])) t))
      (ap function_of is ∙ function_of-byte function)))) where
        stops : IsInner byte → IsBeginning (27 ∷ 91 ∷ (join_with_byte 59 (h.ended ++ h.current ∷ []) ++ byte ∷ [])) → ⊥
        stops inner begins = elim (cases_lt 57 byte) [
          | inl beyond ↦
              let no_end : byte ≡ 59 → ⊥ = no_separator in
              let colon : byte ≡ 58 = omega (arith, inner.1) in
              no-colon (join_with_byte 59 (h.ended ++ h.current ∷ [])) (subst (λ (b : ℕ). IsBeginning (27 ∷ 91 ∷ (join_with_byte 59 (h.ended ++ h.current ∷ []) ++ b ∷ []))) colon begins)
          | inr to ↦ no_digit (inner.0, to)
        ]

-- ---- once failed

pub failed-follows : (old new : Reader) (bytes : List ℕ) → old.state ≡ Failed → new.state ≡ Failed → new.terminal ≡ old.terminal → new.start ≡ old.start → Follows bytes old new
failed-follows old new bytes old-is new-is same-terminal same-start stream first h =
    let before : HasFailed stream first old.terminal old.start = subst (λ (state : State). HasReadIn state stream first old) old-is h in
    let after : HasFailed (stream ++ bytes) first new.terminal new.start = record {
      offset = before.offset;
      fails = subst (λ (t : Terminal). FailsAt (stream ++ bytes) first before.offset t) (sym same-terminal) (FailsAt-append stream bytes before.offset first old.terminal before.fails);
      at_is = same-start ∙ before.at_is;
    } in
    subst (λ (state : State). HasReadIn state (stream ++ bytes) first new) (sym new-is) after

-- ---- one after another

pub Follows-from : (old new after : Reader) (state : State) (at byte is : ℕ) → old.state ≡ state → new ≡ after → byte ≡ is
    → Follows (is ∷ []) (reader_of old.terminal state old.ended old.current at old.start) after → Follows (byte ∷ []) (record old { read = at }) new
Follows-from old new after state at byte is known to same h = grind arith

-- ---- what a reader answers

pub reader-in_profile : (stream : List ℕ) (first : Terminal) (reader : Reader) → (reader.state ≡ Failed → ⊥) → HasReadIn reader.state stream first reader → IsInProfile stream first reader.terminal
reader-in_profile stream first reader not_failed h = by_state reader.state refl h where
  by_state : (state : State) → reader.state ≡ state → HasReadIn state stream first reader → IsInProfile stream first reader.terminal
  by_state Text is h = LeadsWithBreaks-in_profile stream first reader.terminal h.leads
  by_state Escape is h = in_item-in_profile stream first reader (escape ∷ []) h escape-begins refl
  by_state Parameters is h =
      in_item-in_profile stream first reader (introducer ++ join_with_byte separator (h.ended ++ h.current ∷ [])) h.in_item (sequence-begins (h.ended ++ h.current ∷ []) h.well_formed) refl
  by_state Failed is h = absurd (not_failed is)

-- ---- one stream, one terminal

in_profile-unique : (stream : List ℕ) (t u v : Terminal) → IsInProfile stream t u → IsInProfile stream t v → u ≡ v
in_profile-unique stream t u v h k = Reaches-unique stream (length stream) t u v (Reaches-in_profile stream t u h) (Reaches-in_profile stream t v k)

abbrev Fate : List ℕ → Terminal → Reader → Type 0
Fate stream first reader = IsInProfile stream first reader.terminal ⊎ HasFailed stream first reader.terminal reader.start

fate : (stream : List ℕ) (first : Terminal) (reader : Reader) → HasReadIn reader.state stream first reader → Fate stream first reader
fate stream first reader h = grind (arith, reader-in_profile)

pub one-terminal_shown : (stream : List ℕ) (first : Terminal) (one other : Reader) → HasReadIn one.state stream first one → HasReadIn other.state stream first other → one.terminal ≡ other.terminal
one-terminal_shown stream first one other h k = elim (fate stream first one h) [
  | inl good ↦ elim (fate stream first other k) [
    | inl fine ↦ in_profile-unique stream first one.terminal other.terminal good fine
    | inr failed ↦ absurd (FailsAt-outside stream failed.offset first other.terminal one.terminal failed.fails good)
  ]
  | inr failed ↦ elim (fate stream first other k) [
    | inl fine ↦ absurd (FailsAt-outside stream failed.offset first one.terminal other.terminal failed.fails fine)
    | inr too ↦ FailsAt-terminal stream failed.offset too.offset first one.terminal other.terminal failed.fails too.fails
  ]
]

-- ---- what calls answer

pub when-true : {A : Type 0} (b p : Bool) (x : A) (o : Option A) → b ≡ true → (let one : Option A = if b then Some x else None in one) ≡ (let other : Option A = if p then o else None in other)
    → (p ≡ true) × (o ≡ Some x)
when-true b p x o h e = grind arith

pub when-false : {A : Type 0} (b p : Bool) (x : A) (o : Option A) → b ≡ false → (let one : Option A = if b then Some x else None in one) ≡ (let other : Option A = if p then o else None in other)
    → p ≡ true → o ≡ None
when-false b p x o h e k = grind arith

-- what each way to read a byte rests on
pub ruleset in_escape = (Follows-from, reader_of, escape-follows, bracket-follows, other-follows)

pub ruleset in_digits = (Follows-from, reader_of, digit-follows, full-follows, ltb-true, ltb-false)

pub ruleset at_separator = (Follows-from, reader_of, separator-follows, too_many-follows, length-take, take_more_set)

pub ruleset otherwise = (Follows-from, reader_of, broken-follows, failed-follows, reader-in_profile)
