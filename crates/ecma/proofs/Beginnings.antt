-- What continues a control sequence, and what doesn't.
use Rattle.std.specs.Prelude.{◌≡◌, ◌+◌, ◌<◌, ◌≤◌, ◌∷◌, ◌++◌, ◌⊎◌}
use Rattle.ecma.specs.{ℕ, List, [], length, None, inl, inr, refl, ◌∙◌, subst, arith, append_assoc, IsTrue, AllByRecursion, join_with_byte, append-nil, is_printable, Function, Item, Printable}
use Rattle.ecma.specs.{Control, Unfinished, IsDigit, AreParameters, IsBeginning, IsItem, MayPrecede, EndsOrEscapes, bytes_of, final_byte, introducer, Terminal, print, effect}
use Rattle.ecma.proofs.Each.{each-append, each-back, each-prefix}
use Rattle.ecma.proofs.Printing.{from_space}
use Rattle.ecma.proofs.Stopping.{NoEffect}
use Rattle.ecma.proofs.Unique.{IsInner, Stops, cut, joined-each, joined-inner, final-stops, not-digit, not-escape, shape-of, same-parameters}

-- ---- in text

escape-first : (byte : ℕ) (q following : List ℕ) → IsBeginning q → byte ∷ [] ≡ q ++ following → byte ≡ 27
escape-first byte q following h e = let begins = shape-of q h in grind arith

pub NoEffect-text : (byte : ℕ) (t : Terminal) → (byte ≡ 27 → ⊥) → (IsTrue (is_printable byte) → print byte t ≡ None) → NoEffect (byte ∷ []) t
NoEffect-text byte t other prints = grind (arith, escape-first)

-- ---- after an escape

pub NoEffect-escape : (byte : ℕ) (t : Terminal) → (byte ≡ 27 → ⊥) → (byte ≡ 91 → ⊥) → NoEffect (27 ∷ byte ∷ []) t
NoEffect-escape byte t other no_bracket = record { each = none } where
  none : (item : Item) (following : List ℕ) → 27 ∷ byte ∷ [] ≡ bytes_of item ++ following → IsItem item → MayPrecede item following → effect item t ≡ None
  none (Printable c) following e is p = absurd (let same : 27 ≡ c = cc in omega (arith, from_space c is))
  none (Control function parameters) following e is p = absurd (let same : byte ≡ 91 = cc in no_bracket same)
  none (Unfinished q) following e is p = let begins = shape-of q is in grind (arith, not-escape)

-- ---- within parameters

is_inner : (byte : ℕ) → IsInner byte ⊎ (IsInner byte → ⊥)
is_inner byte = grind arith

same-joined : (ps qs : List (List ℕ)) → AreParameters ps → AreParameters qs → join_with_byte 59 ps ≡ join_with_byte 59 qs → ps ≡ qs
same-joined [] qs h k e = grind arith
same-joined (a ∷ ps) [] h k e = grind arith
same-joined (a ∷ ps) (b ∷ qs) h k e = same-parameters a ps b qs h.digits k.digits e

module _ (ps : List (List ℕ)) (byte : ℕ) (t : Terminal) (h : AreParameters ps) (other : byte ≡ 27 → ⊥) where
  all-inner : IsInner byte → AllByRecursion IsInner (join_with_byte 59 ps ++ byte ∷ [])
  all-inner inner = each-append IsInner (join_with_byte 59 ps) (byte ∷ []) (joined-inner ps h.digits) (inner, tt)

  -- no control sequence ends before the byte, and one that ends with it has these parameters
  none-control : (function : Function) (qs : List (List ℕ)) (following : List ℕ) → AreParameters qs
      → join_with_byte 59 ps ++ byte ∷ [] ≡ (join_with_byte 59 qs ++ final_byte function ∷ []) ++ following
      → (byte ≡ final_byte function → effect (Control function ps) t ≡ None) → effect (Control function qs) t ≡ None
  none-control function qs following k e none = elim (is_inner byte) [
    | inl inner ↦
        let all : AllByRecursion IsInner ((join_with_byte 59 qs ++ final_byte function ∷ []) ++ following) = subst (λ (bytes : List ℕ). AllByRecursion IsInner bytes) e (all-inner inner) in
        let last = each-back IsInner (join_with_byte 59 qs) (final_byte function ∷ []) (each-prefix IsInner (join_with_byte 59 qs ++ final_byte function ∷ []) following all) in
        absurd (final-stops function [] last.0)
    | inr stops ↦
        let both = cut IsInner (join_with_byte 59 ps) (join_with_byte 59 qs) (byte ∷ []) (final_byte function ∷ following) (joined-inner ps h.digits) (joined-inner qs k.digits) stops
        (final-stops function following)
        (e ∙ append_assoc (join_with_byte 59 qs) (final_byte function ∷ []) following) in
        let after : byte ∷ [] ≡ final_byte function ∷ following = both.second in
        let final : byte ≡ final_byte function = cc in
        subst (λ (parameters : List (List ℕ)). effect (Control function parameters) t ≡ None) (same-joined ps qs h k both.first) (none final)
  ]

  none-begun : (inner following : List ℕ) → AllByRecursion IsInner inner → EndsOrEscapes following → IsBeginning (27 ∷ 91 ∷ inner) → join_with_byte 59 ps ++ byte ∷ [] ≡ inner ++ following
      → (IsInner byte → IsBeginning (27 ∷ 91 ∷ (join_with_byte 59 ps ++ byte ∷ [])) → ⊥) → ⊥
  none-begun inner [] each there begins e goes_on = grind (arith, append-nil, (each-back IsInner (join_with_byte 59 ps) (byte ∷ [])))
  none-begun inner (x ∷ following) each there begins e goes_on =
      grind (arith, is_inner, all-inner, (each-back IsInner inner (x ∷ following)), (cut IsInner (join_with_byte 59 ps) inner (byte ∷ []) (x ∷ following)), joined-inner)

  pub NoEffect-parameters : (IsInner byte → IsBeginning (27 ∷ 91 ∷ (join_with_byte 59 ps ++ byte ∷ [])) → ⊥)
      → ((function : Function) → byte ≡ final_byte function → effect (Control function ps) t ≡ None)
      → NoEffect ((introducer ++ join_with_byte 59 ps) ++ byte ∷ []) t
  NoEffect-parameters goes_on ends = record { each = none } where
    none : (item : Item) (following : List ℕ) → 27 ∷ 91 ∷ (join_with_byte 59 ps ++ byte ∷ []) ≡ bytes_of item ++ following → IsItem item → MayPrecede item following → effect item t ≡ None
    none (Printable c) following e is p = grind (arith, from_space)
    none (Control function parameters) following e is p =
        let after : join_with_byte 59 ps ++ byte ∷ [] ≡ (join_with_byte 59 parameters ++ final_byte function ∷ []) ++ following = cc in
        none-control function parameters following is after (ends function)
    none (Unfinished q) following e is p = let begins = shape-of q is in grind (arith, not-escape, none-begun)

-- ---- too many digits, and too many parameters

digits-longer : (a : List ℕ) (byte : ℕ) (missing q stop : List ℕ) → IsDigit byte → Stops IsDigit stop → a ++ byte ∷ missing ≡ q ++ stop → AllByRecursion IsDigit a → length a < length q
digits-longer [] byte missing [] stop digit stops e h = grind arith
digits-longer [] byte missing (y ∷ q) stop digit stops e h = omega arith
digits-longer (x ∷ a) byte missing [] stop digit stops e h = grind arith
digits-longer (x ∷ a) byte missing (y ∷ q) stop digit stops e h = grind (arith, (digits-longer a byte missing q stop digit stops))

pub final-no_digit : (function : Function) → IsDigit (final_byte function) → ⊥
final-no_digit function h = grind arith

pub final-no_separator : (function : Function) → 59 ≡ final_byte function → ⊥
final-no_separator function e = grind arith

-- after its first parameter, which a separator ends, a sequence has others
record Others (qs : List (List ℕ)) (function : Function) (bytes : List ℕ) : Type 0 where
  first : List ℕ
  rest : List (List ℕ)
  is : ◌≡◌ {A = List (List ℕ)} qs (first ∷ rest)
  some : 1 ≤ length rest
  after : bytes ≡ join_with_byte 59 rest ++ final_byte function ∷ []

others : (a bytes : List ℕ) (qs : List (List ℕ)) (function : Function) → AllByRecursion IsDigit a → AllByRecursion (AllByRecursion IsDigit) qs → 1 ≤ length qs
    → a ++ 59 ∷ bytes ≡ join_with_byte 59 qs ++ final_byte function ∷ [] → Others qs function bytes
others a bytes [] function h k one e = absurd (omega arith)
others a bytes (q ∷ []) function h k one e = grind (arith, not-digit, final-no_digit, (cut IsDigit a q (59 ∷ bytes) (final_byte function ∷ [])))
others a bytes (q ∷ r ∷ qs) function h k one e = grind (arith, not-digit, append_assoc, (cut IsDigit a q (59 ∷ bytes) (59 ∷ (join_with_byte 59 (r ∷ qs) ++ final_byte function ∷ []))))

pub join-more : (a : List ℕ) (ended : List (List ℕ)) (current : List ℕ) → join_with_byte 59 (a ∷ (ended ++ current ∷ [])) ≡ a ++ 59 ∷ join_with_byte 59 (ended ++ current ∷ [])
join-more a [] current = refl
join-more a (b ∷ ended) current = refl

abbrev pub AreDigits : List (List ℕ) → Type 0
AreDigits parameters = AllByRecursion (AllByRecursion IsDigit) parameters

abbrev pub AreShort : List (List ℕ) → Type 0
AreShort parameters = AllByRecursion (λ digits. length digits ≤ 3) parameters

current-first : (current : List ℕ) (byte : ℕ) (missing : List ℕ) (qs : List (List ℕ)) (function : Function) → AllByRecursion IsDigit current → AreShort qs → 1 ≤ length qs → IsDigit byte
    → current ++ byte ∷ missing ≡ join_with_byte 59 qs ++ final_byte function ∷ [] → length current < 3
current-first current byte missing [] function h short one digit e = absurd (omega arith)
current-first current byte missing (q ∷ []) function h short one digit e = omega (arith, short.0, digits-longer current byte missing q (final_byte function ∷ []) digit (final-no_digit function) e h)
current-first current byte missing (q ∷ r ∷ qs) function h short one digit e =
    grind (arith, (digits-longer current byte missing q (59 ∷ (join_with_byte 59 (r ∷ qs) ++ final_byte function ∷ []))), not-digit, append_assoc)

current-short : (ended : List (List ℕ)) (current : List ℕ) (byte : ℕ) (missing : List ℕ) (qs : List (List ℕ)) (function : Function) → AreDigits (ended ++ current ∷ []) → AreDigits qs → AreShort qs
    → 1 ≤ length qs → IsDigit byte
    → join_with_byte 59 (ended ++ current ∷ []) ++ byte ∷ missing ≡ join_with_byte 59 qs ++ final_byte function ∷ [] → length current < 3
current-short [] current byte missing qs function h k short one digit e = current-first current byte missing qs function h.0 short one digit e
current-short (a ∷ ended) current byte missing qs function h k short one digit e =
    let next = others a (join_with_byte 59 (ended ++ current ∷ []) ++ byte ∷ missing) qs function h.0 k one (grind (arith, append_assoc, join-more)) in
    grind (arith, (current-short ended current byte missing next.rest function))

ended-few : (ended : List (List ℕ)) (current : List ℕ) (missing : List ℕ) (qs : List (List ℕ)) (function : Function) → AreDigits (ended ++ current ∷ []) → AreDigits qs → 1 ≤ length qs
    → join_with_byte 59 (ended ++ current ∷ []) ++ 59 ∷ missing ≡ join_with_byte 59 qs ++ final_byte function ∷ [] → length ended + 2 ≤ length qs
ended-few [] current missing qs function h k one e = let next = others current missing qs function h.0 k one e in grind arith
ended-few (a ∷ ended) current missing qs function h k one e =
    grind (arith, (others a (join_with_byte 59 (ended ++ current ∷ []) ++ 59 ∷ missing)), append_assoc, join-more, (ended-few ended current missing))

pub no-more_digits : (ended : List (List ℕ)) (current : List ℕ) (byte : ℕ) → AreParameters (ended ++ current ∷ []) → IsDigit byte → 3 ≤ length current
    → IsBeginning (27 ∷ 91 ∷ (join_with_byte 59 (ended ++ current ∷ []) ++ byte ∷ [])) → ⊥
no-more_digits ended current byte h digit full begins = grind (arith, current-short, append_assoc)

pub no-more_parameters : (ended : List (List ℕ)) (current : List ℕ) → AreParameters (ended ++ current ∷ []) → 15 ≤ length ended
    → IsBeginning (27 ∷ 91 ∷ (join_with_byte 59 (ended ++ current ∷ []) ++ 59 ∷ [])) → ⊥
no-more_parameters ended current h full begins = grind (arith, ended-few, append_assoc)

-- ---- a byte that no parameters have

abbrev NoColon : List ℕ → Type 0
NoColon bytes = AllByRecursion (λ byte. byte ≡ 58 → ⊥) bytes

joined-no_colon : (parameters : List (List ℕ)) → AreDigits parameters → NoColon (join_with_byte 59 parameters)
joined-no_colon = joined-each (λ byte. byte ≡ 58 → ⊥) (λ e. omega (arith, e)) (λ digit h e. omega (arith, h.1, e))

no-colon_after : (prefix missing : List ℕ) → NoColon (prefix ++ 58 ∷ missing) → ⊥
no-colon_after [] missing h = h.0 refl
no-colon_after (byte ∷ prefix) missing h = no-colon_after prefix missing h.1

pub no-colon : (prefix : List ℕ) → IsBeginning (27 ∷ 91 ∷ (prefix ++ 58 ∷ [])) → ⊥
no-colon prefix begins = grind (arith, each-append, joined-no_colon, no-colon_after, append_assoc)
