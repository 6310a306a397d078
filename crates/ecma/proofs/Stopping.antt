-- Where no item with an effect begins, the stream fails, whatever follows.
use Rattle.std.specs.Prelude.{◌≡◌, ◌+◌, ◌-◌, ◌<◌, ◌≤◌, ◌∷◌, ◌++◌}
use Rattle.ecma.specs.{ℕ, List, [], length, Option, Some, None, inl, inr, refl, sym, ap, ◌∙◌, subst, arith, append_assoc, length-append, rules, cases_lt, append-nil, Item, Printable, Control}
use Rattle.ecma.specs.{Unfinished, IsItem, IsBeginning, bytes_of, MayPrecede, EndsOrEscapes, Splits, Terminal, effect, effects, FailsAt, IsInProfile, LeadsWithBreaks}
use Rattle.ecma.proofs.Joining.{MayPrecede-then, Splits_some, bytes_of_some, effects_first, effects-then, effects-append, Splits-append, Splits-then_escape, Splits-ends_then}
use Rattle.ecma.proofs.Unique.{Splits-prefix}

-- no item at the start of these bytes has an effect on the terminal
pub record NoEffect (bytes : List ℕ) (t : Terminal) : Type 0 where
  pub each : (item : Item) (following : List ℕ) → bytes ≡ bytes_of item ++ following → IsItem item → MayPrecede item following → effect item t ≡ None

reaches_less : (rest : List ℕ) (more : List Item) (left : List ℕ) (last u : Terminal) → NoEffect rest last → Splits rest more left → effects more last ≡ Some u → length left < length rest → ⊥
reaches_less rest [] left last u none h e less = grind arith
reaches_less rest (item ∷ more) left last u none h e less = grind (arith, effects_first)

-- the stream fails at what is left of it
pub FailsAt-rest : (stream : List ℕ) (items : List Item) (rest : List ℕ) (offset : ℕ) (first last : Terminal) → Splits stream items rest → effects items first ≡ Some last
    → offset + length rest ≡ length stream → 0 < length rest → NoEffect rest last → FailsAt stream first offset last
FailsAt-rest stream items rest offset first last h e at some none = grind (arith, cases_lt, Splits-prefix, reaches_less, effects-append)

-- ---- failing at once

-- after items of which the last is finished
pub FailsAt-leads : (stream : List ℕ) (byte : ℕ) (first last : Terminal) → LeadsWithBreaks stream first last → NoEffect (byte ∷ []) last → FailsAt (stream ++ byte ∷ []) first (length stream) last
FailsAt-leads stream byte first last h none = search (rules, FailsAt-rest, Splits-ends_then, length-append)

-- where an escape begins what has no effect
pub FailsAt-escape : (prefix rest : List ℕ) (first last : Terminal) → IsInProfile prefix first last → EndsOrEscapes rest → 0 < length rest → NoEffect rest last
    → FailsAt (prefix ++ rest) first (length prefix) last
FailsAt-escape prefix rest first last h there some none =
    FailsAt-rest (prefix ++ rest) h.items rest (length prefix) first last (Splits-then_escape prefix h.items [] rest h.splits there) h.have_effect
    (sym (length-append prefix rest)) some none

-- ---- once failed, always failed

record Split (a b c d : List ℕ) : Type 0 where
  between : List ℕ
  long : a ≡ c ++ between
  after : d ≡ between ++ b

-- of two prefixes of one text the longer goes on from the shorter
split : (a b c d : List ℕ) → a ++ b ≡ c ++ d → length c ≤ length a → Split a b c d
split a b [] d e h = grind arith
split [] b (y ∷ c) d e h = grind arith
split (x ∷ a) b (y ∷ c) d e h = grind (arith, (split a b c d))

MayPrecede-prefix : (item : Item) (bytes more : List ℕ) → MayPrecede item (bytes ++ more) → MayPrecede item bytes
MayPrecede-prefix item bytes more h = grind arith

-- what is shorter than an item is one itself
beginning-of : (rest missing : List ℕ) (item : Item) → 0 < length rest → 0 < length missing → IsItem item → rest ++ missing ≡ bytes_of item → IsBeginning rest
beginning-of rest missing (Printable byte) some more h e = let long : length (rest ++ missing) ≡ 1 = ap length e in grind (arith, length-append)
beginning-of rest missing (Control function parameters) some more h e = grind arith
beginning-of rest missing (Unfinished begun) some more h e = grind (arith, length-append, append_assoc)

NoEffect-append : (rest more : List ℕ) (t : Terminal) → 0 < length rest → NoEffect rest t → NoEffect (rest ++ more) t
NoEffect-append rest more t some none = record {
  each = λ item following e h p. elim (cases_lt (length rest) (length (bytes_of item))) [
    | inl longer ↦
        let parts = split (bytes_of item) following rest more (sym e) (omega arith) in
        let long : length (bytes_of item) ≡ length rest + length parts.between = ap length parts.long ∙ length-append rest parts.between in
        let begins = beginning-of rest parts.between item some (omega arith) h (sym parts.long) in
        let never : ◌≡◌ {A = Option Terminal} (Some t) None = none.each (Unfinished rest) [] (sym (append-nil rest)) begins tt in
        absurd cc
    | inr le ↦
        let parts = split rest more (bytes_of item) following e le in
        none.each item parts.between parts.long h (MayPrecede-prefix item parts.between more (subst (λ (back : List ℕ). MayPrecede item back) parts.after p))
  ];
}

Splits-more : (bytes : List ℕ) (items : List Item) (rest more : List ℕ) → 0 < length rest → Splits bytes items rest → Splits (bytes ++ more) items (rest ++ more)
Splits-more bytes [] rest more some h = grind arith
Splits-more bytes (item ∷ items) rest more some h = (
  h.0 ++ more,
  ap (λ (prefix : List ℕ). prefix ++ more) h.1 ∙ append_assoc (bytes_of item) h.0 more,
  h.2,
  MayPrecede-then item h.0 more
      (Splits-some h.0 items rest some h.4) h.3,
  Splits-more h.0 items rest more some h.4,
) where
  Splits-some : (bytes : List ℕ) (items : List Item) (rest : List ℕ) → 0 < length rest → Splits bytes items rest → 0 < length bytes
  Splits-some bytes [] rest some h = grind arith
  Splits-some bytes (item ∷ items) rest some h = Splits_some bytes item items rest h

-- nothing beyond the failure has an effect
NoEffect-failed : (stream : List ℕ) (offset : ℕ) (first last : Terminal) (h : FailsAt stream first offset last) → NoEffect h.reaches.rest last
NoEffect-failed stream offset first last h = record {
  each = λ item following e is p. none_from item following (Splits-append stream h.reaches.items h.reaches.rest (item ∷ []) following h.reaches.splits (following, e, is, p, refl))
      (let long : length h.reaches.rest ≡ length (bytes_of item) + length following = ap length e ∙ length-append (bytes_of item) following in
      let at = h.reaches.at in let some = bytes_of_some item is in omega arith)
      (effect item last) refl;
} where
  none_from : (item : Item) (following : List ℕ) → Splits stream (h.reaches.items ++ item ∷ []) following → offset + length following < length stream → (o : Option Terminal) → effect item last ≡ o
      → o ≡ None
  none_from item following splits less None e = refl
  none_from item following splits less (Some u) e =
      absurd (let beyond = h.greatest (length stream - length following) u (record {
        items = h.reaches.items ++ item ∷ [];
        rest = following;
        splits = splits;
        at = omega arith;
        have_effect = effects-then h.reaches.items (item ∷ []) first last u h.reaches.have_effect (rw e refl);
      }) in omega arith)

pub FailsAt-append : (stream more : List ℕ) (offset : ℕ) (first last : Terminal) → FailsAt stream first offset last → FailsAt (stream ++ more) first offset last
FailsAt-append stream more offset first last h =
    let at = h.reaches.at in
    let short = h.short in
    let some : 0 < length h.reaches.rest = omega arith in
    FailsAt-rest (stream ++ more) h.reaches.items (h.reaches.rest ++ more) offset first last (Splits-more stream h.reaches.items h.reaches.rest more some h.reaches.splits) h.reaches.have_effect
    (omega (arith, length-append h.reaches.rest more, length-append stream more))
    (omega (arith, length-append h.reaches.rest more))
    (NoEffect-append h.reaches.rest more last some (NoEffect-failed stream offset first last h))
