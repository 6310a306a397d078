-- A stream is one sequence of items at most, and so is each prefix of it.
use Rattle.std.specs.Prelude.{◌≡◌, ◌<◌, ◌≤◌, ◌∷◌, ◌++◌, ◌⊎◌}
use Rattle.ecma.specs.{ℕ, List, [], length, refl, ap, arith, append_assoc, length-append, inl, inr, ⊤, append-nil, AllByRecursion, join_with_byte, Function, Item, Control, Unfinished, IsDigit}
use Rattle.ecma.specs.{AreParameters, IsBeginning, IsItem, MayPrecede, EndsOrEscapes, Splits, final_byte, bytes_of}
use Rattle.ecma.proofs.Each.{each-append, each-weaker}
use Rattle.ecma.proofs.Joining.{bytes_of_some}
use Rattle.ecma.proofs.Printing.{from_space}

-- a digit or a semicolon
abbrev pub IsInner : ℕ → Type 0
IsInner byte = (48 ≤ byte) × (byte ≤ 59)

pub record Same (a b f g : List ℕ) : Type 0 where
  pub first : a ≡ b
  pub second : f ≡ g

-- nothing follows that has P
abbrev pub Stops : (ℕ → Type 0) → List ℕ → Type 0
Stops P [] = ⊤
Stops P (byte ∷ bytes) = P byte → ⊥

-- two texts of bytes that have P before a stop are one
pub cut : (P : ℕ → Type 0) (a b f g : List ℕ) → AllByRecursion P a → AllByRecursion P b → Stops P f → Stops P g → a ++ f ≡ b ++ g → Same a b f g
cut P [] [] f g ha hb hf hg e = record { first = refl; second = e }
cut P [] (y ∷ b) f g ha hb hf hg e = grind arith
cut P (x ∷ a) [] f g ha hb hf hg e = grind arith
cut P (x ∷ a) (y ∷ b) f g ha hb hf hg e = grind (arith, (cut P a b f g ha.1 hb.1 hf hg))

-- what holds of a separator and of digits holds of parameters one after another
pub joined-each : (P : ℕ → Type 0) → P 59 → ((digit : ℕ) → IsDigit digit → P digit) → (parameters : List (List ℕ)) → AllByRecursion (AllByRecursion IsDigit) parameters
    → AllByRecursion P (join_with_byte 59 parameters)
joined-each P stop to [] h = tt
joined-each P stop to (digits ∷ []) h = each-weaker IsDigit P to digits h.0
joined-each P stop to (digits ∷ next ∷ parameters) h =
    each-append P digits (59 ∷ join_with_byte 59 (next ∷ parameters)) (each-weaker IsDigit P to digits h.0) (stop, joined-each P stop to (next ∷ parameters) h.1)

pub joined-inner : (parameters : List (List ℕ)) → AllByRecursion (AllByRecursion IsDigit) parameters → AllByRecursion IsInner (join_with_byte 59 parameters)
joined-inner = joined-each IsInner (omega arith, omega arith) (λ digit h. (h.0, omega (arith, h.1)))

pub final-stops : (function : Function) (bytes : List ℕ) → Stops IsInner (final_byte function ∷ bytes)
final-stops function bytes = grind arith

pub not-final : (function : Function) → final_byte function ≡ 27 → ⊥
not-final function e = grind arith

pub same-function : (a b : Function) → final_byte a ≡ final_byte b → a ≡ b
same-function a b e = grind arith

-- ---- parameters

pub not-digit : IsDigit 59 → ⊥
not-digit h = omega (arith, h.1)

pub same-parameters : (a : List ℕ) (ps : List (List ℕ)) (b : List ℕ) (qs : List (List ℕ)) → AllByRecursion (AllByRecursion IsDigit) (a ∷ ps) → AllByRecursion (AllByRecursion IsDigit) (b ∷ qs)
    → join_with_byte 59 (a ∷ ps) ≡ join_with_byte 59 (b ∷ qs) → ◌≡◌ {A = List (List ℕ)} (a ∷ ps) (b ∷ qs)
same-parameters a [] b [] ha hb e = cc
same-parameters a [] b (d ∷ qs) ha hb e = grind (arith, append-nil, not-digit, (cut IsDigit a b [] (59 ∷ join_with_byte 59 (d ∷ qs))))
same-parameters a (c ∷ ps) b [] ha hb e = grind (arith, append-nil, not-digit, (cut IsDigit a b (59 ∷ join_with_byte 59 (c ∷ ps)) []))
same-parameters a (c ∷ ps) b (d ∷ qs) ha hb e =
    grind (arith, not-digit, (cut IsDigit a b (59 ∷ join_with_byte 59 (c ∷ ps)) (59 ∷ join_with_byte 59 (d ∷ qs))), (same-parameters c ps d qs ha.1 hb.1))

-- ---- unfinished items

-- an unfinished item is an escape, or the introducer and some inner bytes
pub record Inner (bytes : List ℕ) : Type 0 where
  pub inner : List ℕ
  pub is : bytes ≡ 27 ∷ 91 ∷ inner
  pub each : AllByRecursion IsInner inner

prefix-inner : (p q : List ℕ) (m : ℕ) (missing : List ℕ) (final : ℕ) → AllByRecursion IsInner q → p ++ m ∷ missing ≡ q ++ final ∷ [] → AllByRecursion IsInner p
prefix-inner [] q m missing final h e = tt
prefix-inner (x ∷ p) [] m missing final h e =
    let tail : p ++ m ∷ missing ≡ [] = cc in
    let len : length (p ++ m ∷ missing) ≡ 0 = ap length tail in
    absurd (omega (arith, length-append p (m ∷ missing)))
prefix-inner (x ∷ p) (y ∷ q) m missing final h e = (grind arith, prefix-inner p q m missing final h.1 cc)

shape : (bytes missing : List ℕ) (function : Function) (parameters : List (List ℕ)) → 0 < length bytes → 0 < length missing → AreParameters parameters
    → bytes ++ missing ≡ bytes_of (Control function parameters)
    → (bytes ≡ 27 ∷ []) ⊎ Inner bytes
shape [] missing function parameters some more h e = absurd (omega arith)
shape (x ∷ bytes) [] function parameters some more h e = absurd (omega arith)
shape (x ∷ []) (m ∷ missing) function parameters some more h e = grind arith
shape (x ∷ y ∷ p) (m ∷ missing) function parameters some more h e = grind (arith, prefix-inner, joined-inner)

pub shape-of : (bytes : List ℕ) → IsBeginning bytes → (bytes ≡ 27 ∷ []) ⊎ Inner bytes
shape-of bytes h = shape bytes h.missing h.function h.parameters h.begun h.not_finished h.well_formed h.goes_on

escape-stops : (bytes : List ℕ) → EndsOrEscapes bytes → Stops IsInner bytes
escape-stops bytes h = grind arith

pub not-escape : (byte : ℕ) (bytes g : List ℕ) → (byte ≡ 27 → ⊥) → byte ∷ bytes ≡ g → EndsOrEscapes g → ⊥
not-escape byte bytes g h e k = grind arith

-- ---- the first item

pub record SameItem (i j : Item) (f g : List ℕ) : Type 0 where
  pub item : i ≡ j
  pub rest : f ≡ g

control-control : (a : Function) (ps : List (List ℕ)) (b : Function) (qs : List (List ℕ)) (f g : List ℕ) → AreParameters ps → AreParameters qs
    → (join_with_byte 59 ps ++ final_byte a ∷ []) ++ f ≡ (join_with_byte 59 qs ++ final_byte b ∷ []) ++ g → SameItem (Control a ps) (Control b qs) f g
control-control a [] b qs f g h k e = grind arith
control-control a (p ∷ ps) b [] f g h k e = grind arith
control-control a (p ∷ ps) b (q ∷ qs) f g h k e =
    let both = cut IsInner (join_with_byte 59 (p ∷ ps)) (join_with_byte 59 (q ∷ qs)) (final_byte a ∷ f) (final_byte b ∷ g) (joined-inner (p ∷ ps) h.digits) (joined-inner (q ∷ qs) k.digits)
    (final-stops a f) (final-stops b g) (grind (arith, append_assoc)) in
    let parameters = same-parameters p ps q qs h.digits k.digits both.first in
    grind (arith, same-function)

control-unfinished : (a : Function) (ps : List (List ℕ)) (begun f g : List ℕ) → AreParameters ps → EndsOrEscapes g → (begun ≡ 27 ∷ []) ⊎ Inner begun → bytes_of (Control a ps) ++ f ≡ begun ++ g → ⊥
control-unfinished a ps begun f g h stop (inl lone) e = grind (arith, not-escape)
control-unfinished a ps begun f g h stop (inr begins) e =
    grind (arith, append_assoc, joined-inner, final-stops, escape-stops, not-escape, not-final, (cut IsInner (join_with_byte 59 ps) begins.inner (final_byte a ∷ f) g))

unfinished-unfinished : (p q f g : List ℕ) → EndsOrEscapes f → EndsOrEscapes g → (p ≡ 27 ∷ []) ⊎ Inner p → (q ≡ 27 ∷ []) ⊎ Inner q → p ++ f ≡ q ++ g → SameItem (Unfinished p) (Unfinished q) f g
unfinished-unfinished p q f g h k e h2 h3 = grind (arith, not-escape, cut, escape-stops)

printable-unfinished : (byte : ℕ) (begun f g : List ℕ) → 32 ≤ byte → (begun ≡ 27 ∷ []) ⊎ Inner begun → byte ∷ f ≡ begun ++ g → ⊥
printable-unfinished byte begun f g h h5 e = grind arith

pub same-first : (i j : Item) (f g : List ℕ) → IsItem i → IsItem j → MayPrecede i f → MayPrecede j g → bytes_of i ++ f ≡ bytes_of j ++ g → SameItem i j f g
same-first i j f g h k p q e = grind (arith, from_space, printable-unfinished, shape-of, control-control, control-unfinished, unfinished-unfinished)

-- ---- the items of a beginning

Splits-shorter : (bytes : List ℕ) (items : List Item) (rest : List ℕ) → Splits bytes items rest → length rest ≤ length bytes
Splits-shorter bytes [] rest h = grind arith
Splits-shorter bytes (item ∷ items) rest h = grind (arith, length-append, (Splits-shorter h.0 items rest h.4))

Splits-less : (bytes : List ℕ) (item : Item) (items : List Item) (rest : List ℕ) → Splits bytes (item ∷ items) rest → length rest < length bytes
Splits-less bytes item items rest h = grind (arith, length-append, bytes_of_some, Splits-shorter)

Splits-nothing : (bytes : List ℕ) (items : List Item) (rest : List ℕ) → Splits bytes items rest → length bytes ≤ length rest → items ≡ []
Splits-nothing bytes [] rest h short = refl
Splits-nothing bytes (item ∷ items) rest h short = absurd (let less = Splits-less bytes item items rest h in omega arith)

-- of two rows of items the one that leaves less goes on from the other
pub Splits-prefix : (bytes : List ℕ) (items others : List Item) (rest left : List ℕ) → Splits bytes items rest → Splits bytes others left → length left ≤ length rest
    → (more : List Item) × (others ≡ items ++ more) × Splits rest more left
Splits-prefix bytes [] others rest left h k less = grind arith
Splits-prefix bytes (item ∷ items) [] rest left h k less = let shorter = Splits-less bytes item items rest h in grind arith
Splits-prefix bytes (item ∷ items) (other ∷ others) rest left h k less = grind (arith, same-first, (Splits-prefix k.0 items others rest left))

pub Splits-same : (bytes : List ℕ) (items others : List Item) (rest left : List ℕ) → Splits bytes items rest → Splits bytes others left → length rest ≡ length left → items ≡ others
Splits-same bytes items others rest left h k same = grind (arith, Splits-prefix, rest, Splits-nothing, append-nil)

pub Splits-unique : (bytes : List ℕ) (items others : List Item) → Splits bytes items [] → Splits bytes others [] → items ≡ others
Splits-unique bytes items others h k = Splits-same bytes items others [] [] h k refl
