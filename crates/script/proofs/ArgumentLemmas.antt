-- Lemmas on the arguments of a call, one after another.
use Rattle.std.specs.Prelude.{◌≡◌, ◌+◌, ◌<◌, ◌∷◌}
use Rattle.script.specs.{ℕ, true, List, [], length, drop, refl, arith, Option, Some, None, drop_all, slice_split, join_with_byte, Bor, join_with_byte-slice_split, length-slice_split, is_space}
use Rattle.script.specs.{arguments, is_text, parse_arguments, Arguments, pieces_of}
use Rattle.script.specs.declared.words.Form.{Form}

pub arguments_none : (forms : List Form) → arguments forms [] ≡ []
arguments_none [] = refl
arguments_none (form ∷ forms) = refl

text_of_pieces : (form : Form) (forms : List Form) (pieces : List (List ℕ)) (text : List ℕ) → 0 < length pieces → join_with_byte 32 pieces ≡ text
    → is_text form ≡ true → arguments (form ∷ forms) pieces ≡ text ∷ arguments forms []
text_of_pieces form forms pieces text some e h = grind (arith, arguments_none)

-- a text takes all that is left
pub text_argument : (form : Form) (forms : List Form) (text : List ℕ) → is_text form ≡ true
    → arguments (form ∷ forms) (slice_split is_space text) ≡ text ∷ arguments forms []
text_argument form forms text h =
    text_of_pieces form forms (slice_split is_space text) text (omega (arith, length-slice_split is_space text)) (join_with_byte-slice_split 32 text) h

-- Of the arguments in all pieces the first i were taken, and those of the other forms are in the rest.
pub record Counted (forms : List Form) (pieces : List (List ℕ)) (i : ℕ) (rest : List (List ℕ)) : Type 0 where
  pub count : length (arguments forms pieces) ≡ i + length (arguments (drop i forms) rest)

-- There are too few arguments.
pub too_few : (forms : List Form) (pieces : List (List ℕ)) (i : ℕ) (rest : Option (Bor (List ℕ))) → Counted forms pieces i (pieces_of rest) → rest ≡ None
    → i < length forms → length (arguments forms pieces) ≡ length forms → ⊥
too_few forms pieces i rest counted none h same = grind (arith, arguments_none)

-- There are too many arguments.
pub too_many : (forms : List Form) (pieces : List (List ℕ)) (i : ℕ) (text : Bor (List ℕ)) → Counted forms pieces i (pieces_of (Some text))
    → i ≡ length forms → length (arguments forms pieces) ≡ length forms → ⊥
too_many forms pieces i text counted all same = grind (arith, drop_all, length-slice_split)

-- There are as many arguments as forms.
pub as_many : (forms : List Form) (pieces : List (List ℕ)) (i : ℕ) → Counted forms pieces i [] → i ≡ length forms
    → length (arguments forms pieces) ≡ length forms
as_many forms pieces i counted all = grind (arith, arguments_none)

-- What all arguments say is what those say that are left, after those that were taken.
pub record Taken (forms : List Form) (pieces : List (List ℕ)) (start : Arguments) (i : ℕ) (rest : List (List ℕ)) (a : Arguments) : Type 0 where
  pub same : parse_arguments forms (arguments forms pieces) start ≡ parse_arguments (drop i forms) (arguments (drop i forms) rest) a
