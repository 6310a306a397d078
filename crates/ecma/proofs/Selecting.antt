-- Renditions selected by the parameters of a control sequence.
use Rattle.std.specs.Prelude.{◌≡◌, ◌+◌, ◌-◌, ◌<◌, ◌∷◌, ◌++◌}
use Rattle.ecma.specs.{ℕ, List, [], length, map, take, get_or, Option, Some, None, refl, ap, ◌∙◌, arith, bit_or, ne_eqb, and_mask, or_lt, and_le_l, append_assoc, map-append, map_push}
use Rattle.ecma.specs.{take-append-drop, take_more, valid_attributes, without, Rendition, rendition_with, ColourPair, Parameter, parameter_of, number_of, number_or, select, select_all, with_on}
use Rattle.ecma.specs.{with_off}
use Rattle.ecma.proofs.ParameterNumbers.{select_all-append}

-- ---- attributes

valid_attributes-small : (bits : ℕ) → bits < 64 → valid_attributes bits ≡ bits
valid_attributes-small bits h = and_mask bits 6 ∙ omega arith

abbrev colours_of : Rendition → ColourPair
colours_of rendition = record { foreground = rendition.foreground; background = rendition.background }

-- a rendition that was made of attributes of the six and the same colours
made-with : (rendition made : Rendition) (bits attributes : ℕ) (pair : ColourPair) → attributes < 64 → bits ≡ attributes → pair ≡ colours_of rendition
    → made ≡ rendition_with pair (valid_attributes bits)
    → made ≡ record rendition { attributes = attributes }
made-with rendition made bits attributes pair few same colours is = grind (arith, valid_attributes-small)

pub with_on-made : (rendition made : Rendition) (old others bits : ℕ) (pair : ColourPair) → rendition.attributes < 64 → others < 64 → old ≡ rendition.attributes → bits ≡ bit_or old others
    → pair ≡ colours_of rendition
    → made ≡ rendition_with pair (valid_attributes bits) → made ≡ with_on others rendition
with_on-made rendition made old others bits pair few small same either colours is =
    made-with rendition made bits (bit_or rendition.attributes others) pair (or_lt 6 rendition.attributes others few small) (either ∙ ap (λ (n : ℕ). bit_or n others) same) colours is

pub with_off-made : (rendition made : Rendition) (old others bits : ℕ) (pair : ColourPair) → rendition.attributes < 64 → old ≡ rendition.attributes → bits ≡ without old others
    → pair ≡ colours_of rendition
    → made ≡ rendition_with pair (valid_attributes bits) → made ≡ with_off others rendition
with_off-made rendition made old others bits pair few same left colours is =
    let less : without rendition.attributes others < 64 = omega (arith, and_le_l rendition.attributes (255 - others)) in
    made-with rendition made bits (without rendition.attributes others) pair less (left ∙ ap (λ (n : ℕ). without n others) same) colours is

pub ruleset made = (with_on-made, with_off-made)

-- ---- numbers of parameters

numbers-kept : (digits : List (List ℕ)) → map (number_or 0) digits ≡ map (number_of 0) (map parameter_of digits)
numbers-kept [] = refl
numbers-kept (first ∷ digits) = grind (arith, ne_eqb, (numbers-kept digits))

-- what the parameters select
abbrev pub selected_by : List Parameter → Rendition → Option Rendition
selected_by parameters rendition = select_all (map (number_of 0) parameters) rendition

pub select_all-kept : (digits : List (List ℕ)) (parameters : List Parameter) (rendition : Rendition) → map parameter_of digits ≡ parameters
    → select_all (map (number_or 0) digits) rendition ≡ selected_by parameters rendition
select_all-kept digits parameters rendition e = grind (arith, numbers-kept)

selected_by-push : (parameters : List Parameter) (last : Parameter) (rendition selected : Rendition) → selected_by parameters rendition ≡ Some selected
    → selected_by (parameters ++ last ∷ []) rendition ≡ select (number_of 0 last) selected
selected_by-push parameters last rendition selected e = grind (arith, map_push, select_all-append)

pub selected-next : (ended : List Parameter) (i : ℕ) (parameter : Parameter) (rendition selected : Rendition) → i < length ended → parameter ≡ get_or ended i parameter
    → selected_by (take i ended) rendition ≡ Some selected
    → selected_by (take (i + 1) ended) rendition ≡ select (number_of 0 parameter) selected
selected-next ended i parameter rendition selected h is e = let taken = take_more ended i parameter h in grind (arith, selected_by-push)

pub selected-last : (digits : List (List ℕ)) (ended : List Parameter) (last : Parameter) (rendition selected : Rendition) → map parameter_of digits ≡ ended ++ last ∷ []
    → selected_by ended rendition ≡ Some selected
    → select_all (map (number_or 0) digits) rendition ≡ select (number_of 0 last) selected
selected-last digits ended last rendition selected same e = grind (arith, select_all-kept, selected_by-push)

pub selected-none : (digits : List (List ℕ)) (ended : List Parameter) (last : Parameter) (i : ℕ) (rendition : Rendition) → map parameter_of digits ≡ ended ++ last ∷ [] → i < length ended
    → selected_by (take (i + 1) ended) rendition ≡ None
    → select_all (map (number_or 0) digits) rendition ≡ None
selected-none digits ended last i rendition same h none = grind (arith, select_all-kept, (take-append-drop (i + 1) ended), append_assoc, map-append, select_all-append)
