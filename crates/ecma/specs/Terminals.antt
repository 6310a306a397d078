-- What a terminal shows, and what each item of a stream does to it.
-- ECMA-48, 5th edition: 8.3.21 CUP, 8.3.39 ED, 8.3.41 EL, 8.3.117 SGR. An item that has no effect here is outside the
-- profile: that leaves out wrapping and scrolling (what is printed after the last column), the parameter 0 of CUP,
-- places off the screen, erasing while an attribute or a colour is on, and every SGR code but those of the six
-- attributes and of the eight colours.
use Rattle.std.specs.Prelude.{◌==◌, ◌&&◌, if◌then◌else◌, ◌+◌, ◌-◌, ◌∷◌, ◌++◌}
use Rattle.ecma.specs.Names.{nat_lt, nat_le, Bool, ℕ, List, [], length, map, take, drop, Option, Some, None, option_map, option_and_then, slice_set, bit_or, digits_value, without, Shown}
use Rattle.ecma.specs.Names.{shown_blank, shown_with, Rendition, no_rendition, is_empty, Picture, Place, line_of, is_place, with_shown, LAST_COLOUR}
use Rattle.ecma.specs.declared.token.Erase.{Erase}
use Rattle.ecma.specs.declared.token.Erase.TheVariants.{ToEnd, FromStart, All}
use Rattle.ecma.specs.Items.{CUP, ED, EL, SGR, Item, Printable, Control, Unfinished}

-- the cursor is a place, or it is unknown; the rendition is that of what is printed next
pub record Terminal : Type 0 where
  pub picture : Picture
  pub cursor : Option Place
  pub rendition : Rendition

-- ---- printing

-- one column to the right; after the last column the cursor is unknown
abbrev pub right_of : Picture → Place → Option Place
right_of picture place = if nat_lt (place.1 + 1) (length (line_of picture place.0)) then Some (place.0, place.1 + 1) else None

abbrev pub print_at : ℕ → Terminal → Place → Terminal
print_at byte t place = record t { picture = with_shown t.picture place (shown_with t.rendition byte); cursor = right_of t.picture place }

-- no effect where the cursor is unknown
abbrev pub print : ℕ → Terminal → Option Terminal
print byte t = option_map (print_at byte t) t.cursor

-- ---- moving

-- no effect where the terminal has no such place
abbrev pub move_to : Place → Terminal → Option Terminal
move_to place t = if is_place t.picture place then Some (record t { cursor = Some place }) else None

-- ---- erasing

abbrev pub blank_line : List Shown → List Shown
blank_line line = map (λ _. shown_blank) line

-- a line, erased from a column on, from its start to the column, or all of it; the column is erased each time
abbrev pub erased_line : Erase → ℕ → List Shown → List Shown
erased_line ToEnd column line = take column line ++ blank_line (drop column line)
erased_line FromStart column line = blank_line (take (column + 1) line) ++ drop (column + 1) line
erased_line All column line = blank_line line

-- the picture with the line of a place erased
abbrev pub erased_at : Erase → Place → Picture → Picture
erased_at how place picture = slice_set picture place.0 (erased_line how place.1 (line_of picture place.0))

-- a picture, erased from a place on, from its start to the place, or all of it; the place is erased each time
abbrev pub erased_page : Erase → Place → Picture → Picture
erased_page ToEnd place picture = take (place.0 + 1) (erased_at ToEnd place picture) ++ map blank_line (drop (place.0 + 1) picture)
erased_page FromStart place picture = map blank_line (take place.0 picture) ++ drop place.0 (erased_at FromStart place picture)
erased_page All place picture = map blank_line picture

-- no effect while an attribute or a colour is on
abbrev pub under_no_rendition : Terminal → Option Terminal → Option Terminal
under_no_rendition t after = if is_empty t.rendition then after else None

-- the cursor has to be known, and stays
abbrev pub erase_line : Erase → Terminal → Option Terminal
erase_line how t = under_no_rendition t (option_map (λ place. record t { picture = erased_at how place t.picture }) t.cursor)

-- the same, but to erase all of the page the cursor needn't be known
abbrev pub erase_page : Erase → Terminal → Option Terminal
erase_page ToEnd t = under_no_rendition t (option_map (λ place. record t { picture = erased_page ToEnd place t.picture }) t.cursor)
erase_page FromStart t = under_no_rendition t (option_map (λ place. record t { picture = erased_page FromStart place t.picture }) t.cursor)
erase_page All t = under_no_rendition t (Some (record t { picture = map blank_line t.picture }))

-- ---- selecting a rendition

-- the rendition with these attributes on, or off
abbrev pub with_on : ℕ → Rendition → Rendition
with_on attributes rendition = record rendition { attributes = bit_or rendition.attributes attributes }

abbrev pub with_off : ℕ → Rendition → Rendition
with_off attributes rendition = record rendition { attributes = without rendition.attributes attributes }

-- one of the codes of the eight colours, from a first one on
abbrev pub is_colour_code : ℕ → ℕ → Bool
is_colour_code first code = nat_le first code && nat_le code (first + LAST_COLOUR)

-- the code of black, for the foreground and for the background
abbrev pub first_foreground : ℕ
first_foreground = 30

abbrev pub first_background : ℕ
first_background = 40

-- the rendition after a code: 0 ends all attributes and colours, 22 both bold and dim, 39 and 49 a colour
unfoldable pub select : ℕ → Rendition → Option Rendition
select code rendition =
    if code == 0 then Some no_rendition
    else if code == 1 then Some (with_on 0x01 rendition)
    else if code == 2 then Some (with_on 0x02 rendition)
    else if code == 4 then Some (with_on 0x04 rendition)
    else if code == 5 then Some (with_on 0x08 rendition)
    else if code == 7 then Some (with_on 0x10 rendition)
    else if code == 8 then Some (with_on 0x20 rendition)
    else if code == 22 then Some (with_off 0x03 rendition)
    else if code == 24 then Some (with_off 0x04 rendition)
    else if code == 25 then Some (with_off 0x08 rendition)
    else if code == 27 then Some (with_off 0x10 rendition)
    else if code == 28 then Some (with_off 0x20 rendition)
    else if is_colour_code first_foreground code then Some (record rendition { foreground = Some (code - first_foreground) })
    else if code == 39 then Some (record rendition { foreground = None })
    else if is_colour_code first_background code then Some (record rendition { background = Some (code - first_background) })
    else if code == 49 then Some (record rendition { background = None })
    else None

-- the rendition after the codes, in their order
abbrev pub select_all : List ℕ → Rendition → Option Rendition
select_all [] rendition = Some rendition
select_all (code ∷ codes) rendition = option_and_then (select_all codes) (select code rendition)

-- ---- what the parameters of a control sequence say

-- the number that the digits write, or the default where there are none
abbrev pub number_or : ℕ → List ℕ → ℕ
number_or default [] = default
number_or default (digit ∷ digits) = digits_value 10 (digit ∷ digits)

-- the place of a line and a column that are counted from 1
abbrev pub place_from_one : ℕ → ℕ → Option Place
place_from_one line column = if nat_lt 0 line && nat_lt 0 column then Some (line - 1, column - 1) else None

-- the place that CUP names by a line and a column, each 1 where it is empty or absent
abbrev pub position : List (List ℕ) → Option Place
position [] = None
position (line ∷ []) = place_from_one (number_or 1 line) 1
position (line ∷ column ∷ []) = place_from_one (number_or 1 line) (number_or 1 column)
position (line ∷ column ∷ more ∷ others) = None

abbrev pub erasure_of : ℕ → Option Erase
erasure_of n = if n == 0 then Some ToEnd else if n == 1 then Some FromStart else if n == 2 then Some All else None

-- what ED and EL erase, by one parameter, 0 where it is empty
abbrev pub erasure : List (List ℕ) → Option Erase
erasure [] = None
erasure (how ∷ []) = erasure_of (number_or 0 how)
erasure (how ∷ more ∷ others) = None

-- ---- the effect of an item

-- the terminal after the item, none where the item has no effect; one that was never finished changes nothing
abbrev pub effect : Item → Terminal → Option Terminal
effect (Printable byte) t = print byte t
effect (Control CUP parameters) t = option_and_then (λ place. move_to place t) (position parameters)
effect (Control ED parameters) t = option_and_then (λ how. erase_page how t) (erasure parameters)
effect (Control EL parameters) t = option_and_then (λ how. erase_line how t) (erasure parameters)
effect (Control SGR parameters) t =
    option_map (λ rendition. record t { rendition = rendition }) (select_all (map (number_or 0) parameters) t.rendition)
effect (Unfinished bytes) t = Some t

-- the terminal after the items, one after another
abbrev pub effects : List Item → Terminal → Option Terminal
effects [] t = Some t
effects (item ∷ items) t = option_and_then (effects items) (effect item t)
