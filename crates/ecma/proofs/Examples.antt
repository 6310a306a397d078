-- Worked streams on a terminal of 4 by 10, for a reader of the definitions.
use Rattle.std.specs.Prelude.{◌≡◌, ◌∷◌, ◌++◌}
use Rattle.ecma.specs.{ℕ, [], replicate, Option, Some, None, refl, arith, codes, Rendition, shown_blank, shown_with, no_rendition, Place, blank_picture, origin, Printable, Control, Unfinished, CUP}
use Rattle.ecma.specs.{ED, EL, SGR, AreParameters, IsBeginning, escape, Terminal, effect, effects, position, erasure, select_all, select, IsInProfile, difference}
use Rattle.ecma.specs.declared.token.Erase.TheVariants.{ToEnd}

-- a blank picture with its cursor and rendition
blank_with : Option Place → Rendition → Terminal
blank_with cursor rendition = record { picture = blank_picture 4 10; cursor = cursor; rendition = rendition }

abbrev with_attributes : ℕ → Rendition
with_attributes attributes = record no_rendition { attributes = attributes }

new : Terminal
unfolding blank_with
new = blank_with (Some origin) no_rendition

-- ---- sequences that were never finished; E is the escape

five-is-parameter : AreParameters (codes "5" ∷ [])
five-is-parameter = record { one = omega arith; most = omega arith; digits = (((omega arith, omega arith), tt), tt); short = (omega arith, tt) }

begun : IsBeginning (escape ∷ codes "[5")
begun = record { begun = omega arith; function = CUP; parameters = codes "5" ∷ []; missing = codes "H"; well_formed = five-is-parameter; not_finished = omega arith; goes_on = refl }

-- E[5 leaves the terminal as it is
unfinished_at_end : IsInProfile (escape ∷ codes "[5") new new
unfinished_at_end = record { items = Unfinished (escape ∷ codes "[5") ∷ []; splits = ([], refl, begun, tt, refl); have_effect = refl }

-- E[5E[2;3Hx puts the x at line 1 and column 2, and the cursor after it
restarted : IsInProfile (escape ∷ codes "[5" ++ escape ∷ codes "[2;3Hx") new
    (record {
      picture = replicate 10 shown_blank ∷ (shown_blank ∷ shown_blank ∷ shown_with no_rendition 120 ∷ replicate 7 shown_blank) ∷ replicate 2 (replicate 10 shown_blank);
      cursor = Some (1, 3);
      rendition = no_rendition;
    })
unfolding new blank_with
restarted = record {
  items = Unfinished (escape ∷ codes "[5") ∷ Control CUP (codes "2" ∷ codes "3" ∷ []) ∷ Printable 120 ∷ [];
  splits = (
    escape ∷ codes "[2;3Hx",
    refl,
    begun,
    refl,
    (
      codes "x",
      refl,
      record { one = omega arith; most = omega arith; digits = (((omega arith, omega arith), tt), (((omega arith, omega arith), tt), tt)); short = (omega arith, (omega arith, tt)) },
      tt,
      ([], refl, refl, tt, refl),
    ),
  );
  have_effect = refl;
}

-- ---- positions

-- E[;H
empty_position : effect (Control CUP ([] ∷ [] ∷ [])) (blank_with None no_rendition) ≡ Some new
unfolding new blank_with
empty_position = refl

-- E[H
no_digits : position ([] ∷ []) ≡ Some (0, 0)
no_digits = refl

-- E[0;1H and E[000;1H
zero_line : position (codes "0" ∷ codes "1" ∷ []) ≡ None
zero_line = refl

zeros_line : position (codes "000" ∷ codes "1" ∷ []) ≡ None
zeros_line = refl

-- E[;;H
three_parameters : position ([] ∷ [] ∷ [] ∷ []) ≡ None
three_parameters = refl

-- E[5;1H on 4 lines, E[1;11H on 10 columns
below_last_line : effect (Control CUP (codes "5" ∷ codes "1" ∷ [])) new ≡ None
unfolding new blank_with
below_last_line = refl

right_of_last_column : effect (Control CUP (codes "1" ∷ codes "11" ∷ [])) new ≡ None
unfolding new blank_with
right_of_last_column = refl

-- ---- printing

-- E[1;10Hx: after the last column the cursor is unknown
in_last_column : effects (Control CUP (codes "1" ∷ codes "10" ∷ []) ∷ Printable 120 ∷ []) new
    ≡ Some (record { picture = (replicate 9 shown_blank ++ shown_with no_rendition 120 ∷ []) ∷ replicate 3 (replicate 10 shown_blank); cursor = None; rendition = no_rendition })
unfolding new blank_with
in_last_column = refl

-- E[1;10Hxy: the y has no place
after_last_column : effects (Control CUP (codes "1" ∷ codes "10" ∷ []) ∷ Printable 120 ∷ Printable 121 ∷ []) new ≡ None
unfolding new blank_with
after_last_column = refl

-- ---- erasing

-- E[7mE[2J: reverse, under which erasing has no effect
reverse : effects (Control SGR (codes "7" ∷ []) ∷ []) new ≡ Some (blank_with (Some origin) (with_attributes 0x10))
unfolding new blank_with select
reverse = refl

erased_in_reverse : effects (Control SGR (codes "7" ∷ []) ∷ Control ED (codes "2" ∷ []) ∷ []) new ≡ None
unfolding new blank_with select
erased_in_reverse = refl

-- E[2J and E[K with an unknown cursor
page_at_unknown_cursor : effect (Control ED (codes "2" ∷ [])) (blank_with None no_rendition) ≡ Some (blank_with None no_rendition)
unfolding blank_with
page_at_unknown_cursor = refl

line_at_unknown_cursor : effect (Control EL ([] ∷ [])) (blank_with None no_rendition) ≡ None
unfolding blank_with
line_at_unknown_cursor = refl

-- E[00K is E[K; E[2;2J and E[3J erase nothing
leading_zero : erasure (codes "00" ∷ []) ≡ Some ToEnd
leading_zero = refl

two_erasures : erasure (codes "2" ∷ codes "2" ∷ []) ≡ None
two_erasures = refl

other_erasure : erasure (codes "3" ∷ []) ≡ None
other_erasure = refl

-- ---- renditions

-- E[1;4;22m is underline, and E[m nothing
underlined : select_all (1 ∷ 4 ∷ 22 ∷ []) no_rendition ≡ Some (with_attributes 0x04)
unfolding select
underlined = refl

all_off : effect (Control SGR ([] ∷ [])) (blank_with None (with_attributes 0x3f)) ≡ Some (blank_with None no_rendition)
unfolding blank_with select
all_off = refl

-- E[31m is red, E[31;44;39m a blue background, and E[0m ends both; E[38m and E[48m are outside the profile
red : select_all (31 ∷ []) no_rendition ≡ Some (record no_rendition { foreground = Some 1 })
unfolding select
red = refl

blue_background : select_all (31 ∷ 44 ∷ 39 ∷ []) no_rendition ≡ Some (record no_rendition { background = Some 4 })
unfolding select
blue_background = refl

no_colours : select_all (37 ∷ 40 ∷ 0 ∷ []) no_rendition ≡ Some no_rendition
unfolding select
no_colours = refl

other_foreground : select 38 no_rendition ≡ None
unfolding select
other_foreground = refl

other_background : select 48 no_rendition ≡ None
unfolding select
other_background = refl

-- E[41mE[2J: erasing has no effect under a colour
erased_in_red : effects (Control SGR (codes "41" ∷ []) ∷ Control ED (codes "2" ∷ []) ∷ []) new ≡ None
unfolding new blank_with select
erased_in_red = refl

-- ---- differences

one_place : difference (blank_picture 2 3) ((replicate 2 shown_blank ++ shown_with no_rendition 120 ∷ []) ∷ replicate 3 shown_blank ∷ []) ≡ 1
one_place = refl
