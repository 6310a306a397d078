-- The names from below: definitions take them from here, proofs and code from `specs`.
pub use Rattle.cell.specs.Attributes.{bits_of, valid_attributes, without}
pub use Rattle.cell.specs.Differences.{difference, line_difference, same_shown}
pub use Rattle.cell.specs.Glyphs.{is_printable}
pub use Rattle.cell.specs.Limits.{is_no_size}
pub use Rattle.cell.specs.Pictures.{HasSize, Picture, Place, blank_picture, cell_or, is_place, line_of, origin, shown_at, with_shown}
pub use Rattle.cell.specs.ShownCells.{IsColour, IsRendition, Rendition, Shown, has_colour, is_empty, no_rendition, rendition_with, shown_blank, shown_with}
pub use Rattle.cell.specs.declared.attr.Attr.{Attr}
pub use Rattle.cell.specs.declared.colour.ColourPair.{ColourPair}
pub use Rattle.cell.specs.declared.limits.TheConstants.{FIRST_CHARACTER, LARGEST_SCREEN, LAST_CHARACTER, LAST_COLOUR}
pub use Rattle.std.proofs.Common.{All, Bool, IfErr, IfNone, IfOk, IfSome, IsErrOf, IsTrue, List, MatchOption, None, Option, Some, [], ap, append_assoc, arith, codes, cond, decimal, drop, false}
pub use Rattle.std.proofs.Common.{find, get_or, inl, inr, is_none, length, length-append, length-drop, length-take, map, min, nat_le, nat_lt, refl, replicate, rules, set, slice_index, subst, suc}
pub use Rattle.std.proofs.Common.{sym, take, true, unwrap_or, zero, ℕ, ◌∙◌}
pub use Rattle.std.proofs.Math.Seq.{take-append-add, take-length}
pub use Rattle.std.proofs.lemmas.Bool.{agree_below_at, and_parts, cases_Bool, cases_eq, cases_lt, eq-eqb, eqb-true, le-leb, le-ltb, leb-true, lt-leb, lt-ltb, ltb-false, ltb-true, ne_eqb}
pub use Rattle.std.proofs.lemmas.Bool.Decides.{nat_tests}
pub use Rattle.std.proofs.lemmas.Fmt.{decimal_digit, decimal_nonempty, decimal_step, digits_decimal, digits_value-decimal, length-decimal-le}
pub use Rattle.std.proofs.lemmas.Grind.{common_steps}
pub use Rattle.std.proofs.lemmas.Int.Digits.{digits_value_push}
pub use Rattle.std.proofs.lemmas.List.{append-nil, drop_more, get_or-append_right, get_or-drop, get_or-set_other, get_or-set_same, get_or-take, get_or_append_left, get_or_at, get_or_read}
pub use Rattle.std.proofs.lemmas.List.{length-map, length-set, length-take-le, map-append, map_push, set_at, take-append-drop, take-append-le, take-take, take_all, take_more, take_more_set}
pub use Rattle.std.proofs.lemmas.List.Concat.{flat_map-append}
pub use Rattle.std.proofs.lemmas.Nat.{and_le_l, and_mask, or_lt}
pub use Rattle.std.proofs.lemmas.Slice.{take-put_mid}
pub use Rattle.std.proofs.lemmas.Str.{digit_value_digit}
pub use Rattle.std.proofs.lemmas.Str.Parse.{IsNumeralModel, numerals_by_value}
pub use Rattle.std.specs.Int.RustNames.{bit_and, bit_or}
unfoldable pub use Rattle.std.specs.Int.RustNames.{count_ones}
pub use Rattle.std.specs.List.{AllByRecursion, flat_map, join_with_byte, list_all, slice_set}
pub use Rattle.std.specs.Option.{option_and_then, option_map, option_map_or}
pub use Rattle.std.specs.Prelude.{⊤}
pub use Rattle.std.specs.Str.Parse.{digits_value}
