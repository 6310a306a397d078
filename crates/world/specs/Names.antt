-- The names from below: definitions take them from here, proofs and code from `specs`.
pub use Rattle.cell.specs.Attributes.{bits_of, valid_attributes}
pub use Rattle.cell.specs.Glyphs.{Glyph, IsCell, blank, is_printable}
pub use Rattle.cell.specs.Limits.{is_no_size}
pub use Rattle.cell.specs.Packing.{attributes_of, character_of, given_cell}
pub use Rattle.cell.specs.Pictures.{AreShown, HasSize, Picture, Place, blank_picture, origin, picture_of, shown_at}
pub use Rattle.cell.specs.Refusals.{RefusedBy, first_of}
pub use Rattle.cell.specs.ShownCells.{ArePairs, IsShown, Pairs, Shown, first_pairs, shown}
pub use Rattle.cell.specs.VirtualScreens.{VirtualScreen}
pub use Rattle.cell.specs.declared.limits.TheConstants.{LARGEST_PAD, LARGEST_SCREEN, LAST_COLOUR, LAST_PAIR, MOST_PANELS, MOST_WINDOWS}
pub use Rattle.cell.specs.declared.refusal.Refusal.{Refusal}
pub use Rattle.cell.specs.declared.refusal.Refusal.TheVariants.{BadCharacter, BadPair, BadRectangle, BadRegion, BadSize, HasDerived, Hidden, InPanel, IsPad, NoSuchPanel, NoSuchWindow, NotDerived}
pub use Rattle.cell.specs.declared.refusal.Refusal.TheVariants.{NotPad, OffScreen, OutsideParent, OutsideWindow, ScrollingOff, StandardScreen, TooMany}
pub use Rattle.cell.specs.declared.window.Rect.{Rect}
pub use Rattle.cell.specs.declared.window.TheConstants.WinId.{STANDARD}
pub use Rattle.cell.specs.declared.window.WinId.{WinId}
pub use Rattle.std.proofs.Common.{All, AllPairs, Bool, IsSome, IsSomeAnd, List, MatchOption, None, Option, Result, Some, [], ap, arith, eq-eqb, eqb, false, find, fold, inl, inr, is_none, is_some}
pub use Rattle.std.proofs.Common.{length, map, max, min, nat_le, nat_lt, negsuc, not, option_and_then, option_map, pos, refl, reverse, slice_index_or, slice_set, subst, suc, sym, true, unwrap_or}
pub use Rattle.std.proofs.Common.{zero, zero-add, ℕ, ℤ, ◌∙◌}
pub use Rattle.std.proofs.Math.Bool.{and-false}
pub use Rattle.std.proofs.lemmas.Bool.{and_from, and_parts, cases_eq, cases_lt, eqb-false, eqb-true, false_from_ne_true, le-leb, leb-true, ne_eqb, or_cases, or_from, or_left, or_parts, or_right}
pub use Rattle.std.proofs.lemmas.Bool.Decides.{nat_tests}
pub use Rattle.std.proofs.lemmas.List.{append-nil, length-set}
pub use Rattle.std.proofs.lemmas.List.Elements.{All-cons, All-filter, All-from_get_or, All-from_recursion, All-get_or, All-push, filter-append, filter_passes, recursion_from_All}
pub use Rattle.std.proofs.lemmas.List.Folds.{list_any_at}
pub use Rattle.std.proofs.lemmas.List.FromFn.{get_or-map-range_with_len, length-map-range_with_len}
pub use Rattle.std.proofs.lemmas.List.Kept.{AllPairs-cons, AllPairs-filter}
pub use Rattle.std.proofs.lemmas.List.Quantifiers.{all_pairs_push}
pub use Rattle.std.proofs.lemmas.Map.Steps.{le-length_from_below}
pub use Rattle.std.proofs.lemmas.Nat.{and_le_l, and_le_r, or_lt}
pub use Rattle.std.specs.Int.RustNames.{bit_or}
pub use Rattle.std.specs.List.{AllByRecursion, count_by, filter, filter_map, last_or, list_any, range_with_len}
pub use Rattle.std.specs.Option.{option_map_or}
pub use Rattle.std.specs.Prelude.{⊤}
pub use Rattle.std.specs.Result.{result_err}
