-- The names from below: definitions take them from here, proofs and code from `specs`.
pub use Rattle.arrayvec.specs.ArrayVec.{array_vec_len}
pub use Rattle.cell.specs.Differences.{DiffersAt, difference, line_difference, same_rendition, same_shown}
pub use Rattle.cell.specs.EqualityLaws.{same_rendition-equal, same_shown-equal}
pub use Rattle.cell.specs.Limits.{is_no_size}
pub use Rattle.cell.specs.Pictures.{HasSize, Picture, Place, blank_picture, line_of, origin, shown_at, with_shown}
pub use Rattle.cell.specs.ShownCells.{IsRendition, IsShown, Rendition, Shown, has_colour, no_rendition, shown_blank}
pub use Rattle.cell.specs.VirtualScreens.{VirtualScreen}
pub use Rattle.cell.specs.declared.lanes.TheConstants.{LANES}
pub use Rattle.cell.specs.declared.limits.TheConstants.{LARGEST_SCREEN}
pub use Rattle.ecma.specs.Difference.{colour_difference, line_colour_difference}
pub use Rattle.ecma.specs.Items.{EndsOrEscapes, escape}
pub use Rattle.ecma.specs.Spelling.{IsToken, colour_bytes, none_bytes, position_bytes, selection_bytes, token_effect}
unfoldable pub use Rattle.ecma.specs.Spelling.{codes_of_attributes, spelling}
pub use Rattle.ecma.specs.Streams.{IsInProfile, Leads, LeadsWithBreaks, Shows, showing}
pub use Rattle.ecma.specs.Terminals.{Terminal, blank_line, erased_at, erased_line, erased_page}
pub use Rattle.ecma.specs.declared.token.Erase.TheVariants.{ToEnd}
pub use Rattle.ecma.specs.declared.token.Token.{Token}
pub use Rattle.ecma.specs.declared.token.Token.TheVariants.{Cup, Ed, El, Print, Sgr}
pub use Rattle.extents.specs.Extents.{DifferOnly, IsWithin, columns_of}
pub use Rattle.std.proofs.Common.{Bool, Err, IfErr, IfNone, IfOk, IsErrOf, IsTrue, List, MatchOption, MatchResult, None, Ok, Option, Result, Some, [], add-one, add_assoc, ap, append-nil, append_assoc}
pub use Rattle.std.proofs.Common.{arith, codes, cond, count_by, drop, eq-eqb, eqb, false, filter, get_or, inl, inr, is_ok, length, length-append, length-drop, length-set, length-take-le, map, min}
pub use Rattle.std.proofs.Common.{nat_le, nat_lt, ne_eqb, not, refl, replicate, rules, set, slice_index_or, subst, suc, sum_by, sym, take, true, w32, zero, ℕ, ◌∙◌}
pub use Rattle.std.proofs.Math.ListN.{get_or-append, get_or-map}
pub use Rattle.std.proofs.Math.Nat.{mod-add-mod}
pub use Rattle.std.proofs.Math.Seq.{take-add, take-length}
pub use Rattle.std.proofs.Props.{props}
pub use Rattle.std.proofs.lemmas.Bool.{and_parts, cases_Bool, cases_eq, cases_lt, eqb-true, le-leb, le-ltb, lt-leb, lt-ltb}
pub use Rattle.std.proofs.lemmas.Bool.Decides.{nat_tests}
pub use Rattle.std.proofs.lemmas.Grind.{elements}
pub use Rattle.std.proofs.lemmas.List.{drop-drop, drop_all, drop_more, ext_get_or, get_or-append_right, get_or-drop, get_or-set_other, get_or-set_same, get_or-take, get_or_default, get_or_past}
pub use Rattle.std.proofs.lemmas.List.{length-map, length-take, map-append, nil_from_length, set-get_or, set_past, take_all}
pub use Rattle.std.proofs.lemmas.List.Elements.{All-push}
pub use Rattle.std.proofs.lemmas.List.Sums.{sum_by-append, sum_by-cons, sum_by_push}
pub use Rattle.std.proofs.lemmas.Option.{MatchOption-from_none}
pub use Rattle.std.proofs.lemmas.Result.{err_from_is_err_and}
pub use Rattle.std.proofs.lemmas.Simd.{bitmask_splat, first_set_mask_l, length-replicate, splat_is_map}
unfoldable pub use Rattle.std.specs.Fmt.{digits}
pub use Rattle.std.specs.Io.KnownBytes.{Appends, Keeps}
pub use Rattle.std.specs.List.{AllByRecursion, list_all, prefix_len}
pub use Rattle.std.specs.Option.{option_map, option_map_or, unwrap_or}
pub use Rattle.std.specs.Prelude.{All, ⊤}
pub use Rattle.std.specs.Simd.Lanes.{mask_l, top, zip2}
pub use Rattle.streams.specs.Counts.{count_after, next_count}
pub use Rattle.streams.specs.Sending.{Sends, WritesOnce}
pub use Rattle.streams.specs.Sinks.{Seen}
pub use Rattle.streams.specs.declared.sending.Sent.{Sent}
pub use Rattle.streams.specs.declared.sending.WriteFault.{WriteFault}
pub use Rattle.world.specs.declared.settings.Columns.{Columns}
