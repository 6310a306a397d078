-- The names from below: definitions take them from here, proofs and code from `specs`.
pub use Rattle.cell.specs.Attributes.{hex_digits, hexadecimal}
pub use Rattle.cell.specs.Glyphs.{is_printable}
pub use Rattle.cell.specs.Refusals.{refusal_text}
pub use Rattle.cell.specs.declared.attr.Attr.{Attr}
pub use Rattle.cell.specs.declared.refusal.Refusal.{Refusal}
pub use Rattle.cell.specs.declared.window.WinId.{WinId}
pub use Rattle.std.proofs.Common.{Bool, Err, IfErr, IfSome, IsOk, List, None, Ok, OnOk, Option, Result, Some, [], add-one, ap, append-nil, append_assoc, arith, below_more, codes, decimal, drop}
pub use Rattle.std.proofs.Common.{drop-cons, eq-eqb, eqb, false, find, get_or, is_err, is_some, length, length-append, length-drop, length-take, map, min, nat_le, nat_lt, not, option_and_then}
pub use Rattle.std.proofs.Common.{option_map, pos, position, pow-suc, refl, rules, slice_get, slice_index, slice_index_or, suc, sym, take, take-take, true, w8, zero, ℕ, ℤ, ◌∙◌}
pub use Rattle.std.proofs.KnownBytes.{Consumes-nil, Consumes-trans}
pub use Rattle.std.proofs.Math.Seq.{take-add}
pub use Rattle.std.proofs.lemmas.Bool.{cases_lt, eqb-true}
pub use Rattle.std.proofs.lemmas.Bool.Decides.{nat_tests}
pub use Rattle.std.proofs.lemmas.Grind.{common_steps}
pub use Rattle.std.proofs.lemmas.Int.Digits.{digits_value_more}
pub use Rattle.std.proofs.lemmas.List.{drop-drop, drop-take, drop_all, get_or-drop, get_or-map, get_or-take, take-append-drop, take_all, take_rest}
pub use Rattle.std.proofs.lemmas.List.Folds.{list_all-append, list_all_at, list_all_more, list_any-append}
pub use Rattle.std.proofs.lemmas.List.Quantifiers.{position-Some}
pub use Rattle.std.proofs.lemmas.List.Splits.{join_with_byte-slice_split, length-slice_split, slice_split_first, slice_split_none}
pub use Rattle.std.proofs.lemmas.List.Sums.{AllPass-from_list_all, fails_before_first, passes_at_first, position_or_len_is, prefix_len-le-length}
pub use Rattle.std.proofs.lemmas.Simd.{bitmask_splat, length-chunk, none_from_empty_mask, run_in_chunk_fails, run_in_chunk_le, run_in_chunk_stops, trailing_mask_l}
pub use Rattle.std.proofs.lemmas.Slice.Eq.{bytes_eq-Decides}
pub use Rattle.std.specs.Bool.{OnTrue}
pub use Rattle.std.specs.Borrow.{Bor}
pub use Rattle.std.specs.Char.{is_ascii_digit}
pub use Rattle.std.specs.Io.KnownBytes.{Appends, Consumes, IsAtEnd}
pub use Rattle.std.specs.List.{after_first, before_first, flat_map, join_with_byte, list_all, list_any, position_or_len, prefix_len, slice_split}
pub use Rattle.std.specs.Option.{option_map_or}
pub use Rattle.std.specs.Simd.Lanes.{chunk, mask_l}
pub use Rattle.std.specs.Str.{bytes_eq}
pub use Rattle.std.specs.Str.Parse.{digits_value}
pub use Rattle.streams.specs.Counts.{count_after}
pub use Rattle.streams.specs.Sources.{SourceSeen}
pub use Rattle.world.specs.declared.call.Call.{Call}
pub use Rattle.world.specs.declared.call.Call.TheVariants.{Copying, Making, Query, Refresh, Stacking, Writing}
pub use Rattle.world.specs.declared.call.Copying.TheVariants.{Copywin, IsLinetouched, IsWintouched, Overlay, Overwrite, Syncdown, Syncup, Touchline, Touchln, Touchwin, Untouchwin}
pub use Rattle.world.specs.declared.call.Making.TheVariants.{Delwin, Derwin, Mvderwin, Mvwin, Newpad, Newwin, Subpad, Subwin}
pub use Rattle.world.specs.declared.call.Query.TheVariants.{Getbegyx, Getmaxyx, Getparyx, Getyx, Inch}
pub use Rattle.world.specs.declared.call.Refresh.TheVariants.{Doupdate, InitPair, Noutrefresh, Pnoutrefresh, UpdatePanels}
pub use Rattle.world.specs.declared.call.Reply.{Reply}
pub use Rattle.world.specs.declared.call.Reply.TheVariants.{Cell, Composed, Flag, Nothing, Number, Panel, Sent, TwoNumbers}
pub use Rattle.world.specs.declared.call.Stacking.TheVariants.{BottomPanel, DelPanel, HidePanel, MovePanel, NewPanel, PanelAbove, PanelBelow, PanelHidden, PanelWindow, ReplacePanel, ShowPanel}
pub use Rattle.world.specs.declared.call.Stacking.TheVariants.{TopPanel}
pub use Rattle.world.specs.declared.call.Writing.TheVariants.{Addch, Addstr, Attroff, Attron, Attrset, Bkgdpair, Bkgdset, Clear, Clearok, Clrtobot, Clrtoeol, ColorSet, Delch, Deleteln, Erase, Insch}
pub use Rattle.world.specs.declared.call.Writing.TheVariants.{Insertln, Move, Scrl, Scrollok, Setscrreg}
pub use Rattle.world.specs.declared.panel.PanelId.{PanelId}
