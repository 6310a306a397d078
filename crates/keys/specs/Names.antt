-- The names from below: definitions take them from here, proofs and code from `specs`.
pub use Rattle.keys.specs.declared.asked.Asked.{Asked}
pub use Rattle.keys.specs.declared.decoder.Answer.{Answer}
pub use Rattle.keys.specs.declared.decoder.Taken.{Taken}
pub use Rattle.keys.specs.declared.grammar.TheConstants.{LONGEST}
pub use Rattle.keys.specs.declared.key.Action.{Action}
pub use Rattle.keys.specs.declared.key.Action.TheVariants.{Motion, Press, Release}
pub use Rattle.keys.specs.declared.key.Key.{Key}
pub use Rattle.keys.specs.declared.key.Key.TheVariants.{FocusIn, FocusOut, PasteBegins, PasteEnds, Pasted, Pointed}
pub use Rattle.keys.specs.declared.key.Key.TheVariants.{Pressed, Unknown}
pub use Rattle.keys.specs.declared.key.Modifiers.{Modifiers}
pub use Rattle.keys.specs.declared.key.Mouse.{Mouse}
pub use Rattle.keys.specs.declared.key.Name.{Name}
pub use Rattle.keys.specs.declared.key.Name.TheVariants.{A1, A3, B2, Backspace, Begin, C1, C3, Character, Delete, Down}
pub use Rattle.keys.specs.declared.key.Name.TheVariants.{End, Enter, Escape, Function, Home, Insert, Left, PageDown}
pub use Rattle.keys.specs.declared.key.Name.TheVariants.{PageUp, Right, Tab, Up}
pub use Rattle.keys.specs.declared.parameters.Parameters.{Parameters}
pub use Rattle.keys.specs.declared.parameters.TheConstants.{TOO_LARGE}
pub use Rattle.std.proofs.Common.{Bool, List, None, Option, Some, [], ap, append_assoc, ap₂, arith, false, get_or, inl}
pub use Rattle.std.proofs.Common.{inr, length, length-append, map, min, nat_le, nat_lt, refl, subst, suc, sym, take}
pub use Rattle.std.proofs.Common.{true, zero, ℕ, ◌∙◌}
pub use Rattle.std.proofs.Math.Seq.{take-append_seam, take-length}
unfoldable pub use Rattle.std.proofs.Math.Utf8.{encode}
pub use Rattle.std.proofs.Math.Utf8.{scalar_cases}
pub use Rattle.std.proofs.lemmas.Bool.{cases_Bool, cases_eq, cases_lt, eq-eqb, le-ltb, lt-ltb, ne_eqb}
pub use Rattle.std.proofs.lemmas.Bool.Decides.{nat_tests}
pub use Rattle.std.proofs.lemmas.Fmt.{decimal_by_steps, length-decimal-le}
pub use Rattle.std.proofs.lemmas.Grind.{flat_map-append, fold-append}
pub use Rattle.std.proofs.lemmas.List.{append-nil, ext_get_or, get_or-append_right, get_or-take, get_or_append_left}
pub use Rattle.std.proofs.lemmas.List.{length-take-le, map-append, take-append-le, take-take, take_more}
pub use Rattle.std.specs.Char.{IsScalar, encode_utf8}
pub use Rattle.std.specs.Fmt.{decimal}
pub use Rattle.std.specs.List.{flat_map, fold, slice_range}
pub use Rattle.std.specs.Option.{is_some, option_map}
pub use Rattle.std.specs.Prelude.{drop, not, slice_index}
