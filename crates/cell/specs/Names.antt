-- The names from below: definitions take them from here, proofs and code from `specs`.
pub use Rattle.std.proofs.Common.{Bool, IfOk, List, MatchOption, MatchResult, None, Option, Result, Some, [], ap, arith, codes, cond, drop, eq-eqb, eqb, false, get_or, inl, inr, is_none, length}
pub use Rattle.std.proofs.Common.{length-append, lit<, lit≤, map, min, nat_le, nat_lt, ne_eqb, not, refl, replicate, set, slice_index, slice_index_or, slice_set, subst, suc, sym, take, take-take}
pub use Rattle.std.proofs.Common.{true, w32, zero, zero-add, ℕ, ◌∙◌}
pub use Rattle.std.proofs.Math.ListN.{get_or-append}
pub use Rattle.std.proofs.Math.Seq.{get_or-append_right, take-add, take-length, take-set-lt}
pub use Rattle.std.proofs.lemmas.Bool.{and_from, and_parts, cases_Bool, cases_eq, cases_lt, cases_order, cond-false, cond-true, eqb-true, false_from_ne_true, lt-ltb, ltb-true, ltb_from_iff}
pub use Rattle.std.proofs.lemmas.Bool.Decides.{nat_tests}
pub use Rattle.std.proofs.lemmas.Cmp.{and_equiv, nat_eq_equiv, on_equiv}
pub use Rattle.std.proofs.lemmas.Grind.{common_steps}
pub use Rattle.std.proofs.lemmas.List.{append_assoc, drop-append-le, drop-replicate, drop-set-add, drop-set-lt, ext_get_or, get_or-drop, get_or-map, get_or-replicate, get_or-set_other}
pub use Rattle.std.proofs.lemmas.List.{get_or-set_same, get_or-take, get_or_append_left, get_or_default, get_or_past, length-drop, length-map, length-replicate, length-set, length-take-le}
pub use Rattle.std.proofs.lemmas.List.{map-append, nil_from_length, replicate-append-replicate, set-append_left, take-append-le, take-map, take-replicate, take-set-le, take_more, take_more_set}
pub use Rattle.std.proofs.lemmas.List.Elements.{All-append, All-drop, All-from_recursion, All-get_or, All-map, All-replicate, All-set, All-take, recursion_from_All}
pub use Rattle.std.proofs.lemmas.List.Folds.{drop_split, list_all-append}
pub use Rattle.std.proofs.lemmas.List.FromFn.{get_or-map-range_with_len, length-map-range_with_len}
pub use Rattle.std.proofs.lemmas.List.Sums.{common_prefix_len-le}
pub use Rattle.std.proofs.lemmas.Nat.{le_or_l, le_or_r, mul-le, or_lt, row_fits, xor_shr}
pub use Rattle.std.proofs.lemmas.Nat.Bits.{bit_at-lt, bit_at-zero, bit_at_xor, same_from_bits}
pub use Rattle.std.proofs.lemmas.Simd.{length-zip2, mask_l-mod, tops_compared, trailing_mask_l}
pub use Rattle.std.proofs.lemmas.Slice.{take-put_mid}
pub use Rattle.std.specs.Cmp.{IsEquivalence, partial_equiv_from_equiv}
pub use Rattle.std.specs.Cmp.Lexicographic.{options_equiv}
pub use Rattle.std.specs.Int.{bit_at}
pub use Rattle.std.specs.Int.RustNames.{bit_and, bit_or, bit_xor}
pub use Rattle.std.specs.List.{AllByRecursion, common_prefix_len, list_all, prefix_len, range_with_len, slice_range, splice}
pub use Rattle.std.specs.Option.{option_eq}
pub use Rattle.std.specs.Prelude.{⊤}
pub use Rattle.std.specs.Simd.Lanes.{fold_l, mask_l, top, zip2}
pub use Rattle.std.specs.Vec.{vec_capacity}
