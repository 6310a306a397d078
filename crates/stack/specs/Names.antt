-- The names from below: definitions take them from here, proofs and code from `specs`.
pub use Rattle.cell.specs.Refusals.{first_of}
pub use Rattle.cell.specs.declared.limits.TheConstants.{MOST_PANELS, MOST_WINDOWS}
pub use Rattle.cell.specs.declared.refusal.Refusal.{Refusal}
pub use Rattle.cell.specs.declared.refusal.Refusal.TheVariants.{Hidden}
pub use Rattle.cell.specs.declared.window.WinId.{WinId}
pub use Rattle.small_set.specs.Sets.{contains}
pub use Rattle.std.proofs.Common.{Bool, IfOk, IfSome, IsSome, List, MatchOption, None, OnErr, OnOk, Option, Result, Some, [], ap, arith, eqb, false, find, get_or-set_other, get_or-set_same, inl}
pub use Rattle.std.proofs.Common.{inr, is_none, is_ok, is_some, length, length-set, map, not, refl, replicate, reverse, rules, set, slice_index_or, slice_set, subst, suc, sym, take, true, unwrap_or}
pub use Rattle.std.proofs.Common.{zero, ℕ, ◌∙◌}
pub use Rattle.std.proofs.lemmas.Bool.{cases_eq, cases_lt, cases_order, eq-eqb, eqb-false, eqb-true, false_from_ne_true, false≢true, ne_eqb, or_cases}
pub use Rattle.std.proofs.lemmas.Grind.{common_steps}
pub use Rattle.std.proofs.lemmas.List.{append_assoc, get_or_append_left, get_or_past, get_or_push, length-map, length-reverse, length_push, reverse-append, take_all}
pub use Rattle.std.proofs.lemmas.List.Elements.{All-from_recursion}
pub use Rattle.std.proofs.lemmas.Map.Keys.{apart_from_distinct}
pub use Rattle.std.proofs.lemmas.Map.Steps.{length-le_from_distinct_below}
pub use Rattle.std.proofs.lemmas.Option.{same_Some}
pub use Rattle.std.specs.Iterator.{YieldsFirstBy, item_count}
pub use Rattle.std.specs.List.{AllByRecursion, filter_map, last_or, list_any, range_with_len}
unfoldable pub use Rattle.std.specs.List.{IsDistinct}
pub use Rattle.std.specs.Option.{option_map}
pub use Rattle.std.specs.Prelude.{⊤}
pub use Rattle.std.specs.Result.{result_err}
pub use Rattle.world.specs.Effects.{order_reply, order_takes_memory, with_entry, with_panel}
pub use Rattle.world.specs.PanelOrder.{Panels, first_panels, is_in_panel}
unfoldable pub use Rattle.world.specs.PanelOrder.{panel_limit}
pub use Rattle.world.specs.Replies.{its_panel, no_answer}
pub use Rattle.world.specs.WindowMaps.{Windows}
pub use Rattle.world.specs.calls.RefusedCalls.{Refused}
pub use Rattle.world.specs.calls.Stacking.{IsSoundOrder, after_del_panel, after_replace_panel, after_stacking, first_in, is_hidden, new_panel_number, new_panel_tests, next_in, next_panel}
pub use Rattle.world.specs.calls.Stacking.{panel_above, panel_below, panel_number, panel_tests, replace_panel_tests, stacking_order, stacking_refusal, visible_tests, without}
pub use Rattle.world.specs.declared.call.Reply.{Reply}
pub use Rattle.world.specs.declared.call.Stacking.{Stacking}
pub use Rattle.world.specs.declared.panel.PanelId.{PanelId}
