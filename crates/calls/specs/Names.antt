-- The names from below: definitions take them from here, proofs and code from `specs`.
pub use Rattle.cell.specs.Glyphs.{Glyph}
pub use Rattle.cell.specs.Refusals.{refusal_text}
pub use Rattle.cell.specs.declared.refusal.Refusal.{Refusal}
pub use Rattle.cell.specs.declared.refusal.Refusal.TheVariants.{NoMemory}
pub use Rattle.cell.specs.declared.window.WinId.{WinId}
pub use Rattle.std.proofs.Common.{Bool, Err, IfOk, IsSomeAnd, List, None, Ok, Option, Result, Some, [], false, refl, subst, true, ℕ}
pub use Rattle.std.specs.Str.{bytes_eq}
pub use Rattle.streams.specs.declared.sending.Sent.{Sent}
pub use Rattle.world.specs.Effects.{Change, Effect, Order, adds, arranges, asks, changes, composes, makes, shows}
pub use Rattle.world.specs.Replies.{its_panel, no_answer, two_numbers}
pub use Rattle.world.specs.Worlds.{World}
pub use Rattle.world.specs.calls.Dispatch.{effect_of, is_doupdate, takes_memory, tests_of}
pub use Rattle.world.specs.declared.call.Call.{Call}
pub use Rattle.world.specs.declared.call.Composed.{Composed}
pub use Rattle.world.specs.declared.call.Copying.TheVariants.{IsLinetouched, IsWintouched, Overlay}
pub use Rattle.world.specs.declared.call.Making.TheVariants.{Newwin}
pub use Rattle.world.specs.declared.call.Query.{Query}
pub use Rattle.world.specs.declared.call.Query.TheVariants.{Getyx, Inch}
pub use Rattle.world.specs.declared.call.Refresh.{Refresh}
pub use Rattle.world.specs.declared.call.Refresh.TheVariants.{Doupdate, UpdatePanels}
pub use Rattle.world.specs.declared.call.Reply.{Reply}
pub use Rattle.world.specs.declared.call.Reply.TheVariants.{Cell, Flag, Nothing, Number, Panel, TwoNumbers}
pub use Rattle.world.specs.declared.call.Stacking.TheVariants.{NewPanel, PanelAbove, PanelBelow, PanelHidden, PanelWindow}
pub use Rattle.world.specs.declared.call.Writing.TheVariants.{Move}
pub use Rattle.world.specs.declared.panel.PanelId.{PanelId}
