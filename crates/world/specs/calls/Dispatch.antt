-- Each call is two rows: its tests, in their order, and its effect. All else about a call follows from the two.
-- X/Open Curses Issue 7 and NetBSD panel(3); the file of each group names its calls.
use Rattle.world.specs.Names.{Bool, true, false, Option, List, first_of, Refusal, Rect}
use Rattle.world.specs.PanelOrder.{is_in_panel}
use Rattle.world.specs.Worlds.{World}
use Rattle.world.specs.Effects.{Effect, arranges, changes, asks, edits, after, effect_frame, effect_reply, effect_takes_memory}
use Rattle.world.specs.calls.Making.{making_change, making_tests}
use Rattle.world.specs.calls.Writing.{writing_edit, writing_tests}
use Rattle.world.specs.calls.Copying.{copying_change, copying_tests}
use Rattle.world.specs.calls.Queries.{query_reply, query_tests}
use Rattle.world.specs.calls.Stacking.{stacking_order, stacking_tests}
use Rattle.world.specs.calls.Refresh.{refresh_effect, refresh_tests}
use Rattle.world.specs.declared.call.Call.{Call}
use Rattle.world.specs.declared.call.Call.TheVariants as calls
use Rattle.world.specs.declared.written_calls.Refresh.TheVariants.{UpdatePanels, Doupdate}
use Rattle.world.specs.declared.call.Reply.{Reply}

-- ---- two rows

abbrev pub tests_of : World → Call → List (Bool × Refusal)
tests_of world (calls.Making making) = making_tests world.windows (is_in_panel world.panels) making
tests_of world (calls.Writing writing) = writing_tests world.windows writing
tests_of world (calls.Copying copying) = copying_tests world.windows copying
tests_of world (calls.Query query) = query_tests world.windows query
tests_of world (calls.Stacking stacking) = stacking_tests world.windows world.panels stacking
tests_of world (calls.Refresh refresh) = refresh_tests world refresh

abbrev pub effect_of : World → Call → Effect
effect_of world (calls.Making making) = arranges (changes (making_change world.windows making))
effect_of world (calls.Writing writing) = arranges (changes (edits (writing_edit world.windows writing)))
effect_of world (calls.Copying copying) = arranges (changes (copying_change world.windows copying))
effect_of world (calls.Query query) = arranges (changes (asks (query_reply world.windows query)))
effect_of world (calls.Stacking stacking) = arranges (stacking_order world.panels stacking)
effect_of world (calls.Refresh refresh) = refresh_effect world refresh

-- ---- what follows

-- why a call is refused, if it is: its first test that holds
abbrev pub refusal : World → Call → Option Refusal
refusal world call = first_of (tests_of world call)

-- The calls that make a window, a pad or a panel take memory. Without it they are refused.
abbrev pub takes_memory : World → Call → Bool
takes_memory world call = effect_takes_memory (effect_of world call)

-- the world after a call that was accepted
abbrev pub world_after : World → Call → World
world_after world call = after world (effect_of world call)

-- what a call answers that is neither refused nor one of those that compose and show
abbrev pub reply_of : World → Call → Reply
reply_of world call = effect_reply (effect_of world call)

-- the rectangle of a window in which a call wrote
abbrev pub call_frame : World → Call → Option Rect
call_frame world call = effect_frame world.windows (effect_of world call)

-- ---- kinds of calls

abbrev pub is_doupdate : Call → Bool
is_doupdate (calls.Refresh Doupdate) = true
is_doupdate call = false

abbrev pub is_update_panels : Call → Bool
is_update_panels (calls.Refresh UpdatePanels) = true
is_update_panels call = false
