-- What a method of a call answers is also the outcome of the call, or its reply.
use Rattle.std.specs.Prelude.{◌≡◌}
use Rattle.compose.specs.{ℕ, Bool, None, true, Option, Result, refl, arith, Place, Refusal, Rect, WinId, Change, Edit, edit_window, edits, makes, order_reply, shifts, windows_after, its_flag}
use Rattle.compose.specs.{its_number, no_answer, Window, Windows, stacking_order, stacking_refusal, stacking_tests, writing_edit, Reply, Stacking, Writing, as_reply, is_query, Changed, WindowTable}
use Rattle.compose.specs.{windows, Drew, its_frame, Arranged, no_windows, PanelTable, panels, affected_by, Affects, Answered, Ordered, Rearranges, as_outcome, drawn, numbered, shifted, told, unseen}
use Rattle.compose.specs.{with_frame, written_window}
use Rattle.world.specs.declared.call.Call.TheVariants as calls
use Rattle.compose.proofs.Arranging.{ordered}
use Rattle.compose.proofs.DeskLemmas.{refused-as}

-- ---- on windows

module _ (old new : WindowTable) (refusal : Option Refusal) where
  pub framed : {T : Type 0} (frame_of : T → Option Rect) (change : Change) (r : Result T Refusal) → Drew frame_of old refusal change r new
      → Drew its_frame old refusal change (with_frame frame_of r) new
  framed frame_of change r h = grind arith

  pub affects-unseen : (change : Change) (r : Result (Unit {0}) Refusal) → Changed no_answer old refusal change r new → affected_by (windows old) change ≡ None
      → Affects old refusal change (as_outcome unseen r) new
  unfolding Affects
  affects-unseen change r h none = grind arith

  pub affects-told : (change : Change) (r : Result Bool Refusal) → Changed its_flag old refusal change r new → affected_by (windows old) change ≡ None
      → Affects old refusal change (as_outcome told r) new
  unfolding Affects
  affects-told change r h none = grind arith

  pub affects-drawn : (win : WinId) (edit : Edit) (r : Result (Option Rect) Refusal) → Drew its_frame old refusal (edits edit) r new → win.0 ≡ edit_window edit
      → Affects old refusal (edits edit) (as_outcome (drawn win) r) new
  unfolding Affects
  affects-drawn win edit r h named = grind arith

  pub affects-shifted : (win : WinId) (place : Place) (r : Result (Unit {0}) Refusal) → Changed no_answer old refusal (shifts win.0 place) r new
      → Affects old refusal (shifts win.0 place) (as_outcome (shifted win) r) new
  unfolding Affects
  affects-shifted win place r h = grind arith

  pub affects-numbered : (number : ℕ) (window : Option Window) (r : Result WinId Refusal) → Changed its_number old refusal (makes number window) r new
      → Affects old refusal (makes number window) (as_outcome numbered r) new
  unfolding Affects
  affects-numbered number window r h = grind arith

pub same-window : (ws : Windows) (writing : Writing) → edit_window (writing_edit ws writing) ≡ written_window writing
same-window ws writing = grind arith

-- ---- on panels

pub rearranges-as : {T : Type 0} (reply_of : T → Reply) (old new : WindowTable) (ps after : PanelTable) (stacking : Stacking) (r : Result T Refusal)
    → Ordered reply_of old ps stacking r new after → Rearranges old ps stacking (as_reply reply_of r) new after
unfolding Rearranges
rearranges-as reply_of old new ps after stacking r h = grind (arith, refused-as)

-- one that the stack made alone
pub rearranges-alone : (table : WindowTable) (ps after : PanelTable) (stacking : Stacking) (r : Result (Unit {0}) Refusal)
    → Arranged no_answer (stacking_tests (windows table) (panels ps) stacking) ps stacking r after
    → windows_after (windows table) (panels ps) (stacking_order (panels ps) stacking) ≡ windows table → Rearranges table ps stacking (as_reply no_answer r) table after
rearranges-alone table ps after stacking r arranged still = rearranges-as no_answer table table ps after stacking r (ordered table ps no_answer _ stacking r after arranged refl still)

-- one that asked alone
pub rearranges-asked : (table : WindowTable) (ps : PanelTable) (stacking : Stacking) (r : Result Reply Refusal) → is_query (calls.Stacking stacking) ≡ true
    → Answered (stacking_refusal no_windows (panels ps) stacking) (order_reply (stacking_order (panels ps) stacking)) r → Rearranges table ps stacking r table ps
unfolding Rearranges
rearranges-asked table ps stacking r asks h = grind arith

pub ruleset outcomes = (affects-unseen, affects-told, affects-drawn, affects-shifted, affects-numbered, same-window)

pub ruleset replies = (rearranges-as, rearranges-alone, rearranges-asked)
