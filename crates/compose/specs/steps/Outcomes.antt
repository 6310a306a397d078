-- A call made on windows, with what it affects of what is shown, and one with what it damages; and a call on panels.
use Rattle.std.specs.Prelude.{◌≡◌}
use Rattle.compose.specs.Names.{ℕ, Bool, IfOk, OnErr, OnOk, Option, Some, None, List, Result, Ok, Err, option_map, result_err, Refusal, Change, edit_window, order_reply, order_takes_memory}
use Rattle.compose.specs.Names.{windows_after, Panels, change_shows_at, order_shows_at, Refused, after_stacking, stacking_order, stacking_refusal, Rect, WinId, Reply, Flag, Nothing, Number}
use Rattle.compose.specs.Names.{writing_edit, Stacking, Writing, no_windows, Columns, Changed, WindowTable, windows, PanelTable, panels, Damages}
use Rattle.compose.specs.declared.damaging.Affected.TheVariants.{Written, Moved}
use Rattle.compose.specs.declared.dispatch.Outcome.{Outcome}
use Rattle.compose.specs.steps.Changes.{affected_by}

-- ---- what a method of a call answers, as the outcome of the call

abbrev pub as_outcome : {T : Type 0} → (T → Outcome) → Result T Refusal → Result Outcome Refusal
as_outcome outcome_of (Ok answer) = Ok (outcome_of answer)
as_outcome outcome_of (Err e) = Err e

-- of one that affects nothing that windows show
abbrev pub unseen : Unit {0} → Outcome
unseen done = record { reply = Nothing; affected = None }

-- of one that drew in a window
abbrev pub drawn : WinId → Option Rect → Outcome
drawn win frame = record { reply = Nothing; affected = option_map (Written win) frame }

-- of one that asked whether something is so
abbrev pub told : Bool → Outcome
told is = record { reply = Flag is; affected = None }

-- of one that moved a window in its parent
abbrev pub shifted : WinId → Unit {0} → Outcome
shifted win done = record { reply = Nothing; affected = Some (Moved win) }

-- of one that made a window
abbrev pub numbered : WinId → Outcome
numbered win = record { reply = Number win; affected = None }

-- the frame of one that drew
abbrev pub with_frame : {T : Type 0} → (T → Option Rect) → Result T Refusal → Result (Option Rect) Refusal
with_frame frame_of (Ok answer) = Ok (frame_of answer)
with_frame frame_of (Err e) = Err e

-- the window that a call writes in, which is the same whatever windows there are
abbrev pub written_window : Writing → ℕ
written_window writing = edit_window (writing_edit no_windows writing)

-- ---- a call that was made

-- A call was made, and what it affects is what its change does. Only the proofs of a kind of call, and of what is
-- damaged, look into it.
unfoldable pub Affects : WindowTable → Option Refusal → Change → Result Outcome Refusal → WindowTable → Type 0
Affects old refusal change r new =
    Changed (λ (outcome : Outcome). outcome.reply) old refusal change r new × IfOk r (λ outcome. outcome.affected ≡ affected_by (windows old) change)

-- a call was made, and what is damaged is what windows show of its change; a refused one damages nothing
pub record ChangedDamaging (old : WindowTable) (panels : Panels) (refusal : Option Refusal) (change : Change) (damage : List (Option Columns))
    (r : Result Reply Refusal) (new : WindowTable) (new_damage : List (Option Columns)) : Type 0 where
  pub call : Changed (λ reply. reply) old refusal change r new
  pub damaged : OnOk r (Damages old.columns (change_shows_at (windows old) panels change) damage new_damage)
  pub undamaged : OnErr r (new_damage ≡ damage)

-- a call on panels was made: it was refused by its tests, and then nothing changed; else the answer, the windows and
-- the panels are those of its order
pub record Ordered {T : Type 0} (reply_of : T → Reply) (old : WindowTable) (old_panels : PanelTable) (stacking : Stacking) (r : Result T Refusal)
    (new : WindowTable) (new_panels : PanelTable) : Type 0 where
  pub refused : Refused (order_takes_memory (stacking_order (panels old_panels) stacking)) (stacking_refusal (windows old) (panels old_panels) stacking) r
  pub reply : IfOk r (λ t. reply_of t ≡ order_reply (stacking_order (panels old_panels) stacking))
  pub changed : OnOk r (windows new ≡ windows_after (windows old) (panels old_panels) (stacking_order (panels old_panels) stacking))
  pub arranged : OnOk r (panels new_panels ≡ after_stacking (panels old_panels) stacking)
  pub unchanged : OnErr r (new ≡ old)
  pub unordered : OnErr r (new_panels ≡ old_panels)

-- It was, with this answer. Only the proofs of a kind of call, and of what is damaged, look into it.
unfoldable pub Rearranges : WindowTable → PanelTable → Stacking → Result Reply Refusal → WindowTable → PanelTable → Type 0
Rearranges old old_panels stacking r new new_panels = Ordered (λ (reply : Reply). reply) old old_panels stacking r new new_panels

-- a call that only asks was refused exactly so; else this is its answer
pub record Answered (refusal : Option Refusal) (answer : Reply) (r : Result Reply Refusal) : Type 0 where
  pub refused : result_err r ≡ refusal
  pub reply : IfOk r (λ reply. reply ≡ answer)

-- it was made, and what is damaged is what windows show of its order; a refused one damages nothing
pub record OrderedDamaging (old : WindowTable) (old_panels : PanelTable) (stacking : Stacking) (damage : List (Option Columns)) (r : Result Reply Refusal)
    (new : WindowTable) (new_panels : PanelTable) (new_damage : List (Option Columns)) : Type 0 where
  pub call : Ordered (λ reply. reply) old old_panels stacking r new new_panels
  pub damaged : OnOk r (Damages old.columns (order_shows_at (windows old) (panels old_panels) (stacking_order (panels old_panels) stacking)) damage new_damage)
  pub undamaged : OnErr r (new_damage ≡ damage)
