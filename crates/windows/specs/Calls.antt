-- A call that writes in a window, copies to it, or sets how it is written in, made on a table of windows.
use Rattle.std.specs.Prelude.{◌≡◌}
use Rattle.windows.specs.Names.{ℕ, IfOk, None, OnErr, OnOk, Option, Result, result_err, Refusal, Rect, Change, Edit, after_change, change_frame, edits, sets, AreSoundWindows, copying_change, copying_refusal}
use Rattle.windows.specs.Names.{writing_edit, writing_refusal, Copying, Writing, WindowTable, windows}

-- it was refused exactly by its tests, and then nothing changed; else the frame and the windows are those of its effect
pub record Drew {T : Type 0} (frame_of : T → Option Rect) (old : WindowTable) (refusal : Option Refusal) (change : Change) (r : Result T Refusal) (new : WindowTable)
    : Type 0 where
  pub refused : result_err r ≡ refusal
  pub written : OnOk r (windows new ≡ after_change (windows old) change)
  pub frame : IfOk r (λ t. frame_of t ≡ change_frame (windows old) change)
  pub unchanged : OnErr r (new ≡ old)
  pub sound : AreSoundWindows (windows new)

abbrev pub Wrote : {T : Type 0} → (T → Option Rect) → WindowTable → Writing → Result T Refusal → WindowTable → Type 0
Wrote frame_of old writing r new = Drew frame_of old (writing_refusal (windows old) writing) (edits (writing_edit (windows old) writing)) r new

abbrev pub Copied : {T : Type 0} → (T → Option Rect) → WindowTable → Copying → Result T Refusal → WindowTable → Type 0
Copied frame_of old copying r new = Drew frame_of old (copying_refusal (windows old) copying) (copying_change (windows old) copying) r new

-- it sets how window w is written in, and writes no cell
abbrev pub IsSetting : ℕ → Edit → Type 0
IsSetting w (sets u change) = u ≡ w
IsSetting w edit = ⊥

-- of a call that writes no cell
abbrev pub no_frame : Unit {0} → Option Rect
no_frame done = None

-- of one that answers its frame
abbrev pub its_frame : Option Rect → Option Rect
its_frame frame = frame
