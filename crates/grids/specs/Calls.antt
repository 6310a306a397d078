-- A call made on a table of windows.
use Rattle.std.specs.Prelude.{◌≡◌}
use Rattle.grids.specs.Names.{ℕ, Bool, false, IfOk, OnErr, OnOk, Option, Result, Some, result_err, Refusal, Change, after_change, change_reply, change_takes_memory, AreSoundWindows, copying_change}
use Rattle.grids.specs.Names.{copying_refusal, making_change, making_refusal, query_refusal, Refused, Copying, Making, Query, Reply}
use Rattle.grids.specs.Tables.{WindowTable, windows}

-- it was refused by its tests, and then nothing changed; else the answer and the windows are those of its effect
pub record Changed {T : Type 0} (reply_of : T → Reply) (old : WindowTable) (refusal : Option Refusal) (change : Change) (r : Result T Refusal) (new : WindowTable)
    : Type 0 where
  pub refused : Refused (change_takes_memory change) refusal r
  pub reply : IfOk r (λ t. reply_of t ≡ change_reply change)
  pub changed : OnOk r (windows new ≡ after_change (windows old) change)
  pub unchanged : OnErr r (new ≡ old)
  pub sound : AreSoundWindows (windows new)

-- as if no window were in a panel
abbrev in_no_panel : ℕ → Bool
in_no_panel w = false

-- of making and placing; which windows are in panels a table of windows doesn't know
abbrev pub Made : {T : Type 0} → (T → Reply) → WindowTable → Making → Result T Refusal → WindowTable → Type 0
Made reply_of old making r new = Changed reply_of old (making_refusal (windows old) in_no_panel making) (making_change (windows old) making) r new

-- of copies and marks
abbrev pub Marked : {T : Type 0} → (T → Reply) → WindowTable → Copying → Result T Refusal → WindowTable → Type 0
Marked reply_of old copying r new = Changed reply_of old (copying_refusal (windows old) copying) (copying_change (windows old) copying) r new

-- a query was refused exactly by its tests; else this is its answer
pub record Asked {T : Type 0} (table : WindowTable) (query : Query) (value : Option T) (r : Result T Refusal) : Type 0 where
  pub refused : result_err r ≡ query_refusal (windows table) query
  pub answer : IfOk r (λ t. value ≡ Some t)
  pub sound : AreSoundWindows (windows table)
