-- A call on panels, made on a table of panels.
use Rattle.std.specs.Prelude.{◌≡◌}
use Rattle.stack.specs.Names.{ℕ, AllByRecursion, Bool, IfOk, List, None, OnErr, OnOk, Option, Result, Some, filter_map, map, result_err, Panels, WinId, first_of, Refusal, order_reply, order_takes_memory, Refused, Windows, IsSoundOrder}
use Rattle.stack.specs.Names.{after_stacking, stacking_order, stacking_refusal, Reply, Stacking}
use Rattle.stack.specs.Tables.{PanelTable, panels}

-- it was refused by its tests of panels, and then nothing changed; else the answer and the panels are those of its
-- effect
pub record Arranged {T : Type 0} (reply_of : T → Reply) (tests : List (Bool × Refusal)) (old : PanelTable) (stacking : Stacking) (r : Result T Refusal)
    (new : PanelTable) : Type 0 where
  pub refused : Refused (order_takes_memory (stacking_order (panels old) stacking)) (first_of tests) r
  pub reply : IfOk r (λ t. reply_of t ≡ order_reply (stacking_order (panels old) stacking))
  pub arranged : OnOk r (panels new ≡ after_stacking (panels old) stacking)
  pub unchanged : OnErr r (new ≡ old)
  pub sound : IsSoundOrder (panels new)

-- the tests of a query speak of no window, so they are the same where there is none
abbrev pub no_windows : Windows
no_windows = record { lines = 0; columns = 0; window = λ w. None }

-- a query was refused exactly by its tests; else this is what its answer says
pub record Asked {T A : Type 0} (table : PanelTable) (query : Stacking) (value : A) (said_by : T → A) (r : Result T Refusal) : Type 0 where
  pub refused : result_err r ≡ stacking_refusal no_windows (panels table) query
  pub answer : IfOk r (λ t. value ≡ said_by t)

-- an answer says the number of a window, or yes or no
abbrev pub window_number : WinId → Option ℕ
window_number win = Some win.0

abbrev pub as_is : Bool → Bool
as_is flag = flag

-- these are the panels of an order, each with its window
pub record AreWithWindows (panels : Panels) (visible : List ℕ) (shown : List (ℕ × ℕ)) : Type 0 where
  pub numbers : map (λ s. s.0) shown ≡ visible
  pub windows : map (λ s. s.1) shown ≡ filter_map panels.window visible
  pub each : AllByRecursion (λ s. panels.window s.0 ≡ Some s.1) shown
