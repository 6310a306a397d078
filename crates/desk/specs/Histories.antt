-- A history of a screen: calls in order, gone on with after each refusal and each failed write; and what terminals show
-- after it.
-- X/Open Curses Issue 7: doupdate shows the virtual screen.
use Rattle.std.specs.Prelude.{◌≡◌, ◌∷◌, ◌++◌, if◌then◌else◌}
use Rattle.desk.specs.Names.{ℕ, List, [], Bool, true, false, Option, None, Result, Ok, Err, ⊤, count_by, is_ok, is_some, map, sum_by, Appends, Terminal, LeadsWithBreaks, Seen, WriteFault, Agrees}
use Rattle.desk.specs.Names.{cells_of_reply, world, is_doupdate, Call, Reply}
use Rattle.desk.specs.States.{ScreenOver}
use Rattle.desk.specs.Ends.{cut_of}
use Rattle.desk.specs.Methods.{CallMade}
use Rattle.desk.specs.Showing.{AfterAgreeing, EndsInDoupdate, EndsInUpdate, OnAny, ShowsWorld, showing_virtual}
use Rattle.desk.specs.declared.screen.Fault.{Fault}
use Rattle.desk.specs.declared.screen.Fault.TheVariants.{Refused}
use Rattle.desk.specs.declared.history.RunAllEnd.{RunAllEnd}

-- one call of a history: how it ended, and the screen after it
pub record Step (W : Type 0) : Type 0 where
  pub call : Call
  pub end : Result Reply Fault
  pub screen : ScreenOver W

abbrev pub calls_in : {W : Type 0} → List (Step W) → List Call
calls_in = map (λ step. step.call)

-- the screen after a history that began on one
abbrev pub screen_after : {W : Type 0} → ScreenOver W → List (Step W) → ScreenOver W
screen_after screen [] = screen
screen_after screen (step ∷ steps) = screen_after step.screen steps

-- ---- what is counted of it

abbrev pub is_done : {W : Type 0} → Step W → Bool
is_done step = is_ok step.end

-- the call was refused
abbrev pub refuses : Result Reply Fault → Bool
refuses (Err (Refused refusal)) = true
refuses _ = false

abbrev pub is_refused_step : {W : Type 0} → Step W → Bool
is_refused_step step = refuses step.end

-- a doupdate whose text was cut short
abbrev pub is_cut : {W : Type 0} → Step W → Bool
is_cut step = is_some (cut_of step.end)

abbrev pub cells_of_end : Result Reply Fault → ℕ
cells_of_end (Ok reply) = cells_of_reply reply
cells_of_end _ = 0

abbrev pub cells_in : {W : Type 0} → Step W → ℕ
cells_in step = cells_of_end step.end

-- the fault of the last doupdate, if it had one, after a fault or none
abbrev pub fault_after : {W : Type 0} → Option WriteFault → List (Step W) → Option WriteFault
fault_after fault [] = fault
fault_after fault (step ∷ steps) = fault_after (if is_doupdate step.call then cut_of step.end else fault) steps

abbrev pub last_fault : {W : Type 0} → List (Step W) → Option WriteFault
last_fault = fault_after None

-- ---- what terminals show after it

module _ {W : Type 0} (seen : W → Seen) where
  -- The writer took these bytes in a history of these calls, in which any number of writes failed. All that was sent
  -- before, if it agreed with the painter, agrees with it again when the bytes follow. Where the calls end in doupdate,
  -- and this one had no fault, all of it shows the virtual screen, and where they end in update_panels and doupdate,
  -- the world after the history; and if the painter knew nothing when it began, as that of a screen just made, then
  -- these bytes alone show it on any terminal. Where writes failed, sequences may be unfinished.
  pub record HistoryShows (old new : ScreenOver W) (calls : List Call) (fault : Option WriteFault) : Type 0 where
    pub bytes : List ℕ
    pub taken : Appends (seen old.writer).taken (seen new.writer).taken bytes
    pub agrees : AfterAgreeing old (λ stream t. Agrees new.painter (stream ++ bytes) t)
    pub shows_virtual : EndsInDoupdate calls → fault ≡ None → AfterAgreeing old (λ stream t. LeadsWithBreaks (stream ++ bytes) t (showing_virtual (world new.desk)))
    pub shows_virtual_on_any : EndsInDoupdate calls → fault ≡ None → OnAny old (λ t. LeadsWithBreaks bytes t (showing_virtual (world new.desk)))
    pub shows : EndsInUpdate calls → fault ≡ None
        → AfterAgreeing old (λ stream t. (u : Terminal) × LeadsWithBreaks (stream ++ bytes) t u × ShowsWorld (world new.desk) u)
    pub shows_on_any : EndsInUpdate calls → fault ≡ None → OnAny old (λ t. (u : Terminal) × LeadsWithBreaks bytes t u × ShowsWorld (world new.desk) u)

module _ {W : Type 0} (seen : W → Seen) (name : W → ℕ) where
  -- Each call was made on the screen that the one before left, whether that was accepted, was refused or had a fault.
  abbrev pub AreMade : ScreenOver W → List (Step W) → Type 0
  AreMade screen [] = ⊤
  AreMade screen (step ∷ steps) = CallMade seen name screen step.call step.end step.screen × AreMade step.screen steps

  -- All calls were made, and so many of them ended so.
  pub record RunsAll (old : ScreenOver W) (calls : List Call) (end : RunAllEnd) (new : ScreenOver W) : Type 0 where
    pub steps : List (Step W)
    pub calls_are : calls_in steps ≡ calls
    pub made : AreMade old steps
    pub left : screen_after old steps ≡ new
    pub done : end.done ≡ count_by is_done steps
    pub refused : end.refused ≡ count_by is_refused_step steps
    pub failed : end.failed ≡ count_by is_cut steps
    pub composed : end.composed ≡ sum_by cells_in steps
    pub fault : end.fault ≡ last_fault steps

  -- All that is known of a history. What `HistoryShows` says holds after each of its calls.
  pub record HistoryEnds (old : ScreenOver W) (calls : List Call) (end : RunAllEnd) (new : ScreenOver W) : Type 0 where
    pub run : RunsAll old calls end new
    pub shown : (first rest : List (Step W)) → run.steps ≡ first ++ rest → HistoryShows seen old (screen_after old first) (calls_in first) (last_fault first)
