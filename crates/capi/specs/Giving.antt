-- Cells that C gives.
use Rattle.std.specs.Prelude.{◌≡◌, ℕ, List, Option, Some, None, Result, Ok, Err}
use Rattle.cell.specs.declared.refusal.Refusal.{Refusal}
use Rattle.cell.specs.declared.window.Rect.{Rect}
use Rattle.world.specs.declared.call.Reply.{Reply}
use Rattle.world.specs.declared.call.Reply.TheVariants.{Nothing}
use Rattle.compose.specs.Desks.{DeskTable}
use Rattle.compose.specs.Giving.{Filled, RowPut}
use Rattle.desk.specs.declared.screen.Fault.{Fault}
use Rattle.desk.specs.declared.screen.Fault.TheVariants.{Refused}
use Rattle.capi.specs.declared.answer.Answer.{Answer}
use Rattle.capi.specs.declared.c_screen.CScreen.{CScreen}
use Rattle.capi.specs.Answers.{closed, of_end}
use Rattle.capi.specs.Numbers.{saturated}

-- nothing is answered, but why they were refused
abbrev pub end_of_giving : Result (Unit {0}) Refusal → Result Reply Fault
end_of_giving (Ok done) = Ok Nothing
end_of_giving (Err e) = Err (Refused e)

module _ (Given : DeskTable → Result (Unit {0}) Refusal → DeskTable → Type 0) where
  -- They were given to the desk of the screen, of which nothing else changed, and C gets that answer.
  pub record Gives (old : CScreen) (answer : Answer) (new : CScreen) : Type 0 where
    pub end : Result (Unit {0}) Refusal
    pub given : Given old.screen.desk end new.screen.desk
    pub rest : new ≡ record old { screen = record old.screen { desk = new.screen.desk } }
    pub answer_is : answer ≡ of_end (end_of_giving end)

  -- A closed handle stays closed, and an open one open.
  abbrev pub GivenTo : Option CScreen → Answer → Option CScreen → Type 0
  GivenTo None answer new = (answer ≡ closed) × (new ≡ None)
  GivenTo (Some old) answer new = (after : CScreen) × Gives old answer after × (new ≡ Some after)

-- one cell in a rectangle, and a row of cells in a line
abbrev pub IsFill : ℕ → Rect → ℕ → DeskTable → Result (Unit {0}) Refusal → DeskTable → Type 0
IsFill w rect number old end new = Filled old w rect number end new

abbrev pub IsRow : ℕ → ℕ → ℕ → List ℕ → DeskTable → Result (Unit {0}) Refusal → DeskTable → Type 0
IsRow w y x numbers old end new = RowPut old w y x numbers end new

abbrev pub rect_of : ℕ → ℕ → ℕ → ℕ → Rect
rect_of top left bottom right = record { top = saturated top; left = saturated left; bottom = saturated bottom; right = saturated right }
