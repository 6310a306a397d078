-- Opening a screen, taking its bytes, and forgetting what its terminal shows.
use Rattle.std.specs.Prelude.{◌≡◌, ◌≤◌, ◌<◌, ◌++◌, ◌⊎◌, ℕ, List, [], drop, length, Option, Some, None, Err}
use Rattle.cell.specs.declared.refusal.Refusal.{Refusal}
use Rattle.cell.specs.declared.refusal.Refusal.TheVariants.{NoMemory}
use Rattle.world.specs.calls.Making.{new_refusal}
use Rattle.desk.specs.declared.screen.Fault.TheVariants.{Refused}
use Rattle.capi.specs.declared.answer.Answer.{Answer}
use Rattle.capi.specs.declared.c_screen.CScreen.{CScreen}
use Rattle.capi.specs.Answers.{of_end, ok}
use Rattle.capi.specs.Held.{IsBlank, pending}

-- There is a blank screen in the handle, whatever was there before.
pub record OpenedBlank (lines columns : ℕ) (answer : Answer) (new : Option CScreen) : Type 0 where
  pub screen : CScreen
  pub allowed : new_refusal lines columns ≡ None
  pub answer_is : answer ≡ ok 0 0
  pub blank : IsBlank lines columns screen
  pub now : new ≡ Some screen

-- No screen has that size, or there is no memory; and the handle is as before.
pub record NotOpened (lines columns : ℕ) (old : Option CScreen) (answer : Answer) (new : Option CScreen) : Type 0 where
  pub refusal : Refusal
  pub why : (new_refusal lines columns ≡ Some refusal) ⊎ ((new_refusal lines columns ≡ None) × (refusal ≡ NoMemory))
  pub answer_is : answer ≡ of_end (Err (Refused refusal))
  pub same : new ≡ old

abbrev pub Opened : ℕ → ℕ → Option CScreen → Answer → Option CScreen → Type 0
Opened lines columns old answer new = OpenedBlank lines columns answer new ⊎ NotOpened lines columns old answer new

-- Where there is room the bytes go out, and the rest of the buffer stays; and else they stay pending. The windows and
-- what is known of the terminal stay.
pub record TakenFrom (old : CScreen) (out : List ℕ) (count : ℕ) (out' : List ℕ) (new : CScreen) : Type 0 where
  pub desk : new.screen.desk ≡ old.screen.desk
  pub painter : new.screen.painter ≡ old.screen.painter
  pub all : count ≡ length (pending old)
  pub moved : count ≤ length out → (out' ≡ pending old ++ drop count out) × (pending new ≡ [])
  pub kept : length out < count → (out' ≡ out) × (pending new ≡ pending old)

-- nothing, where the handle is closed
abbrev pub Taken : Option CScreen → List ℕ → ℕ → List ℕ → Option CScreen → Type 0
Taken None out count out' new = (count ≡ 0) × (out' ≡ out) × (new ≡ None)
Taken (Some old) out count out' new = (after : CScreen) × TakenFrom old out count out' after × (new ≡ Some after)

-- What the terminal shows is unknown. The windows stay, and so do the pending bytes.
pub record ForgottenOf (old new : CScreen) : Type 0 where
  pub desk : new.screen.desk ≡ old.screen.desk
  pub writer : new.screen.writer ≡ old.screen.writer
  pub painter : new.screen.painter ≡ record old.screen.painter { last = None }

abbrev pub Forgotten : Option CScreen → Option CScreen → Type 0
Forgotten None new = new ≡ None
Forgotten (Some old) new = (after : CScreen) × ForgottenOf old after × (new ≡ Some after)
