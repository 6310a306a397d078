-- What a call from C does to a handle. This file has the one relation of a call, for all calls.
use Rattle.std.specs.Prelude.{◌≡◌, Option, Some, None, Result}
use Rattle.world.specs.declared.call.Call.{Call}
use Rattle.world.specs.declared.call.Reply.{Reply}
use Rattle.desk.specs.declared.screen.Fault.{Fault}
use Rattle.desk.specs.Methods.{CallMade}
use Rattle.streams.specs.declared.sink.Sink.{Ghosts}
use Rattle.capi.specs.Outlets.{Outlet}
use Rattle.capi.specs.declared.answer.Answer.{Answer}
use Rattle.capi.specs.declared.c_screen.CScreen.{CScreen}
use Rattle.capi.specs.Answers.{closed, of_end}

module _ (sink : Ghosts Outlet) where
  -- The call was made on the screen, ended so, and C gets that answer.
  pub record Makes (old : CScreen) (call : Call) (answer : Answer) (new : CScreen) : Type 0 where
    pub end : Result Reply Fault
    pub made : CallMade sink.seen sink.name old.screen call end new.screen
    pub answer_is : answer ≡ of_end end

  -- A closed handle stays closed, and an open one open.
  abbrev pub Called : Option CScreen → Call → Answer → Option CScreen → Type 0
  Called None call answer new = (answer ≡ closed) × (new ≡ None)
  Called (Some old) call answer new = (after : CScreen) × Makes old call answer after × (new ≡ Some after)

  -- A call that only asks was made, and the handle has what it had.
  abbrev pub Asked : Option CScreen → Call → Answer → Option CScreen → Type 0
  Asked old query answer new = Called old query answer new × (new ≡ old)
