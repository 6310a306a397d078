-- How calls on a screen end, and what they do to it.
use Rattle.std.specs.Prelude.{◌≡◌, ◌≤◌, ◌==◌, ◌||◌, ◌∷◌, ◌++◌}
use Rattle.desk.specs.Names.{ℕ, List, [], Bool, true, false, length, take, Option, Some, None, Result, Ok, Err, count_by, sum_by, list_any, Appends, count_after, Seen, IsUpdateText, WriteFault}
use Rattle.desk.specs.Names.{CountsReads, MayRefuse, world, is_doupdate, Call, Reply}
use Rattle.desk.specs.States.{IsWithin, ScreenOver, after, state_of, wanted}
use Rattle.desk.specs.Runs.{Outcome, AreShort, MayAnswer, Run, all_sent, cells_read, flushes_after, is_accepted, is_refused, state_at_end}
use Rattle.desk.specs.Reads.{CountGrew, ReadsFew, with_acceptance}
use Rattle.desk.specs.declared.screen.Fault.{Fault}
use Rattle.desk.specs.declared.screen.Fault.TheVariants.{Refused, Write}
use Rattle.desk.specs.declared.screen.RunEnd.{RunEnd}

-- the fault of a doupdate whose text was cut short
abbrev pub cut_of : Result Reply Fault → Option WriteFault
cut_of (Err (Write fault)) = Some fault
cut_of _ = None

abbrev pub begins_with_doupdate : List Call → Bool
begins_with_doupdate [] = false
begins_with_doupdate (call ∷ calls) = is_doupdate call

module _ {W : Type 0} (seen : W → Seen) where
  -- the writer took these bytes between the two
  abbrev pub Took : ScreenOver W → ScreenOver W → List ℕ → Type 0
  Took old new bytes = Appends (seen old.writer).taken (seen new.writer).taken bytes

  -- The writer took these bytes in these calls. Each doupdate flushed it, once, after its text, and no other call did.
  pub record Writes (old new : ScreenOver W) (calls : List Call) (bytes : List ℕ) : Type 0 where
    pub taken : Took old new bytes
    pub flushes : (seen new.writer).flushes ≡ flushes_after (seen old.writer).flushes calls
    pub flushed : (seen new.writer).flushed ≡ (list_any is_doupdate calls || (seen old.writer).flushed)

  -- A doupdate sent a prefix of its text, and where that is all of it, tried a flush. What was shown last is unknown
  -- now, and nothing else changed.
  pub record IsCut (old new : ScreenOver W) (fault : WriteFault) : Type 0 where
    pub state : state_of new ≡ record (state_of old) { painter = record old.painter { last = None } }
    pub text : List ℕ
    pub is_text : IsUpdateText old.painter old.desk.virtual.clear (wanted (world old.desk)) text
    pub within : fault.sent ≤ length text
    pub bytes : Took old new (take fault.sent text)
    pub flushes : (seen new.writer).flushes ≡ count_after (fault.sent == length text) (seen old.writer).flushes
    pub counted : new.desk.cells_read ≡ old.desk.cells_read

  -- A call was answered: it did what it says, and the writer took the bytes that it may send.
  pub record IsAnswered (old : ScreenOver W) (call : Call) (reply : Reply) (new : ScreenOver W) : Type 0 where
    pub state : IsWithin (state_of new) (after (state_of old) call)
    pub sent : List ℕ
    pub answer : MayAnswer (state_of old) call (Ok reply) sent
    pub writes : Writes old new (call ∷ []) sent
    pub counted : CountsReads old.desk call reply new.desk

  -- One call ended so.
  abbrev pub CallEnds : ScreenOver W → Call → Result Reply Fault → ScreenOver W → Type 0
  CallEnds old call (Ok reply) new = IsAnswered old call reply new
  CallEnds old call (Err (Refused e)) new = MayRefuse (world old.desk) call e × (new ≡ old)
  CallEnds old call (Err (Write fault)) new = (is_doupdate call ≡ true) × IsCut old new fault

  -- These calls were made one after another, and had these outcomes. Each doupdate sent few bytes, and the
  -- update_panels read few cells.
  pub record Makes (old : ScreenOver W) (calls : List Call) (outcomes : List Outcome) (new : ScreenOver W) : Type 0 where
    pub run : Run (state_of old) calls outcomes
    pub short : AreShort (state_of old) calls outcomes
    pub reads : ReadsFew (state_of old) (with_acceptance calls outcomes) (sum_by cells_read outcomes)
    pub state : IsWithin (state_of new) (state_at_end (state_of old) calls outcomes)
    pub writes : Writes old new calls (all_sent outcomes)
    pub counted : CountGrew (sum_by cells_read outcomes) old.desk new.desk

  -- The calls that are left are none, or begin with a doupdate whose text was cut short.
  abbrev pub Stops : ScreenOver W → List Call → Option WriteFault → ScreenOver W → Type 0
  Stops old left None new = (left ≡ []) × (new ≡ old)
  Stops old left (Some fault) new = (begins_with_doupdate left ≡ true) × IsCut old new fault

  -- A run of calls ended so.
  pub record RunEnds (old : ScreenOver W) (calls : List Call) (end : RunEnd) (new : ScreenOver W) : Type 0 where
    pub made : List Call
    pub left : List Call
    pub outcomes : List Outcome
    pub at_stop : ScreenOver W
    pub parts : calls ≡ made ++ left
    pub makes : Makes old made outcomes at_stop
    pub stop : Stops at_stop left end.fault new
    pub done : end.done ≡ count_by is_accepted outcomes
    pub refused : end.refused ≡ count_by is_refused outcomes
    pub composed : end.composed ≡ sum_by cells_read outcomes
    pub reads : ReadsFew (state_of old) (with_acceptance made outcomes) end.composed
    pub counted : CountGrew end.composed old.desk new.desk
