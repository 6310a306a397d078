-- A call made on a screen.
use Rattle.std.specs.Prelude.{◌≡◌, ◌∷◌}
use Rattle.desk.specs.Names.{ℕ, [], is_some, Result, count_after, Seen, world, IsSound, Call, Reply}
use Rattle.desk.specs.Ends.{CallEnds, cut_of}
use Rattle.desk.specs.Showing.{RunShows}
use Rattle.desk.specs.States.{KeepsSize, ScreenOver}
use Rattle.desk.specs.declared.screen.Fault.{Fault}

module _ {W : Type 0} (seen : W → Seen) (name : W → ℕ) where
  -- The call was made on a screen, and ended so: all that is known of it.
  pub record CallMade (old : ScreenOver W) (call : Call) (end : Result Reply Fault) (new : ScreenOver W) : Type 0 where
    pub ends : CallEnds seen old call end new
    pub shown : RunShows seen old new (call ∷ []) (cut_of end)
    pub failures : (seen new.writer).failures ≡ count_after (is_some (cut_of end)) (seen old.writer).failures
    pub same : name new.writer ≡ name old.writer
    pub sound : IsSound (world new.desk)
    pub size : KeepsSize old.desk new.desk
