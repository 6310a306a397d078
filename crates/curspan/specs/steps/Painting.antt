-- What `paint` does on a screen that is there, and what is asked for with a size of a screen.
use Rattle.curspan.specs.Names.{ℕ, Bool, ⊤, Seen, SourceSeen, ScriptEnd, world, ScreenOver, IsSize, Outputs, Request}
use Rattle.commands.specs.declared.requests.Request.TheVariants as requests
use Rattle.curspan.specs.Serving.{Prints, RunsBy}

-- A job has a size that a screen may have.
abbrev pub HasSize : Request → Type 0
HasSize (requests.Job job) = IsSize job.lines × IsSize job.cols
HasSize requests.Check = ⊤

module _ {V : Type 0} (discarded : V → Seen) (unheard : V → Bool) where
  pub record PaintsScreen (is_quiet : Bool) (first : ScreenOver V) (input rest : SourceSeen) (old new : Outputs) (status : ℕ) : Type 0 where
    pub last : ScreenOver V
    pub end : ScriptEnd
    pub log_after : Seen
    pub runs : RunsBy is_quiet discarded unheard first last input rest old.log log_after end
    pub prints : Prints end (world last.desk) log_after old new status
