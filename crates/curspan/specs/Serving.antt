-- What the program does, by the words of its command line and the status that it answers.
use Rattle.std.specs.Prelude.{◌≡◌, ◌⊎◌, ◌<◌}
use Rattle.curspan.specs.Names.{ℕ, Bool, List, Option, Some, None, false, true, is_some, MatchOption, Text, ErrorKind, no_rendition, picture_of, World, first_world, picture, topmost_cursor, Seen}
use Rattle.curspan.specs.Names.{SourceSeen, count_after, last_line, ScriptEnd, Log, first_painter, world, ScriptEnds, read_failed, write_fault, ScreenOver, Checks, Asks, IsRefused, Sizes, text_of}
use Rattle.curspan.specs.Names.{SaysUnopened, printed_picture, Shows, LacksMemory, SaysFault, status_of, Explains, Complains, IsNotWritten, IsWritten, Outputs, outputs, OpenFault, Invocation, Screen}
use Rattle.curspan.specs.Names.{Job, Kind, Run, Paint, Show, Request, nothing_seen}
use Rattle.clap.specs.declared.error.kind.ErrorKind.TheVariants.{OutOfMemory}
use Rattle.curspan.specs.Files.{IsUnread, IsUnwritten}
use Rattle.commands.specs.declared.requests.Request.TheVariants as requests

-- ---- words that are refused

-- Memory ran out, or the words are refused by a kind, and that is said.
abbrev pub Refuses : Sizes → List Text → Outputs → Outputs → ℕ → Type 0
Refuses sizes words old new status = (kind : ErrorKind) × ((kind ≡ OutOfMemory) ⊎ IsRefused sizes words kind) × Explains kind old new status

-- ---- a script

-- The script that was read ran on a screen, and ended so. A failure was counted exactly where its end has such a fault.
-- After the lines of the calls the log gets a line about the fault, if there is one, and nothing else; none of a failed
-- write where nobody reads what the screen sends.
pub record RunsAndLogs {W : Type 0} (seen : W → Seen) (closed : W → Bool) (first last : ScreenOver W) (input rest : SourceSeen) (log log_after : Seen)
    (end : ScriptEnd) : Type 0 where
  pub logged : Seen
  pub script : ScriptEnds seen first last input rest log logged end
  pub reads : rest.failures ≡ count_after (read_failed end.fault) input.failures
  pub writes : (seen last.writer).failures ≡ count_after (is_some (write_fault end.fault)) (seen first.writer).failures
  pub logs : MatchOption end.fault (log_after ≡ logged) (λ fault. SaysFault (closed last.writer) fault logged log_after)

-- The same, but what the calls answer was thrown away, and no write of it failed: the log gets a line about the fault,
-- if there is one, and nothing else.
pub record RunsQuietly {W : Type 0} (seen : W → Seen) (closed : W → Bool) (first last : ScreenOver W) (input rest : SourceSeen) (log log_after : Seen)
    (end : ScriptEnd) : Type 0 where
  pub discarded : Seen
  pub script : ScriptEnds seen first last input rest nothing_seen discarded end
  pub heard : discarded.failures ≡ 0
  pub reads : rest.failures ≡ count_after (read_failed end.fault) input.failures
  pub writes : (seen last.writer).failures ≡ count_after (is_some (write_fault end.fault)) (seen first.writer).failures
  pub logs : MatchOption end.fault (log_after ≡ log) (λ fault. SaysFault (closed last.writer) fault log log_after)

-- The one or the other, by whether it is to be quiet.
abbrev pub RunsBy : Bool → {W : Type 0} → (W → Seen) → (W → Bool) → ScreenOver W → ScreenOver W → SourceSeen → SourceSeen → Seen → Seen → ScriptEnd → Type 0
RunsBy false seen closed first last input rest log log_after end = RunsAndLogs seen closed first last input rest log log_after end
RunsBy true seen closed first last input rest log log_after end = RunsQuietly seen closed first last input rest log log_after end

-- The screen was blank at first, and over a sink of which this had been seen.
pub record RunsScript {W : Type 0} (seen : W → Seen) (closed : W → Bool) (is_quiet : Bool) (job : Job) (input rest : SourceSeen) (sink log log_after : Seen)
    (last : ScreenOver W) (end : ScriptEnd) : Type 0 where
  pub first : ScreenOver W
  pub blank : world first.desk ≡ first_world job.lines job.cols
  pub unpainted : first.painter ≡ first_painter job.lines job.cols
  pub over : seen first.writer ≡ sink
  pub runs : RunsBy is_quiet seen closed first last input rest log log_after end

-- ---- run: the terminal bytes go to the output

-- The output took what the screen sent, and nothing else.
module _ {W : Type 0} (seen : W → Seen) (closed : W → Bool) where
  pub record Runs (is_quiet : Bool) (job : Job) (input rest : SourceSeen) (old new : Outputs) (status : ℕ) : Type 0 where
    pub last : ScreenOver W
    pub end : ScriptEnd
    pub script : RunsScript seen closed is_quiet job input rest old.output old.log new.log last end
    pub output : new.output ≡ seen last.writer
    pub shut : new.closed ≡ closed last.writer
    pub status_is : status ≡ status_of end

-- ---- paint: the terminal bytes are thrown away, and the picture is printed

-- the text of a world's picture, with the topmost's cursor
abbrev pub picture_text : World → List ℕ
picture_text world = printed_picture (picture_of world.windows.lines world.windows.columns (picture world)) (Some (topmost_cursor world)) no_rendition

-- A script that ends with a fault prints nothing. After another the picture is printed; or writing it failed, and the
-- log gets a line after those of the script, unless nobody reads the output.
abbrev pub Prints : ScriptEnd → World → Seen → Outputs → Outputs → ℕ → Type 0
Prints end world log_after old new status = MatchOption end.fault
    (((status ≡ status_of end) × IsWritten old.output new.output (picture_text world) × (new.log ≡ log_after))
    ⊎ ((status ≡ 3) × IsNotWritten old.output new.output (picture_text world) × Complains new.closed log_after new.log (last_line Log)))
    (λ fault. (status ≡ status_of end) × (new.output ≡ old.output) × (new.log ≡ log_after))

module _ {V : Type 0} (discarded : V → Seen) (unheard : V → Bool) where
  pub record Paints (is_quiet : Bool) (job : Job) (input rest : SourceSeen) (old new : Outputs) (status : ℕ) : Type 0 where
    pub last : ScreenOver V
    pub end : ScriptEnd
    pub log_after : Seen
    pub script : RunsScript discarded unheard is_quiet job input rest nothing_seen old.log log_after last end
    pub prints : Prints end (world last.desk) log_after old new status

-- ---- what is asked for

module _ {W V : Type 0} (seen : W → Seen) (closed : W → Bool) (discarded : V → Seen) (unheard : V → Bool) where
  -- What was asked for was done.
  abbrev pub DoesKind : Kind → Bool → Job → SourceSeen → SourceSeen → Outputs → Outputs → ℕ → Type 0
  DoesKind Run is_quiet job input rest old new status = Runs seen closed is_quiet job input rest old new status
  DoesKind Paint is_quiet job input rest old new status = Paints discarded unheard is_quiet job input rest old new status
  DoesKind Show is_quiet job input rest old new status = Shows job input rest old new status

  -- There was no memory for the screen, and nothing was read, or it was done.
  abbrev pub DoesJob : Bool → Job → SourceSeen → SourceSeen → Outputs → Outputs → ℕ → Type 0
  DoesJob is_quiet job input rest old new status =
      (LacksMemory Screen old new status × (rest ≡ input)) ⊎ DoesKind job.kind is_quiet job input rest old new status

  -- A job was done; or what is wrong with a script was reported.
  abbrev pub Does : Bool → Request → SourceSeen → SourceSeen → Outputs → Outputs → ℕ → Type 0
  Does is_quiet (requests.Job job) input rest old new status = DoesJob is_quiet job input rest old new status
  Does is_quiet requests.Check input rest old new status = Checks input rest old new status

-- ---- files

-- A status below 2 means that no write or flush of the log failed.
abbrev pub KeepsLog : Seen → Seen → ℕ → Type 0
KeepsLog log log_after status = status < 2 → log_after.failures ≡ log.failures

-- A file is named, and can't be opened for such a reason, and the log says so.
abbrev pub IsUnopened : (Text → OpenFault → Type 0) → Option Text → Seen → Seen → ℕ → Type 0
IsUnopened fails None log log_after status = ⊥
IsUnopened fails (Some name) log log_after status = (fault : OpenFault) × fails name fault × SaysUnopened name fault log log_after status

-- The source is as it was, or on the file that is named, of which nothing was read.
abbrev pub IsOpened : (Text → SourceSeen → Type 0) → Option Text → SourceSeen → SourceSeen → Type 0
IsOpened opens None input opened = opened ≡ input
IsOpened opens (Some name) input opened = opens name opened × IsUnread opened

-- The log is as it was, or on the file that is named, to which nothing was written.
abbrev pub IsCreated : (Text → Seen → Type 0) → Option Text → Seen → Seen → Type 0
IsCreated creates None log created = created ≡ log
IsCreated creates (Some name) log created = creates name created × IsUnwritten created

module _ {W V : Type 0} (seen : W → Seen) (closed : W → Bool) (discarded : V → Seen) (unheard : V → Bool) (opens : Text → SourceSeen → Type 0)
    (unopened : Text → OpenFault → Type 0) where
  -- The script that is named can't be opened, and nothing was read or sent; or it was opened, or none is named, and
  -- what is asked for was done with what is read.
  abbrev pub ServesScript : Invocation → SourceSeen → SourceSeen → Outputs → Outputs → ℕ → Type 0
  ServesScript invocation input rest old new status =
      (IsUnopened unopened (text_of invocation.script) old.log new.log status × (new.output ≡ old.output) × (rest ≡ input))
      ⊎ ((opened : SourceSeen) × IsOpened opens (text_of invocation.script) input opened
      × Does seen closed discarded unheard invocation.is_quiet invocation.request opened rest old new status × KeepsLog old.log new.log status)

  -- The log that is named can't be made beside the script, and nothing was read or sent; or it was made, or none is named, and what is
  -- asked for was done with the script and this log.
  abbrev pub ServesInvocation : (Text → Seen → Type 0) → (Text → Option Text → OpenFault → Type 0) → Invocation → SourceSeen → SourceSeen → Outputs → Outputs → ℕ → Type 0
  ServesInvocation creates uncreated invocation input rest old new status =
      (IsUnopened (λ name. uncreated name (text_of invocation.script)) (text_of invocation.log) old.log new.log status × (new.output ≡ old.output) × (rest ≡ input))
      ⊎ ((log : Seen) × IsCreated creates (text_of invocation.log) old.log log
      × ServesScript invocation input rest (outputs old.output old.closed log) new status)

  -- ---- the program

  -- The words are refused, and nothing is read; or they ask for something, and it was done.
  abbrev pub Serves : (Text → Seen → Type 0) → (Text → Option Text → OpenFault → Type 0) → Sizes → List Text → SourceSeen → SourceSeen → Outputs → Outputs → ℕ → Type 0
  Serves creates uncreated sizes words input rest old new status =
      (Refuses sizes words old new status × (rest ≡ input) × KeepsLog old.log new.log status)
      ⊎ ((invocation : Invocation) × Asks sizes words invocation × ServesInvocation creates uncreated invocation input rest old new status)
