-- What the rows of a subcommand say of a size: definitions for the contracts of single steps.
use Rattle.std.specs.Prelude.{◌≡◌}
use Rattle.commands.specs.Names.{List, Option, Row, Text, ErrorKind}
use Rattle.clap.specs.declared.error.kind.ErrorKind.TheVariants as errors
use Rattle.commands.specs.CommandLine.{LacksSize, LacksSizes, Sizes, SizesOf, is_quiet_by, kind_text, log_by, script_by, text_of}
use Rattle.commands.specs.declared.requests.Invocation.{Invocation}
use Rattle.commands.specs.declared.requests.Kind.{Kind}
use Rattle.commands.specs.declared.requests.Request.{Request}
use Rattle.commands.specs.declared.requests.Request.TheVariants as requests
use Rattle.commands.specs.declared.sizes.NoSize.{NoSize}
use Rattle.commands.specs.declared.sizes.NoSize.TheVariants.{Missing, Bad}

-- the kind of error that says why there is no size
abbrev pub error_kind : NoSize → ErrorKind
error_kind Missing = errors.MissingRequiredArgument
error_kind Bad = errors.ValueValidation

-- The text gives no size, for this reason.
abbrev pub HasNoSize : Option Text → NoSize → Type 0
HasNoSize text fault = LacksSize text (error_kind fault)

-- A job was asked for, by what the rows say; or the name is none of a job.
abbrev pub RequestBy : Sizes → Text → List Row → Request → Type 0
RequestBy sizes name rows (requests.Job job) = (name ≡ kind_text job.kind) × SizesOf sizes rows job
RequestBy sizes name rows requests.Check = (kind : Kind) → name ≡ kind_text kind → ⊥

-- what the rows of a subcommand of that name ask for
pub record AsksBy (sizes : Sizes) (name : Text) (rows : List Row) (invocation : Invocation) : Type 0 where
  pub request : RequestBy sizes name rows invocation.request
  pub script : text_of invocation.script ≡ script_by rows
  pub log : text_of invocation.log ≡ log_by rows
  pub quiet : invocation.is_quiet ≡ is_quiet_by rows

-- a subcommand of that name wants a size which the rows don't give
abbrev pub IsRefusedBy : Sizes → Text → List Row → ErrorKind → Type 0
IsRefusedBy sizes name rows kind = ((job : Kind) × (name ≡ kind_text job)) × LacksSizes sizes rows kind
