-- The command line, in the words of clap's definition of a simple command.
use Rattle.std.specs.Prelude.{◌≡◌, ◌⊎◌, ◌∷◌, ◌<◌, ◌^◌, if◌then◌else◌}
use Rattle.commands.specs.Names.{ℕ, Bool, List, [], true, false, fold, pos, codes, Option, Some, None, IsSomeAnd, option_and_then, option_map, Bor, option_map_or, option_or, bytes_eq, IsNumeral}
use Rattle.commands.specs.Names.{digits_value, without_leading_plus, App, IsAmong, Row, Text, fault_of, first_of, new_app, new_rule, subcommand_of, with_rule, with_subcommand, Set, SetTrue}
use Rattle.commands.specs.Names.{ErrorKind, is_no_size, LARGEST_SCREEN}
use Rattle.clap.specs.Words.{Rule}
use Rattle.clap.specs.declared.builder.value_parser.ValueParser.TheVariants as parsers
use Rattle.clap.specs.declared.error.kind.ErrorKind.TheVariants as errors
use Rattle.commands.specs.declared.requests.Invocation.{Invocation}
use Rattle.commands.specs.declared.requests.Request.{Request}
use Rattle.commands.specs.declared.requests.Request.TheVariants as requests
use Rattle.commands.specs.declared.requests.Job.{Job}
use Rattle.commands.specs.declared.requests.Kind.{Kind}
use Rattle.commands.specs.declared.requests.Kind.TheVariants.{Run, Paint, Show}
use Rattle.commands.specs.declared.requests.Variables.{Variables}

-- ---- the definition

-- an option for a number of lines or columns that a screen may have
abbrev pub size_rule : Text → Rule
size_rule name = record (new_rule name) {
  long = Some name;
  value_names = 1;
  action = Some Set;
  parser = Some (parsers.Signed (pos 1) (pos LARGEST_SCREEN));
}

-- an option for the file that gets the log
abbrev pub log_rule : Rule
log_rule = record (new_rule (codes "log")) { long = Some (codes "log"); value_names = 1; action = Some Set }

-- the file that is read, a word without an option
abbrev pub file_rule : Rule
file_rule = record (new_rule (codes "file")) { value_names = 1; action = Some Set }

-- a flag by which answers aren't logged
abbrev pub quiet_rule : Rule
quiet_rule = record (new_rule (codes "quiet")) { long = Some (codes "quiet"); action = Some SetTrue }

abbrev pub with_size : App → App
with_size app = with_rule (with_rule app (size_rule (codes "lines"))) (size_rule (codes "cols"))

abbrev pub with_files : App → App
with_files app = with_rule (with_rule app log_rule) file_rule

-- a subcommand that needs a screen, by its name
abbrev pub on_screen : Text → App
on_screen name = with_files (with_size (new_app name))

-- a command that has a version and is nothing without a subcommand
abbrev pub demanding : App → App
demanding a = record { top = record a.top { has_version = true; subcommand_required = true }; subs = a.subs }

abbrev pub bare : App
bare = demanding (new_app (codes "curspan"))

-- the subcommands, and their names
abbrev pub kinds : List Kind
kinds = Run ∷ Paint ∷ Show ∷ []

abbrev pub kind_text : Kind → Text
kind_text Run = codes "run"
kind_text Paint = codes "paint"
kind_text Show = codes "show"

-- the subcommands that need a screen
abbrev pub mode : Kind → App
mode Run = with_rule (on_screen (kind_text Run)) quiet_rule
mode Paint = with_rule (on_screen (kind_text Paint)) quiet_rule
mode Show = on_screen (kind_text Show)

-- the subcommand that needs none
abbrev pub check_text : Text
check_text = codes "check"

abbrev pub check_mode : App
check_mode = with_files (new_app check_text)

abbrev pub curspan : App
curspan = with_subcommand (fold (λ app kind. with_subcommand app (mode kind).top) bare kinds) check_mode.top

-- ---- a size

-- `u16` reads a number from the text
abbrev pub IsNumber : Text → Type 0
IsNumber text = IsNumeral 10 (without_leading_plus text) × (digits_value 10 (without_leading_plus text) < 2 ^ 16)

-- a number of lines or columns that a screen may have
abbrev pub IsSize : ℕ → Type 0
IsSize n = is_no_size LARGEST_SCREEN n ≡ false

-- a text says a size, in decimal digits, before which a plus may stand
pub record SaysSize (text : Text) (n : ℕ) : Type 0 where
  pub is_number : IsNumber text
  pub value : n ≡ digits_value 10 (without_leading_plus text)
  pub fits : IsSize n

-- the text of a variable, or a name, if there is one
abbrev pub text_of : Option (Bor Text) → Option Text
text_of = option_map (λ s. s.now)

-- the texts of the variables `LINES` and `COLUMNS`
pub record Sizes : Type 0 where
  pub lines : Option Text
  pub columns : Option Text

abbrev pub sizes_of : Variables → Sizes
sizes_of v = record { lines = text_of v.lines; columns = text_of v.columns }

-- the text of an option for a size, or where it is left out that of its variable
abbrev pub size_text : Option Text → Text → List Row → Option Text
size_text variable option rows = option_or (first_of option rows) variable

-- The text is there, and says the size.
abbrev pub GivesSize : Option Text → ℕ → Type 0
GivesSize text n = IsSomeAnd text (λ said. SaysSize said n)

-- The text isn't there, or says no size; by the kind of error that says so.
abbrev pub LacksSize : Option Text → ErrorKind → Type 0
LacksSize None kind = kind ≡ errors.MissingRequiredArgument
LacksSize (Some text) kind = ((n : ℕ) → SaysSize text n → ⊥) × (kind ≡ errors.ValueValidation)

-- the lines and the columns of a job are those of the options or the variables
pub record SizesOf (sizes : Sizes) (rows : List Row) (job : Job) : Type 0 where
  pub lines : GivesSize (size_text sizes.lines (codes "lines") rows) job.lines
  pub cols : GivesSize (size_text sizes.columns (codes "cols") rows) job.cols

-- the lines or the columns aren't given
abbrev pub LacksSizes : Sizes → List Row → ErrorKind → Type 0
LacksSizes sizes rows kind = LacksSize (size_text sizes.lines (codes "lines") rows) kind ⊎ LacksSize (size_text sizes.columns (codes "cols") rows) kind

-- ---- files

-- the name of the file to read, if one is named, and not standard input by a minus
abbrev pub script_by : List Row → Option Text
script_by rows = option_and_then (λ name. if bytes_eq name (codes "-") then None else Some name) (first_of (codes "file") rows)

abbrev pub log_by : List Row → Option Text
log_by = first_of (codes "log")

abbrev pub is_quiet_by : List Row → Bool
is_quiet_by rows = option_map_or (λ text. bytes_eq text (codes "true")) (first_of (codes "quiet") rows) false

-- ---- what words ask for

-- clap finds no fault in the words
abbrev pub IsTaken : List Text → Type 0
IsTaken words = fault_of curspan words ≡ []

-- A subcommand asks for this job: its kind is the one of that name, and its size is given and fits.
pub record AsksJob (sizes : Sizes) (name : Text) (rows : List Row) (job : Job) : Type 0 where
  pub named : name ≡ kind_text job.kind
  pub given : SizesOf sizes rows job
  pub lines : IsSize job.lines
  pub cols : IsSize job.cols

-- or for what is wrong with a script
abbrev pub AsksFor : Sizes → Text → List Row → Request → Type 0
AsksFor sizes name rows (requests.Job job) = AsksJob sizes name rows job
AsksFor sizes name rows requests.Check = name ≡ check_text

-- The words ask for this: they have no fault, and their subcommand and its options say so.
pub record Asks (sizes : Sizes) (words : List Text) (invocation : Invocation) : Type 0 where
  pub taken : IsTaken words
  pub name : Text
  pub rows : List Row
  pub subcommand : subcommand_of curspan words ≡ Some (name, rows)
  pub request : AsksFor sizes name rows invocation.request
  pub script : text_of invocation.script ≡ script_by rows
  pub log : text_of invocation.log ≡ log_by rows
  pub quiet : invocation.is_quiet ≡ is_quiet_by rows

-- The words have no fault, but their subcommand is to have a size which isn't given.
pub record HasNoScreen (sizes : Sizes) (words : List Text) (kind : ErrorKind) : Type 0 where
  pub taken : IsTaken words
  pub job : Kind
  pub rows : List Row
  pub subcommand : subcommand_of curspan words ≡ Some (kind_text job, rows)
  pub lacks : LacksSizes sizes rows kind

-- The words are refused by an error of this kind: clap gives it for them, or there is no size.
abbrev pub IsRefused : Sizes → List Text → ErrorKind → Type 0
IsRefused sizes words kind = IsAmong kind (fault_of curspan words) ⊎ HasNoScreen sizes words kind
