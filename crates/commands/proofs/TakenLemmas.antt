-- Where clap refuses nothing of the words, they name a subcommand.
use Rattle.std.specs.Prelude.{◌≡◌, ◌⊎◌}
use Rattle.commands.specs.{ℕ, true, false, List, [], Option, Some, None, refl, sym, ap, drop, is_some, ◌∙◌, inl, inr, option_map_or, check_fault, entered_fault, Shape, built, built_leaf, entered}
use Rattle.commands.specs.{inherited, marked_built, with_leaf_noted, finished, nothing_held, rows_after, walk, walk_from, kind_of, subcommand_of, Error, ErrorKind, OutOfMemory, Asks, AsksFor}
use Rattle.commands.specs.{GivesSize, HasNoScreen, IsRefused, IsSize, IsTaken, Sizes, check_mode, check_text, curspan, kind_text, mode, AsksBy, IsRefusedBy, RequestBy}
use Rattle.clap.specs.Simple.{App}
use Rattle.clap.specs.Walk.{Row, Text}
use Rattle.commands.specs.declared.requests.Invocation.{Invocation}
use Rattle.commands.specs.declared.requests.Kind.{Kind}
use Rattle.commands.specs.declared.requests.Kind.TheVariants.{Run, Paint, Show}
use Rattle.commands.specs.declared.requests.Request.{Request}
use Rattle.commands.specs.declared.requests.Request.TheVariants as requests
use Rattle.commands.proofs.KindIsNamed.{StopsAtKind, level_passes, program_names, walk_stops}

-- ---- the two levels

abbrev program : App
program = built curspan

abbrev leaf : Kind → Shape
leaf kind = built_leaf (inherited (with_leaf_noted (marked_built curspan.top)) (mode kind).top)

abbrev check_leaf : Shape
check_leaf = built_leaf (inherited (with_leaf_noted (marked_built curspan.top)) check_mode.top)

-- The words are a subcommand's that needs a size.
pub record NamesKind (words : List Text) : Type 0 where
  pub kind : Kind
  pub rows : List Row
  pub subcommand : subcommand_of curspan words ≡ Some (kind_text kind, rows)

-- the program enters the level of the subcommand that is named
entered_taken : (kind : Kind) (words rest : List Text) → subcommand_of curspan words ≡ entered program (Some (kind_text kind, rest)) → NamesKind words
entered_taken Run words rest is = record { kind = Run; rows = rows_after (leaf Run).rules [] rest; subcommand = is }
entered_taken Paint words rest is = record { kind = Paint; rows = rows_after (leaf Paint).rules [] rest; subcommand = is }
entered_taken Show words rest is = record { kind = Show; rows = rows_after (leaf Show).rules [] rest; subcommand = is }

-- the words are those of the subcommand that needs no size
abbrev pub NamesCheck : List Text → Type 0
NamesCheck words = (rows : List Row) × (subcommand_of curspan words ≡ Some (check_text, rows))

-- or of another
abbrev NamesOne : List Text → Type 0
NamesOne words = NamesKind words ⊎ NamesCheck words

-- the subcommand at which the walk over the words stops
abbrev stop_at : List Text → Option (Text × List Text)
stop_at words = (walk program.top.rules program_names nothing_held (drop 1 words)).stopped

taken : (words : List Text) → IsTaken words → NamesOne words
taken words none =
    let passes = level_passes program.top program_names (drop 1 words) (is_some (entered program (stop_at words))) (entered_fault program (stop_at words)) none in
    go (stop_at words) refl (walk_stops program.top refl (drop 1 words) (walk_from nothing_held) passes.walks tt) passes.checks
  where
    go : (stop : Option (Text × List Text)) → subcommand_of curspan words ≡ entered program stop → StopsAtKind stop
        → check_fault program.top (finished program.top.rules (walk program.top.rules program_names nothing_held (drop 1 words)).held) (is_some (entered program stop)) ≡ [] → NamesOne words
    go None is stops check = cc
    go (Some p) is (inl stops) check =
        inl (entered_taken stops.0 words p.1 (is ∙ ap (λ n. entered program (Some (n, p.1))) stops.1))
    go (Some p) is (inr stops) check = inr (rows_after check_leaf.rules [] p.1, is ∙ ap (λ n. entered program (Some (n, p.1))) stops)

-- ---- what the words ask for

abbrev name_in : Option (Text × List Row) → Text
name_in o = option_map_or (λ p. p.0) o []

given_size : (text : Option Text) (n : ℕ) → GivesSize text n → IsSize n
given_size None n given = absurd given
given_size (Some text) n given = given.fits

check_asked : (words : List Text) (name : Text) (rows : List Row) → NamesOne words → subcommand_of curspan words ≡ Some (name, rows)
    → ((kind : Kind) → name ≡ kind_text kind → ⊥) → name ≡ check_text
check_asked words name rows (inl t) is none = absurd (none t.kind (ap name_in (sym is ∙ t.subcommand)))
check_asked words name rows (inr check) is none = ap name_in (sym is ∙ check.1)

request_asked : (sizes : Sizes) (words : List Text) (name : Text) (rows : List Row) (r : Request) → NamesOne words → subcommand_of curspan words ≡ Some (name, rows)
    → RequestBy sizes name rows r → AsksFor sizes name rows r
request_asked sizes words name rows (requests.Job job) one is by =
    record { named = by.0; given = by.1; lines = given_size _ job.lines by.1.lines; cols = given_size _ job.cols by.1.cols }
request_asked sizes words name rows requests.Check one is by = check_asked words name rows one is by

-- what a subcommand's rows ask for, the words do
pub asked : (sizes : Sizes) (words : List Text) (name : Text) (rows : List Row) (i : Invocation) → IsTaken words → subcommand_of curspan words ≡ Some (name, rows)
    → AsksBy sizes name rows i → Asks sizes words i
asked sizes words name rows i none is by = record {
  taken = none;
  name = name;
  rows = rows;
  subcommand = is;
  request = request_asked sizes words name rows i.request (taken words none) is by.request;
  script = by.script;
  log = by.log;
  quiet = by.quiet;
}

-- a size that isn't given
no_screen : (sizes : Sizes) (words : List Text) (name : Text) (rows : List Row) (kind : ErrorKind) → IsTaken words → subcommand_of curspan words ≡ Some (name, rows)
    → IsRefusedBy sizes name rows kind → HasNoScreen sizes words kind
no_screen sizes words name rows kind none is by =
    record { taken = none; job = by.0.0; rows = rows; subcommand = is ∙ ap (λ n. Some (n, rows)) by.0.1; lacks = by.1 }

pub refused_asked : (sizes : Sizes) (words : List Text) (name : Text) (rows : List Row) (e : Error) → IsTaken words → subcommand_of curspan words ≡ Some (name, rows)
    → (kind_of e ≡ OutOfMemory) ⊎ IsRefusedBy sizes name rows (kind_of e) → (kind_of e ≡ OutOfMemory) ⊎ IsRefused sizes words (kind_of e)
refused_asked sizes words name rows e none is (inl memory) = inl memory
refused_asked sizes words name rows e none is (inr by) = inr (inr (no_screen sizes words name rows (kind_of e) none is by))

-- such words name a subcommand
pub some_subcommand : (words : List Text) → IsTaken words → subcommand_of curspan words ≡ None → ⊥
some_subcommand words none is = go (taken words none)
  where
    go : NamesOne words → ⊥
    go (inl t) = let never : false ≡ true = ap is_some (sym is ∙ t.subcommand) in cc
    go (inr check) = let never : false ≡ true = ap is_some (sym is ∙ check.1) in cc
