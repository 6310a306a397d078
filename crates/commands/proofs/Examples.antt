-- What the definition of the command line says of some words, for its reader.
use Rattle.std.specs.Prelude.{◌≡◌, ◌∷◌}
use Rattle.commands.specs.{[], Bool, true, false, List, Option, None, Some, option_map, refl, codes, Row, Text, fault_of, one_of, subcommand_of, curspan, is_quiet_by, log_by, script_by}
use Rattle.clap.specs.Words.{Kinds}
use Rattle.clap.specs.declared.error.kind.ErrorKind.TheVariants as kind
use Rattle.clap.proofs.OnLiterals.{clap_on_literals}

-- the words after the program's name
abbrev faults : List Text → Kinds
faults words = fault_of curspan (codes "curspan" ∷ words)

-- the subcommand and the texts of its options
abbrev Options : Type 0
Options = Option (Text × Option Text × Option Text)

abbrev options_in : List Text → Options
options_in words = option_map (λ (p : Text × List Row). (p.0, one_of (codes "lines") p.1, one_of (codes "cols") p.1)) (subcommand_of curspan (codes "curspan" ∷ words))

four_by_ten : List Text
four_by_ten = codes "run" ∷ codes "--lines" ∷ codes "4" ∷ codes "--cols" ∷ codes "10" ∷ []

four_by_ten_is_taken : faults four_by_ten ≡ []
unfolding clap_on_literals four_by_ten
four_by_ten_is_taken = refl

options_in-four_by_ten : options_in four_by_ten ≡ Some (codes "run", Some (codes "4"), Some (codes "10"))
unfolding clap_on_literals four_by_ten
options_in-four_by_ten = refl

with_equals_signs : options_in (codes "run" ∷ codes "--cols=999" ∷ codes "--lines=1" ∷ []) ≡ Some (codes "run", Some (codes "1"), Some (codes "999"))
unfolding clap_on_literals
with_equals_signs = refl

no_words : faults [] ≡ kind.MissingSubcommand ∷ []
unfolding clap_on_literals
no_words = refl

no_size : options_in (codes "run" ∷ codes "--lines" ∷ codes "4" ∷ []) ≡ Some (codes "run", Some (codes "4"), None)
unfolding clap_on_literals
no_size = refl

-- the name of the script and of the log, and whether it is to be quiet
abbrev files_in : List Text → Option (Option Text × Option Text × Bool)
files_in words = option_map (λ (p : Text × List Row). (script_by p.1, log_by p.1, is_quiet_by p.1)) (subcommand_of curspan (codes "curspan" ∷ words))

no_file : files_in four_by_ten ≡ Some (None, None, false)
unfolding clap_on_literals four_by_ten
no_file = refl

a_script_after_a_log : files_in (codes "paint" ∷ codes "--log" ∷ codes "errors" ∷ codes "--quiet" ∷ codes "menu" ∷ []) ≡ Some (Some (codes "menu"), Some (codes "errors"), true)
unfolding clap_on_literals
a_script_after_a_log = refl

standard_input : files_in (codes "check" ∷ codes "-" ∷ []) ≡ Some (None, None, false)
unfolding clap_on_literals
standard_input = refl

a_name_that_begins_with_a_minus : files_in (codes "show" ∷ codes "--" ∷ codes "-x" ∷ []) ≡ Some (Some (codes "-x"), None, false)
unfolding clap_on_literals
a_name_that_begins_with_a_minus = refl

size_of_0 : faults (codes "run" ∷ codes "--lines" ∷ codes "0" ∷ codes "--cols" ∷ codes "10" ∷ []) ≡ kind.ValueValidation ∷ []
unfolding clap_on_literals
size_of_0 = refl

size_of_1000 : faults (codes "run" ∷ codes "--lines" ∷ codes "4" ∷ codes "--cols" ∷ codes "1000" ∷ []) ≡ kind.ValueValidation ∷ []
unfolding clap_on_literals
size_of_1000 = refl

size_in_letters : faults (codes "run" ∷ codes "--lines" ∷ codes "four" ∷ codes "--cols" ∷ codes "10" ∷ []) ≡ kind.ValueValidation ∷ []
unfolding clap_on_literals
size_in_letters = refl

size_twice : faults (codes "run" ∷ codes "--lines" ∷ codes "4" ∷ codes "--lines" ∷ codes "4" ∷ codes "--cols" ∷ codes "10" ∷ []) ≡ kind.ArgumentConflict ∷ []
unfolding clap_on_literals
size_twice = refl

two_scripts : faults (codes "run" ∷ codes "--lines" ∷ codes "4" ∷ codes "--cols" ∷ codes "10" ∷ codes "x" ∷ codes "y" ∷ []) ≡ kind.UnknownArgument ∷ []
unfolding clap_on_literals
two_scripts = refl

another_subcommand : faults (codes "fly" ∷ []) ≡ kind.UnknownArgument ∷ kind.InvalidSubcommand ∷ []
unfolding clap_on_literals
another_subcommand = refl

help : faults (codes "--help" ∷ []) ≡ kind.DisplayHelp ∷ []
unfolding clap_on_literals
help = refl

help_of_run : faults (codes "run" ∷ codes "-h" ∷ []) ≡ kind.DisplayHelp ∷ []
unfolding clap_on_literals
help_of_run = refl
