-- What clap says of this program's command line.
use Rattle.std.specs.Prelude.{◌≡◌, ◌⊎◌, ◌||◌}
use Rattle.commands.specs.{Bool, List, Option, None, Some, Ok, Err, Result, true, false, refl, ap, subst, inl, inr, option_map, ◌∙◌, arith, Bor, IfErr, App, FailsBy, HasMatchesOf, Row, Text}
use Rattle.commands.specs.{fault_of, first_of, first_value, has_subcommand, is_simple, is_simple_and_free, kind_of, rows_of, subcommand_of, subcommand_rows_of, subcommand_name_of, Error}
use Rattle.commands.specs.{OutOfMemory, ArgMatches, Found, IsRefused, Sizes, curspan, text_of}
use Rattle.clap.proofs.OnLiterals.{clap_on_literals}
use Rattle.clap.proofs.WalkLemmas.{first_value-rows}

curspan_is_simple : is_simple curspan ≡ true
unfolding clap_on_literals
curspan_is_simple = refl

curspan_is_free : is_simple_and_free curspan ≡ true
unfolding clap_on_literals
curspan_is_free = refl

-- what clap says of its errors, of this program's command line
pub fails_by_curspan : {T : Type 0} (a : App) (words : List Text) (r : Result T Error) → a ≡ curspan → (is_simple_and_free a ≡ true → FailsBy (fault_of a words) r)
    → FailsBy (fault_of curspan words) r
fails_by_curspan a words r is fails = subst (λ b. FailsBy (fault_of b words) r) is (fails (ap is_simple_and_free is ∙ curspan_is_free))

-- the subcommand of its matches
pub subcommand_of_curspan : (a : App) (words : List Text) (m : ArgMatches) → a ≡ curspan → HasMatchesOf a words m → subcommand_rows_of m ≡ subcommand_of curspan words
subcommand_of_curspan a words m is has = grind (arith, curspan_is_simple)

-- what is said of words that clap refuses
pub refused_by : {T : Type 0} (sizes : Sizes) (words : List Text) (r : Result T Error) → FailsBy (fault_of curspan words) r
    → IfErr r (λ e. (kind_of e ≡ OutOfMemory) ⊎ IsRefused sizes words (kind_of e))
refused_by sizes words (Ok x) h = tt
refused_by sizes words (Err e) (inl memory) = inl memory
refused_by sizes words (Err e) (inr among) = inr (inl among)

-- a subcommand, by its name and its rows
pub named_by : (m : ArgMatches) (name : Text) (rows : List Row) → Some name ≡ subcommand_name_of m → Some rows ≡ option_map (λ p. p.1) (subcommand_rows_of m)
    → subcommand_rows_of m ≡ Some (name, rows)
named_by m name rows named its = grind arith

pub unnamed : (m : ArgMatches) → false ≡ has_subcommand m → subcommand_rows_of m ≡ None
unnamed m none = grind arith

-- the first text of an argument
pub text_read : (f : Found) (id : Text) (o : Option (Bor Text)) → text_of o ≡ first_value f id → text_of o ≡ first_of id (rows_of f)
text_read f id o e = e ∙ first_value-rows f id

-- no argument is global after one that isn't
pub still_local : (old new global : Bool) → new ≡ (old || global) → global ≡ false → new ≡ old
still_local old new global is local = grind arith
