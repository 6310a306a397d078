-- A program to which subcommands are added in turn.
use Rattle.std.specs.Prelude.{◌≡◌, ◌<◌, ◌+◌, ◌∷◌, ◌++◌}
use Rattle.commands.specs.{◌∙◌, [], ℕ, Bool, List, ap, false, get_or, length, map, sym, take, map-append, take_more, fold, AddsInTurn, AddsSubcommand, App, app_of, with_subcommand, Command}
use Rattle.commands.specs.{out-Command, mode}
use Rattle.commands.specs.declared.requests.Kind.{Kind}

-- what a command defines, and whether an argument of it is global
abbrev pub defined : Command → App × Bool
defined c = (app_of c, (out-Command c).has_globals)

abbrev pub with_all : App → List App → App
with_all = fold (λ app sub. with_subcommand app sub.top)

one_added : (old sub new : Command) (app known : App) → AddsSubcommand old sub new → defined sub ≡ (app, false) → app_of old ≡ known
    → app_of new ≡ with_subcommand known app.top
one_added old sub new app known adds is was =
    adds.shape (ap (λ d. d.1) is) ∙ ap (λ (d : App × Bool). with_subcommand (app_of old) d.0.top) is ∙ ap (λ a. with_subcommand a app.top) was

pub all_added : (old new : Command) (subs : List Command) (apps : List App) (known : App) → AddsInTurn AddsSubcommand old subs new
    → map defined subs ≡ map (λ app. (app, false)) apps → app_of old ≡ known → app_of new ≡ with_all known apps
all_added old new [] [] known adds are was = ap app_of (sym adds) ∙ was
all_added old new [] (app ∷ apps) known adds are was = cc
all_added old new (sub ∷ subs) [] known adds are was = cc
all_added old new (sub ∷ subs) (app ∷ apps) known (m, adds, rest) are was =
    let first : defined sub ≡ (app, false) = cc in
    let others : map defined subs ≡ map (λ a. (a, false)) apps = cc in
    all_added m new subs apps _ rest others (one_added old sub m app known adds first was)

-- one more is made, after those that are
pub one_more : (subs : List Command) (sub : Command) (made : List (App × Bool)) (app : App) → map defined subs ≡ made → app_of sub ≡ app
    → (out-Command sub).has_globals ≡ false → map defined (subs ++ sub ∷ []) ≡ made ++ (app, false) ∷ []
one_more subs sub made app are is local =
    map-append defined subs (sub ∷ []) ∙ ap (λ l. l ++ defined sub ∷ []) are ∙ ap (λ (a : App). made ++ (a, (out-Command sub).has_globals) ∷ []) is
    ∙ ap (λ (b : Bool). made ++ (app, b) ∷ []) local

-- the subcommands of kinds
abbrev pub made : List Kind → List (App × Bool)
made = map (λ kind. (mode kind, false))

pub kind_made : (subs : List Command) (sub : Command) (kinds : List Kind) (i : ℕ) (d : Kind) → i < length kinds → map defined subs ≡ made (take i kinds)
    → app_of sub ≡ mode (get_or kinds i d) → (out-Command sub).has_globals ≡ false → map defined (subs ++ sub ∷ []) ≡ made (take (i + 1) kinds)
kind_made subs sub kinds i d short are is local =
    one_more subs sub (made (take i kinds)) _ are is local ∙ sym (ap made (take_more kinds i d short) ∙ map-append _ (take i kinds) (get_or kinds i d ∷ []))
