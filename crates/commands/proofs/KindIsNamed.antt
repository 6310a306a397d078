-- Where clap refuses nothing of the words, the subcommand at which its walk stops is one of the program's.
use Rattle.std.specs.Prelude.{◌≡◌, ◌⊎◌, ◌∷◌}
use Rattle.commands.specs.{ℕ, Bool, true, false, cond, List, [], Option, Some, None, refl, codes, inl, inr, arith, IfSome, fold, option_map, check_fault, level_fault, other_fault, turn_fault}
use Rattle.commands.specs.{walk_fault, word_fault, Kinds, or_else, Shape, Held, Outcome, Rule, Step, Waiting, Walk, after_flag, after_step, answers_to, finished, idle, long_or_other, next}
use Rattle.clap.specs.Walk.{Names}
use Rattle.commands.specs.{nothing_held, option, plain_word, positional, subcommand, subcommand_met, subcommand_or_other, trailing, value, walk, walk_from, walked, word_met, check_text, kind_text}
use Rattle.clap.specs.Walk.{Text}
use Rattle.clap.specs.declared.error.kind.ErrorKind.TheVariants as kind
use Rattle.commands.specs.declared.requests.Kind.{Kind}
use Rattle.commands.specs.declared.requests.Kind.TheVariants.{Run, Paint, Show}

both_none : (a b : Kinds) → or_else a b ≡ [] → (a ≡ []) × (b ≡ [])
both_none a b e = grind arith

-- Nothing that clap looks at on a level has a fault.
pub record PassesLevel (s : Shape) (names : Names) (words : List Text) (has_subcommand : Bool) : Type 0 where
  pub walks : walk_fault s names (walk_from nothing_held) words ≡ []
  pub checks : check_fault s (finished s.rules (walk s.rules names nothing_held words).held) has_subcommand ≡ []

pub level_passes : (s : Shape) (names : Names) (words : List Text) (has_subcommand : Bool) (below : Kinds) → level_fault s names nothing_held words has_subcommand below ≡ []
    → PassesLevel s names words has_subcommand
level_passes s names words has_subcommand below none = grind (arith, both_none)

-- the subcommand that a word was
abbrev step_name : Step → Option Text
step_name (subcommand name) = Some name
step_name (next waiting) = None
step_name (trailing position) = None
step_name value = None

plain_name : (c : List Rule) (w : Waiting) (word : Text) (h : Held) → step_name (plain_word c w word h).1 ≡ None
plain_name c w word h = grind arith

flag_name : (c : List Rule) (w : Waiting) (word : Text) (h : Held) (o : Outcome) → step_name (after_flag c w word h o).1 ≡ None
flag_name c w word h o = grind (arith, plain_name)

flag_word_name : (c : List Rule) (w : Waiting) (word : Text) (o : Option (Text × Option Text)) (h : Held) → step_name (long_or_other c w word o h).1 ≡ None
flag_word_name c w word o h = grind (arith, flag_name, plain_name)

other_name : (c : List Rule) (o : Option Text) (w : Waiting) (position : ℕ) (word : Text) (h : Held) → step_name (subcommand_or_other c o w position word h).1 ≡ o
other_name c o w position word h = grind (arith, flag_word_name)

-- the subcommands of the program, with the one that clap adds
abbrev pub program_names : Names
program_names = (codes "run", []) ∷ (codes "paint", []) ∷ (codes "show", []) ∷ (check_text, []) ∷ (codes "help", []) ∷ []

-- a subcommand of the program
abbrev pub IsKindsName : Text → Type 0
IsKindsName name = ((kind : Kind) × (name ≡ kind_text kind)) ⊎ (name ≡ check_text)

-- nothing, or such a subcommand and what follows it
abbrev pub StopsAtKind : Option (Text × List Text) → Type 0
StopsAtKind o = IfSome o (λ p. IsKindsName p.0)

-- by which of the names a word is
abbrev named : Bool → Bool → Bool → Bool → Bool → Option Text
named a b c check d =
    option_map {T = Text × List Text} (λ n. n.0)
    (cond a (Some (codes "run", [])) (cond b (Some (codes "paint", [])) (cond c (Some (codes "show", [])) (cond check (Some (check_text, [])) (cond d (Some (codes "help", [])) None)))))

module _ (s : Shape) (has_help : s.disable_help_subcommand ≡ false) where
  kind_is_met : (w : Waiting) (word : Text) (h : Held) → other_fault s (subcommand_met program_names w word) word h ≡ []
      → IfSome (subcommand_met program_names w word) IsKindsName
  kind_is_met (option id) word h none = tt
  kind_is_met positional word h none = tt
  kind_is_met idle word h none = go (answers_to word (codes "run", [])) (answers_to word (codes "paint", [])) (answers_to word (codes "show", [])) (answers_to word (check_text, []))
      (answers_to word (codes "help", [])) none
    where
      go : (a b c check d : Bool) → other_fault s (named a b c check d) word h ≡ [] → IfSome (named a b c check d) IsKindsName
      go true b c check d e = inl (Run, refl)
      go false true c check d e = inl (Paint, refl)
      go false false true check d e = inl (Show, refl)
      go false false false true d e = inr refl
      go false false false false false e = tt
      go false false false false true e =
          let bad : kind.DisplayHelp ∷ kind.InvalidSubcommand ∷ [] ≡ [] = rw has_help at e in
          cc

  step_stops : (word : Text) (w : Walk) (h : Held) (step : Step) → w.stopped ≡ None → IfSome (step_name step) IsKindsName
      → StopsAtKind (after_step s.rules word w h step).stopped
  step_stops word w h step on name = grind arith

  word_stops : (t : Bool) (w : Waiting) (position : ℕ) (word : Text) (h : Held) → word_fault s program_names t w word h ≡ []
      → IfSome (step_name (word_met s.rules program_names t w position word h).1) IsKindsName
  word_stops t w position word h none = grind (arith, other_name, kind_is_met)

  turn_stops : (w : Walk) (word : Text) → turn_fault s program_names w word ≡ [] → StopsAtKind w.stopped → StopsAtKind (walked s.rules program_names w word).stopped
  unfolding walked
  turn_stops w word none stops = grind (arith, both_none, step_stops, word_stops)

  -- where the walk stops
  pub walk_stops : (words : List Text) (w : Walk) → walk_fault s program_names w words ≡ [] → StopsAtKind w.stopped
      → StopsAtKind (fold (walked s.rules program_names) w words).stopped
  unfolding walk_fault
  walk_stops [] w none stops = stops
  walk_stops (word ∷ rest) w none stops = grind (arith, both_none, turn_stops, (walk_stops rest (walked s.rules program_names w word)))
