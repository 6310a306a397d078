-- Lemmas on texts that are read a character at a time.
use Rattle.std.specs.Prelude.{◌≡◌, ◌==◌, ◌∷◌, ◌++◌}
use Rattle.script.specs.{arith, ℕ, false, List, [], Option, Some, option_map, refl, append_assoc, list_any, backslash, text_of}

pub nothing_before : (r : Option (List ℕ)) (xs : List ℕ) → xs ≡ [] → r ≡ option_map (λ t. xs ++ t) r
nothing_before r xs e = grind arith

-- one more character before it
pub one_before : (all rest : Option (List ℕ)) (xs ys : List ℕ) (c : ℕ) → all ≡ option_map (λ t. xs ++ t) (option_map (λ t. c ∷ t) rest)
    → ys ≡ xs ++ c ∷ [] → all ≡ option_map (λ t. ys ++ t) rest
one_before all rest xs ys c h e = grind (arith, append_assoc)

pub plain_text : (piece : List ℕ) → list_any (λ b. b == backslash) piece ≡ false → text_of piece ≡ Some piece
plain_text [] h = refl
plain_text (b ∷ piece) h = grind (arith, (plain_text piece))
